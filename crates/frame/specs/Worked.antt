-- Worked headers: the values that the definitions compute.
-- Sections "Frame header" and "Bench cases".
use Rattle.std.specs.Prelude.{◌≡◌, ℕ, true, false, List, [], ◌∷◌, ◌++◌, refl}
use Rattle.hall.specs.Refusals.{in_order, short_frame, bad_checksum, bad_version, bad_DHL, bad_flags, bad_PF}
use Rattle.rows.specs.Rows.{bits, has, cut, value_by, before, offset_in}
use Rattle.frame.specs.Layout.{more_of, words_with, rows_in, value_in, offset, word_at}
use Rattle.frame.specs.Checksum.{plus_ones, sum_ones, without, checksum_of, halves, checksum_place, header_checksum}
use Rattle.frame.specs.Addresses.{server, broadcast, addresses_fit}
use Rattle.frame.specs.Asks.{asks_header, asks_whole, asks_frame, frame_refusal}
use Rattle.frame.specs.Places.{byte_of, place_in, place_of}
use Rattle.frame.specs.Reading.{read_frame, next_identification}

-- 1506 0000 0000 0001 500F 9AD6 0000 0000 0000 0013
abbrev pub frame : List ℕ
frame = 21 ∷ 6 ∷ 0 ∷ 0 ∷ 0 ∷ 0 ∷ 0 ∷ 1 ∷ 80 ∷ 15 ∷ 154 ∷ 214 ∷ 0 ∷ 0 ∷ 0 ∷ 0 ∷ 0 ∷ 0 ∷ 0 ∷ 19 ∷ []

-- DHL is the number of rows: 5, and 6 with a proxy
pub rows_counted : (words_with false ≡ 5) × (words_with true ≡ 6)
unfolding more_of
rows_counted = (refl, refl)

-- the checksum is the sixth 16-bit word
pub checksum_place_lem : checksum_place ≡ 5
unfolding checksum_place offset offset_in before has bits
checksum_place_lem = refl

-- version and DHL begin in byte 0, the flags in byte 8
pub places_told : (place_of bad_version ≡ 0) × (place_of bad_DHL ≡ 0) × (place_of bad_flags ≡ 8) × (place_of bad_PF ≡ 8)
unfolding place_of place_in byte_of offset offset_in before has bits
places_told = (refl, refl, refl, refl)

pub frame_read : read_frame frame
    ≡ record {
      refusal = 0;
      place = 0;
      protocol = 6;
      payload_length = 0;
      identification = 1;
      retry = 5;
      ttl = 15;
      source = 0;
      destination = 19;
      has_proxy = false;
      proxy = 0;
      header_length = 20;
    }
unfolding bits cut has value_by more_of rows_in value_in word_at before offset_in offset checksum_place plus_ones sum_ones without checksum_of halves header_checksum server broadcast addresses_fit in_order asks_header asks_whole asks_frame frame_refusal
frame_read = refl

-- FFFF where 0000 is due: the sum can't tell them apart, and the frame is refused
abbrev pub due : List ℕ → List ℕ
due sum = 21 ∷ 6 ∷ 0 ∷ 0 ∷ 154 ∷ 214 ∷ 0 ∷ 1 ∷ 80 ∷ 15 ∷ sum ++ (0 ∷ 0 ∷ 0 ∷ 0 ∷ 0 ∷ 0 ∷ 0 ∷ 19 ∷ [])

pub zero_due : frame_refusal (due (0 ∷ 0 ∷ [])) ≡ 0
unfolding bits cut has value_by more_of rows_in value_in word_at before offset_in offset checksum_place plus_ones sum_ones without checksum_of halves header_checksum server broadcast addresses_fit in_order asks_header asks_whole asks_frame frame_refusal
zero_due = refl

pub ones_refused : frame_refusal (due (255 ∷ 255 ∷ [])) ≡ bad_checksum
unfolding bits cut has value_by more_of rows_in value_in word_at before offset_in offset checksum_place plus_ones sum_ones without checksum_of halves header_checksum server broadcast addresses_fit in_order asks_header asks_whole asks_frame frame_refusal
ones_refused = refl

-- the frame with another byte of version and DHL, and another byte of retry and flags: the number and the place that are told
abbrev pub told : ℕ → ℕ → ℕ × ℕ
told first third =
    let header = read_frame (first ∷ 6 ∷ 0 ∷ 0 ∷ 0 ∷ 0 ∷ 0 ∷ 1 ∷ third ∷ 15 ∷ 154 ∷ 214 ∷ 0 ∷ 0 ∷ 0 ∷ 0 ∷ 0 ∷ 0 ∷ 0 ∷ 19 ∷ []) in
    (header.refusal, header.place)

-- version 4; DHL 7; flags 2; DHL 6 without PF, and DHL 5 with it; DHL 6 with PF, for which 20 bytes are too few: that tells no place
pub one_fault : (told 69 80 ≡ (bad_version, 0)) × (told 23 80 ≡ (bad_DHL, 0)) × (told 21 82 ≡ (bad_flags, 8)) × (told 22 80 ≡ (bad_PF, 8)) × (told 21 81 ≡ (bad_PF, 8)) × (told 22 81 ≡ (short_frame, 0))
unfolding bits cut has value_by more_of rows_in value_in word_at before offset_in offset checksum_place plus_ones sum_ones without checksum_of halves header_checksum server broadcast addresses_fit in_order asks_header asks_whole asks_frame frame_refusal byte_of place_in place_of
one_fault = (refl, refl, refl, refl, refl, refl)

-- version first, also with DHL, flags or PF at fault; then DHL, also with flags; then flags, also where PF and DHL disagree
pub two_faults : (told 71 80 ≡ (bad_version, 0)) × (told 69 82 ≡ (bad_version, 0)) × (told 70 80 ≡ (bad_version, 0)) × (told 23 82 ≡ (bad_DHL, 0)) × (told 22 82 ≡ (bad_flags, 8))
unfolding bits cut has value_by more_of rows_in value_in word_at before offset_in offset checksum_place plus_ones sum_ones without checksum_of halves header_checksum server broadcast addresses_fit in_order asks_header asks_whole asks_frame frame_refusal byte_of place_in place_of
two_faults = (refl, refl, refl, refl, refl)

-- the identification after the last is 0
pub identification_wraps : next_identification 4294967295 ≡ 0
identification_wraps = refl
