-- Reading a frame as it was before request K6: version, DHL, flags and PF shared the number 8, and no refusal told a place.
-- Kept for one statement alone: K6 changed nothing else. Sections "Frame header" and "Refusal numbers".
use Rattle.std.specs.Prelude.{◌≡◌, ℕ, ◌*◌, true, false, List, [], ◌∷◌, ◌++◌, length, ◌==◌, nat_le}
use Rattle.combine.specs.Tests.{pick, both, either}
use Rattle.hall.specs.Refusals.{Ask, in_order, answered, short_frame, bad_version, bad_PF}
use Rattle.frame.specs.Layout.{version, DHL, flags, front, the_version, words_with, is_pf, value_in, word_at}
use Rattle.frame.specs.Asks.{asks_whole, sum_in, frame_refusal}
use Rattle.frame.specs.Reading.{HeaderAnswer, header_of, refused_at, read_frame, behind_header, payload_of}

-- the number that the four shared
abbrev pub bad_header : ℕ
bad_header = 8

unfoldable pub asks_header_before : ℕ → ℕ → ℕ → List Ask
asks_header_before versionNumber words flagBits =
    (bad_header, (versionNumber == the_version))
    ∷ (bad_header, either (words == words_with false) (words == words_with true))
    ∷ (bad_header, nat_le flagBits 1)
    ∷ (bad_header, (words == words_with (is_pf flagBits)))
    ∷ []

unfoldable pub asks_frame_before : ℕ → (ℕ → ℕ) → ℕ → List Ask
asks_frame_before size values sum =
    (short_frame, nat_le (4 * length front) size)
    ∷ asks_header_before (values version) (values DHL) (values flags)
    ++ asks_whole size values sum

unfoldable pub refusal_before : List ℕ → ℕ
refusal_before frame = in_order (asks_frame_before (length frame) (value_in (word_at frame)) (sum_in frame))

abbrev pub read_before : List ℕ → HeaderAnswer
read_before frame = answered (refusal_before frame) (header_of (value_in (word_at frame))) (λ number. refused_at number 0)

abbrev pub payload_before : List ℕ → List ℕ
payload_before frame = pick (refusal_before frame == 0) (behind_header frame) []

-- the number of before for each number of now
unfoldable pub number_before : ℕ → ℕ
number_before number = pick (both (nat_le bad_version number) (nat_le number bad_PF)) bad_header number

pub record AsBefore (frame : List ℕ) : Type 0 where
  -- the frames accepted are those of before
  pub accepted : refusal_before frame ≡ 0 → frame_refusal frame ≡ 0
  pub accepted_before : frame_refusal frame ≡ 0 → refusal_before frame ≡ 0
  -- and so is what is answered for them
  pub same_fields : frame_refusal frame ≡ 0 → read_frame frame ≡ read_before frame
  -- the payload is that of before, an empty part where the frame is refused
  pub same_payload : payload_of frame ≡ payload_before frame
  -- a refusal's number is that of before, but where it was 8; and that is no frame's number any more
  pub same_number : refusal_before frame ≡ number_before (frame_refusal frame)
  pub no_eight : frame_refusal frame ≡ bad_header → ⊥
