-- The order in which a frame that is read is refused.
-- Section "Refusal numbers".
use Rattle.std.specs.Prelude.{◌≡◌, ℕ, ◌+◌, ◌*◌, ◌<◌, ◌≤◌, Bool, true, false, List, [], ◌∷◌, ◌++◌, length, ◌==◌, ◌≢◌, nat_le}
use Rattle.combine.specs.Tests.{either}
use Rattle.hall.specs.Refusals.{Ask, in_order, short_frame, bad_checksum, bad_address, bad_version, bad_DHL, bad_flags, bad_PF}
use Rattle.frame.specs.Layout.{version, DHL, payload_length, flags, checksum, source, destination, proxy, front, the_version, words_with, is_pf, value_in, word_at}
use Rattle.frame.specs.Checksum.{header_checksum}
use Rattle.frame.specs.Addresses.{addresses_fit}

-- version, DHL, flags, and PF set exactly when DHL counts a proxy
unfoldable pub asks_header : ℕ → ℕ → ℕ → List Ask
asks_header versionNumber words flagBits =
    (bad_version, (versionNumber == the_version))
    ∷ (bad_DHL, either (words == words_with false) (words == words_with true))
    ∷ (bad_flags, nat_le flagBits 1)
    ∷ (bad_PF, (words == words_with (is_pf flagBits)))
    ∷ []

-- the rule of the addresses, by a header's values
abbrev pub addresses_sound : (ℕ → ℕ) → Bool
addresses_sound values = addresses_fit (values source) (values destination) (is_pf (values flags)) (values proxy)

-- what is asked once the header is all there, of a frame of a size whose checksum works out to sum
unfoldable pub asks_whole : ℕ → (ℕ → ℕ) → ℕ → List Ask
asks_whole size values sum =
    (short_frame, nat_le (4 * values DHL) size)
    ∷ (bad_checksum, (values checksum == sum))
    ∷ (bad_address, addresses_sound values)
    ∷ (short_frame, nat_le (4 * values DHL + values payload_length) size)
    ∷ []

unfoldable pub asks_frame : ℕ → (ℕ → ℕ) → ℕ → List Ask
asks_frame size values sum =
    (short_frame, nat_le (4 * length front) size)
    ∷ asks_header (values version) (values DHL) (values flags)
    ++ asks_whole size values sum

-- the checksum of a frame, worked out over the words that DHL says
abbrev pub sum_in : List ℕ → ℕ
sum_in frame = header_checksum (word_at frame) (value_in (word_at frame) DHL)

-- what is asked of a frame's version, DHL and flags
abbrev pub field_asks : List ℕ → List Ask
field_asks frame = asks_header (value_in (word_at frame) version) (value_in (word_at frame) DHL) (value_in (word_at frame) flags)

-- what is asked of a frame once its header is all there
abbrev pub whole_asks : List ℕ → List Ask
whole_asks frame = asks_whole (length frame) (value_in (word_at frame)) (sum_in frame)

-- what DHL and flags say where they are sound: the header's words, and whether it has a proxy
pub record Told (words : ℕ → ℕ) (count : ℕ) (proxied : Bool) : Type 0 where
  pub counted : count ≡ value_in words DHL
  pub flagged : proxied ≡ is_pf (value_in words flags)
  pub agrees : count ≡ words_with proxied

-- a frame's refusal
unfoldable pub frame_refusal : List ℕ → ℕ
frame_refusal frame = in_order (asks_frame (length frame) (value_in (word_at frame)) (sum_in frame))

-- version, DHL, flags and PF are checked in that order: the first that is at fault gives the number, whatever is behind it
pub record Checked (values : ℕ → ℕ) (number : ℕ) : Type 0 where
  pub of_version : (values version ≢ the_version) → number ≡ bad_version
  pub of_DHL : values version ≡ the_version → ((proxied : Bool) → values DHL ≢ words_with proxied) → number ≡ bad_DHL
  pub of_flags : values version ≡ the_version → (proxied : Bool) → values DHL ≡ words_with proxied → 1 < values flags → number ≡ bad_flags
  pub of_PF : values version ≡ the_version → (proxied : Bool) → values DHL ≡ words_with proxied → values flags ≤ 1 → (proxied ≢ is_pf (values flags))
      → number ≡ bad_PF

-- in every frame of at least 20 bytes
abbrev pub FieldsChecked : Type 0
FieldsChecked = (frame : List ℕ) → 4 * length front ≤ length frame → Checked (value_in (word_at frame)) (frame_refusal frame)
