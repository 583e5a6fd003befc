-- The place that a refused frame tells: the first byte of the field that is at fault.
-- Section "Refusal numbers", and request K6, "Which header field".
use Rattle.std.specs.Prelude.{◌≡◌, ℕ, ◌+◌, ◌*◌, ◌/◌, ◌%◌, ◌<◌, ◌≤◌, List, [], ◌∷◌, ◌==◌, slice_index}
use Rattle.combine.specs.Tests.{pick}
use Rattle.hall.specs.Refusals.{bad_version, bad_DHL, bad_flags, bad_PF}
use Rattle.frame.specs.Layout.{version, DHL, flags, value_in, offset, word_at}

-- the byte of a header in which a field begins
unfoldable pub byte_of : ℕ → ℕ
byte_of field = offset field / 8

-- the numbers that tell a place, each with the field that it is about; PF is one of the flags
abbrev pub faults : List (ℕ × ℕ)
faults = (bad_version, version) ∷ (bad_DHL, DHL) ∷ (bad_flags, flags) ∷ (bad_PF, flags) ∷ []

-- the first byte of the field that a number is about, 0 where it is about none
unfoldable pub place_in : List (ℕ × ℕ) → ℕ → ℕ
place_in [] number = 0
place_in (fault ∷ rest) number = pick (fault.0 == number) (byte_of fault.1) (place_in rest number)

unfoldable pub place_of : ℕ → ℕ
place_of number = place_in faults number

-- a place is the first byte of a field where one of the byte's eight bits is the field's first
pub record FirstByte (field place : ℕ) : Type 0 where
  pub from : 8 * place ≤ offset field
  pub before : offset field < 8 * place + 8

-- each of the four numbers tells the first byte of its field, and every other number tells 0
pub record Places : Type 0 where
  pub of_version : FirstByte version (place_of bad_version)
  pub of_DHL : FirstByte DHL (place_of bad_DHL)
  pub of_flags : FirstByte flags (place_of bad_flags)
  pub of_PF : FirstByte flags (place_of bad_PF)
  pub of_others : (number : ℕ) → (bad_version ≤ number → number ≤ bad_PF → ⊥) → place_of number ≡ 0

-- in a frame the byte there shows the field: version is its upper half, DHL and flags are the lower
pub record Shown (frame : List ℕ) : Type 0 where
  pub of_version : value_in (word_at frame) version ≡ slice_index frame (place_of bad_version) / 16
  pub of_DHL : value_in (word_at frame) DHL ≡ slice_index frame (place_of bad_DHL) % 16
  pub of_flags : value_in (word_at frame) flags ≡ slice_index frame (place_of bad_flags) % 16
  pub of_PF : value_in (word_at frame) flags ≡ slice_index frame (place_of bad_PF) % 16
