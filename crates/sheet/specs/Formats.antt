-- A format: fields in byte order, each with its width, the test that its value has to pass and the refusal's number where it does not.
-- Section "The night sheet": "the first fault in byte order decides, with the offset of its field's first byte".
use Rattle.std.specs.Prelude.{Bool, List, ℕ, ◌+◌, leb, length}
use Rattle.combine.specs.Tests.{pick}
use Rattle.words.specs.Words.{value}
use Rattle.hall.specs.Refusals.{bad_sheet}
use Rattle.sheet.specs.declared.Field.{Field}
use Rattle.sheet.specs.declared.Field.TheVariants.{Value, Refused}

-- nothing more, and what was read for; or a field, and the fields that its value calls for behind it
pub data Format : Type 0 where
  done : ℕ → Format
  field : (width : ℕ) → (sound : ℕ → Bool) → (number : ℕ) → (behind : ℕ → Format) → Format

-- one format behind another, by what the first was read for
unfoldable pub and_then : Format → (ℕ → Format) → Format
and_then (done v) next = next v
and_then (field width sound number behind) next = field width sound number (λ v. and_then (behind v) next)

-- a field that is not wholly there is a cut, told at the sheet's length; a whole one that is not sound is told at its first byte
unfoldable pub read : Format → List ℕ → ℕ → Field
read (done v) s at = Value v at
read (field width sound number behind) s at =
    pick (leb (at + width) (length s))
    (pick (sound (value s at width)) (read (behind (value s at width)) s (at + width)) (Refused number at))
    (Refused bad_sheet (length s))
