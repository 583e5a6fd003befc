-- Laws of what reading a sheet answers, by the test that decides it.
use mathlib.Core.Path.{◌≡◌, ◌∙◌}
use mathlib.Core.List.{List}
use Prim.Native.Nat.{ℕ, ◌≤◌, ◌<◌}
use lib.ListN.{length}
use borrow.Author.Tests.{lt-ltb, le-ltb}
use Rattle.hall.specs.Refusals.{bad_sheet}
use Rattle.sheet.specs.declared.Field.TheVariants.{Value, Refused}
use Rattle.sheet.specs.Formats.{read}
use Rattle.sheet.specs.Sheets.{longest, night_sheet}
use Rattle.sheet.specs.Answers.{hall_in, refused_at, accepted_as, told, sheet_of}

module _ (s : List ℕ) where
  -- too long, whatever stands in it
  pub sheet_long : longest < length s → sheet_of s ≡ refused_at bad_sheet longest
  unfolding sheet_of
  sheet_long h = rw (lt-ltb longest (length s) h)

  module _ (short : length s ≤ longest) where
    pub sheet_read : sheet_of s ≡ told s (read night_sheet s 0)
    unfolding sheet_of
    sheet_read = rw (le-ltb longest (length s) short)

    pub sheet_refused : (number place : ℕ) → read night_sheet s 0 ≡ Refused number place → sheet_of s ≡ refused_at number place
    sheet_refused number place e = sheet_read ∙ rw e

    module _ (packetCount end : ℕ) (e : read night_sheet s 0 ≡ Value packetCount end) where
      pub sheet_surplus : end < length s → sheet_of s ≡ refused_at bad_sheet end
      sheet_surplus h = sheet_read ∙ rw (e, lt-ltb end (length s) h)

      pub sheet_accepted : length s ≤ end → sheet_of s ≡ accepted_as (hall_in s) packetCount
      sheet_accepted h = sheet_read ∙ rw (e, le-ltb end (length s) h)
