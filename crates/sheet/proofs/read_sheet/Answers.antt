-- `sheet::read_sheet` meets its contract: the length decides, then the whole sheet's read, then what stands behind it.
use mathlib.Core.Path.{sym, ◌∙◌}
use Rattle.sheet.proofs.Sheets.{sheet_long, sheet_refused, sheet_surplus, sheet_accepted}
use Rattle.sheet.specs.Sheets.{tables_of, night_sheet}
use Rattle.sheet.proofs.Heads.{hall_read}
use Rattle.sheet.proofs.read_sheet.Goals as goal

pub returns-then-length-gt-LONGEST : goal.returns-then-length-gt-LONGEST
returns-then-length-gt-LONGEST c =
    c.refused_at.ensures ∙ sym (sheet_long _ c.if-length-gt-LONGEST.true)

pub returns-then-end-length : goal.returns-then-end-length
returns-then-end-length c =
    c.refused_at-then-end-length.ensures ∙ sym (sheet_surplus _ c.if-length-gt-LONGEST.false _ _ (sym c.read_whole-whole.ensures ∙ c.in-Value.is) c.if-end-length.true)

pub hall_in-requires : goal.hall_in-requires
unfolding night_sheet
hall_in-requires c =
    (hall_read tables_of _ _ _ (sym c.read_whole-whole.ensures ∙ c.in-Value.is)).0

pub returns-in-Refused : goal.returns-in-Refused
returns-in-Refused c =
    c.refused_at-in-Refused.ensures ∙ sym (sheet_refused _ c.if-length-gt-LONGEST.false _ _ (sym c.read_whole-whole.ensures ∙ c.in-Refused.is))

pub returns-else-end-length : goal.returns-else-end-length
returns-else-end-length c =
    rw c.hall_in.ensures (sym (sheet_accepted _ c.if-length-gt-LONGEST.false _ _ (sym c.read_whole-whole.ensures ∙ c.in-Value.is) c.if-end-length.false))
