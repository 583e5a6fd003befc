-- `calls_sheets::calls_sheet_codes` meets its contract: it tells the codes, and a refusal by its number.
use mathlib.Core.Path.{sym}
use Rattle.hall.proofs.Told.{told_refused, written_refused}
use Rattle.calls_sheets.proofs.calls_sheet_codes.Goals as goal

pub returns-then-number-ne0-clause-number : goal.returns-then-number-ne0-clause-number
returns-then-number-ne0-clause-number c = rw (← c.read_sheet-number.ensures) (sym (told_refused _ _ _ c.if-number-ne0.true))

pub returns-then-number-ne0-clause-room : goal.returns-then-number-ne0-clause-room
returns-then-number-ne0-clause-room c = rw (← c.read_sheet-number.ensures) (written_refused _ _ _ c.if-number-ne0.true)
