-- `calls_sheets::calls_sheet` meets its contract: it tells the hall and the number of packets, and a refusal by its number.
use mathlib.Core.Path.{sym}
use Rattle.hall.proofs.Told.{told_refused, written_refused}
use Rattle.calls_sheets.proofs.calls_sheet.Goals as goal

pub returns-then-read-ne0-clause-number : goal.returns-then-read-ne0-clause-number
returns-then-read-ne0-clause-number c = rw (← c.read_sheet-read.ensures) (sym (told_refused _ _ _ c.if-read-ne0.true))

pub returns-then-read-ne0-clause-room : goal.returns-then-read-ne0-clause-room
returns-then-read-ne0-clause-room c = rw (← c.read_sheet-read.ensures) (written_refused _ _ _ c.if-read-ne0.true)

pub returns-clause-room : goal.returns-clause-room
returns-clause-room c = rw (← c.read_sheet-read.ensures, c.if-read-ne0.false) c.tell.ensures.room
