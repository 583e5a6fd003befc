-- `calls_sheets::calls_sheet_packet` meets its contract: it tells the packet, and a refusal by its number.
use mathlib.Core.Path.{sym}
use Rattle.hall.proofs.Told.{told_refused, written_refused}
use Rattle.calls_sheets.proofs.calls_sheet_packet.Goals as goal

pub returns-then-p-ne0-clause-number : goal.returns-then-p-ne0-clause-number
returns-then-p-ne0-clause-number c = rw (← c.packet_at-p.ensures) (sym (told_refused _ _ _ c.if-p-ne0.true))

pub returns-then-p-ne0-clause-room : goal.returns-then-p-ne0-clause-room
returns-then-p-ne0-clause-room c = rw (← c.packet_at-p.ensures) (written_refused _ _ _ c.if-p-ne0.true)

pub returns-clause-room : goal.returns-clause-room
returns-clause-room c = rw (← c.packet_at-p.ensures, c.if-p-ne0.false, ← c.from.ensures, ← c.from-2.ensures) c.tell.ensures.room
