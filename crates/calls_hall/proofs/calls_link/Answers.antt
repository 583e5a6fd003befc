-- `calls_hall::calls_link` meets its contract: it tells the ends, and a refusal by its number.
use mathlib.Core.Path.{◌∙◌}
use Rattle.hall.proofs.Stated.{refusal_told, refusal_unwritten}
use Rattle.calls_hall.proofs.calls_link.Goals as goal

pub returns-in-Ok-clause-room : goal.returns-in-Ok-clause-room
returns-in-Ok-clause-room c = rw (← c.in-Ok.ensures) c.tell.ensures.room

pub returns-in-Err-clause-number : goal.returns-in-Err-clause-number
returns-in-Err-clause-number c = rw (← c.in-Err.ensures) (c.number.ensures ∙ refusal_told _ _ _)

pub returns-in-Err-clause-room : goal.returns-in-Err-clause-room
returns-in-Err-clause-room c = rw (← c.in-Err.ensures) (refusal_unwritten _ _ _)
