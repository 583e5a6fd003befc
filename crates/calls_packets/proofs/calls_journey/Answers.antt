-- `calls_packets::calls_journey` meets its contract: it tells the uids passed, and a refusal by its number.
use mathlib.Core.Path.{◌∙◌}
use Rattle.hall.proofs.Stated.{refusal_told, refusal_unwritten}
use Rattle.calls_packets.proofs.calls_journey.Goals as goal

pub returns-in-Ok-clause-number : goal.returns-in-Ok-clause-number
returns-in-Ok-clause-number c = let e = rw c.in-Ok.is at c.journey_of.ensures in rw (← e) c.tell.ensures.number

pub returns-in-Err-clause-number : goal.returns-in-Err-clause-number
returns-in-Err-clause-number c = let e = rw c.in-Err.is at c.journey_of.ensures in rw (← e) (c.number.ensures ∙ refusal_told _ _ _)

pub returns-in-Err-clause-room : goal.returns-in-Err-clause-room
returns-in-Err-clause-room c = let e = rw c.in-Err.is at c.journey_of.ensures in rw (← e) (refusal_unwritten _ _ _)
