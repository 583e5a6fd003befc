-- `calls_packets::calls_distances` meets its contract: it tells the distances, and a refusal by its number.
use mathlib.Core.Path.{◌∙◌}
use Rattle.hall.proofs.Stated.{refusal_told, refusal_unwritten}
use Rattle.calls_packets.proofs.calls_distances.Goals as goal

pub returns-in-Err-clause-number : goal.returns-in-Err-clause-number
returns-in-Err-clause-number c = rw (← c.in-Err.ensures) (c.number.ensures ∙ refusal_told _ _ _)

pub returns-in-Err-clause-room : goal.returns-in-Err-clause-room
returns-in-Err-clause-room c = rw (← c.in-Err.ensures) (refusal_unwritten _ _ _)
