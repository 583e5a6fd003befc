-- `rooms::tell` meets its contract: after i turns the first i values stand at the start of the room, and the rest is as it was.
use mathlib.Core.Path.{◌≡◌}
use lib.Seq.{paste}
use Rattle.rooms.proofs.tell.Given as goal

abbrev pub invariant-loop-i : goal.invariant-loop-i
invariant-loop-i g l = l.room ≡ paste l.initial.room 0 l.values l.i
