-- `words::put_bytes` meets its contract: after i turns the first i bytes stand in the room, and the rest is as it was.
use mathlib.Core.Path.{◌≡◌}
use lib.Seq.{paste}
use Rattle.words.proofs.put_bytes.Given as goal

abbrev pub invariant-loop-i : goal.invariant-loop-i
invariant-loop-i l = l.room ≡ paste l.initial.room l.at l.bytes l.i
