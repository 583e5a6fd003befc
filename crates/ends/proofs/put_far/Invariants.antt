-- `ends::put_far` meets its contract: after d turns the codes of the first d levels above b stand in the room, and all together they are the far
-- codes one behind the other.
use mathlib.Core.Path.{◌≡◌}
use Rattle.local.specs.Local.{cell_size}
use Rattle.ends.specs.Tables.{levels}
use Rattle.ends.specs.Filling.{layered}
use Rattle.ends.proofs.Codes.{code}
use Rattle.ends.proofs.put_far.Given as goal

abbrev pub invariant-loop-d : goal.invariant-loop-d
invariant-loop-d l = (l.room ≡ layered l.initial.room l.at (levels l.h) (code l.h l.table l.uid) (cell_size l.h) l.d)
