-- `ends::put_level` meets its contract: after p turns the codes for the first p places of the cell stand in the room.
use mathlib.Core.Path.{◌≡◌}
use Prim.Native.Nat.{◌+◌}
use Rattle.local.specs.Local.{first_of}
use Rattle.ends.specs.Tables.{levels, far_code}
use Rattle.ends.specs.Filling.{spread}
use Rattle.ends.proofs.put_level.Given as goal

abbrev pub invariant-loop-p : goal.invariant-loop-p
invariant-loop-p l = (l.room ≡ spread l.initial.room l.at (levels l.h) (λ q. far_code l.h l.table (first_of l.h l.uid + q) l.level) l.p)
