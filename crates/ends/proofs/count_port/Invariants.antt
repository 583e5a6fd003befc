-- `ends::count_port` meets its contract: after p turns the codes for the first p places of the cell are as they count, and the rest is as it was.
use mathlib.Core.Path.{◌≡◌}
use Prim.Native.Nat.{◌+◌, ◌*◌}
use Rattle.local.specs.Local.{first_of}
use Rattle.ends.specs.Filling.{spread, port_code}
use Rattle.ends.proofs.count_port.Given as goal

abbrev pub invariant-loop-p : goal.invariant-loop-p
invariant-loop-p l = (l.next ≡ l.at + l.p * l.step) × (l.room ≡ spread l.initial.room l.at l.step (port_code l.h (first_of l.h l.uid) l.port l.initial.room l.at l.step) l.p)
