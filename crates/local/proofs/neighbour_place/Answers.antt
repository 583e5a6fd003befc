-- `local::neighbour_place` meets its contract: inside one DCell1 the definition's cell starts at 0 and its sub-cell is the switch.
use mathlib.Core.Path.{sym}
use native.Mathlib.Omega.{arith}
use Rattle.local.proofs.Sizes.{neighbour_low, neighbour_high}
use Rattle.local.proofs.neighbour_place.Goals as goal

pub returns-then-s-i : goal.returns-then-s-i
returns-then-s-i c = sym (neighbour_low _ _ _ (omega arith) (omega arith) c.if-s-i.true)

pub returns : goal.returns
returns c = sym (neighbour_high _ _ _ (omega arith) (omega arith) c.if-s-i.false)
