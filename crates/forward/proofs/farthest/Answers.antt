-- `forward::farthest` meets its contract: the most so far is at least each distance passed.
use native.Mathlib.Omega.{arith}
use lib.Seq.{get_or-take, length-take-le}
use Rattle.forward.proofs.farthest.Goals as goal

pub loop-d-preserved : goal.loop-d-preserved
loop-d-preserved c = grind (arith, get_or-take, length-take-le)
