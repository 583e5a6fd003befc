-- `plan::sub_cell` meets its contract: the three phases of the planner are the three branches.
use mathlib.Core.Path.{sym}
use native.Mathlib.Omega.{arith}
use Rattle.plan.proofs.Index.{low, mid, high}
use Rattle.plan.proofs.sub_cell.Goals as goal

pub returns-then-c-g : goal.returns-then-c-g
returns-then-c-g c = let a = c.args in sym (low a.g a.r (omega arith) a.c (omega arith)).0

pub returns-then-c-g-2 : goal.returns-then-c-g-2
returns-then-c-g-2 c = let a = c.args in sym (mid a.g a.r (omega arith) a.c (omega arith) (omega arith)).0

pub returns : goal.returns
returns c = let a = c.args in sym (high a.g a.r (omega arith) a.c (omega arith)).0
