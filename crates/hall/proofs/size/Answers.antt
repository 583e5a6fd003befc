-- `hall::size` meets its contract: after j rounds s is the size of level j.
use mathlib.Core.Path.{◌≡◌, refl}
use native.Mathlib.Omega.{arith}
use Rattle.hall.specs.Cells.{t}
use Rattle.hall.proofs.Growth.{t_fits, t_next, next_fits}
use Rattle.hall.proofs.size.Goals as goal

pub loop-j-init : goal.loop-j-init
unfolding t
loop-j-init c = refl

pub overflow_add-s : goal.overflow_add-s
overflow_add-s c = omega (arith, t_fits _ _ c.loop-j._j c.requires (omega arith))

pub overflow_mul-s : goal.overflow_mul-s
overflow_mul-s c = omega (arith, next_fits _ _ c.loop-j._j c.loop-j.s c.requires (omega arith) c.loop-j.invariant)

pub loop-j-preserved : goal.loop-j-preserved
loop-j-preserved c = t_next c.args.n c.loop-j._j c.loop-j.s c.loop-j.invariant

pub returns : goal.returns
returns c = let e : c.loop-j._j ≡ c.args.i = omega arith in rw (← e) c.loop-j.invariant
