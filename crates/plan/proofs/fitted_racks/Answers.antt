-- `plan::fitted_racks` meets its contract: after q turns it has counted the first q DCell1s.
use mathlib.Core.Path.{refl}
use Prim.Native.Nat.{◌+◌, ◌*◌, ◌<◌}
use native.Mathlib.Omega.{arith}
use borrow.Author.Rules.{rules}
use Rattle.hall.specs.Halls.{largest}
use Rattle.hall.proofs.Growth.{valid_known}
use Rattle.plan.specs.Answers.{front}
use Rattle.hall.proofs.Racks.{one_is, one_fits}
use Rattle.plan.proofs.Front.{rack_fits, rack_counts}
use Rattle.plan.proofs.fitted_racks.Goals.{In-loop-q}
use Rattle.plan.proofs.fitted_racks.Goals as goal

-- the uid asked about
place : (c : In-loop-q)
    → c.args.first + c.loop-q.q * ((c.args.h.n + 1) * c.args.h.n) < largest
place c =
    let a = c.args in
    rw (one_is a.h.n) (rack_fits a.h a.first a.most c.loop-q.q c.requires (omega arith))

pub overflow_add-size : goal.overflow_add-size
overflow_add-size c = let k = valid_known _ c.requires.sound in omega (arith, k.n_high)

pub overflow_mul-size : goal.overflow_mul-size
overflow_mul-size c = let k = valid_known _ c.requires.sound in omega (arith, one_fits c.args.h.n k.n_high)

pub loop-q-init : goal.loop-q-init
unfolding front
loop-q-init c = (omega arith, refl)

pub overflow_mul-q : goal.overflow_mul-q
overflow_mul-q c = omega (arith, place (goal.at.overflow_mul-q c).In-loop-q)

pub overflow_add-first : goal.overflow_add-first
overflow_add-first c = omega (arith, place (goal.at.overflow_add-first c).In-loop-q)

pub loop-q-preserved : goal.loop-q-preserved
loop-q-preserved c =
    let a = c.args in
    let l = c.loop-q in
    (search rules, rack_counts a.h a.first a.most l.q c.requires (omega arith) _ l.racks _ _ (one_is a.h.n) c.is_fitted.ensures c.from-racks.ensures l.invariant.1)
