-- `ends::put_far` meets its contract: after d turns the codes of the first d levels above b stand in the room, and all together they are the far
-- codes one behind the other.
use mathlib.Core.Path.{◌≡◌, refl, ◌∙◌, ap}
use Prim.Native.Nat.{ℕ, suc, ◌+◌}
use native.Mathlib.Numerals.{add-one}
use native.Mathlib.Omega.{arith}
use Rattle.hall.proofs.Growth.{valid_known}
use Rattle.local.specs.Local.{cell_size, first_of}
use Rattle.ends.specs.Tables.{levels, far_code}
use Rattle.ends.specs.Filling.{spread, layered}
use Rattle.ends.proofs.Codes.{code, far_put}
use Rattle.ends.proofs.put_far.Goals as goal

pub overflow_sub-all : goal.overflow_sub-all
overflow_sub-all c = omega (arith, (valid_known _ c.requires.0).b_low)

pub loop-d-init : goal.loop-d-init
unfolding layered
loop-d-init c = refl

pub loop-d-preserved : goal.loop-d-preserved
unfolding layered
loop-d-preserved c =
    let l = c.loop-d in
    let e : c.args.h.b + 1 + l.d ≡ suc c.args.h.b + l.d = omega arith in
    c.put_level.ensures
    ∙ ap (λ (i : ℕ). spread l.room (c.args.at + l.d) (levels c.args.h) (λ p. far_code c.args.h c.args.table.now (first_of c.args.h c.args.uid + p) i) (cell_size c.args.h)) e
    ∙ rw (l.invariant, add-one l.d)

pub returns : goal.returns
returns c =
    let l = c.loop-d in
    let e : l.d ≡ levels c.args.h = omega (arith, l.auto.d-end, c.loop-d-test.false) in
    l.invariant
    ∙ ap (layered c.args.room.now c.args.at (levels c.args.h) (code c.args.h c.args.table.now c.args.uid) (cell_size c.args.h)) e
    ∙ far_put c.args.h c.args.table.now c.args.uid c.args.room.now c.args.at c.requires.2
