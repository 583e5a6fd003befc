-- `cells::refused_link` meets its contract: what is refused before the sub-cells is refused with them, and then they decide.
use mathlib.Core.Path.{◌≡◌, refl, sym, ◌∙◌, ap}
use mathlib.Core.Bool.{Bool, true, false}
use Prim.Native.Nat.{ℕ, ◌-◌, ◌<◌, ◌≤◌}
use native.Mathlib.Omega.{arith}
use lib.Dec.{ltb}
use borrow.Author.Tests.{lt-ltb, le-ltb, eq-eqb, ne_eqb}
use Rattle.combine.specs.Tests.{pick, both}
use Rattle.combine.proofs.Tests.{both_false}
use Rattle.hall.specs.declared.Hall.{Hall}
use Rattle.hall.specs.Refusals.{refusal}
use Rattle.hall.specs.Cells.{t, g}
use Rattle.hall.proofs.Growth.{g_at, size_of_lem}
use Rattle.hall.proofs.Stated.{number_not_zero}
use Rattle.cells.specs.Answers.{subcells_fit, asks_link}
use Rattle.cells.proofs.Asks.{SoundLevel, level_known, link_later, link_alone}
use Rattle.hall.proofs.Stated.{handed}
use Rattle.cells.proofs.refused_link.Goals.{After-size_of-size, In_ok-refused_level}
use Rattle.cells.proofs.refused_link.Goals as goal

-- the tests on p and q, with s for t(i - 1)
p_high : (h : Hall) (i p q s : ℕ) → 0 < i → s ≡ t h.n (i - 1) → s < p → subcells_fit h i p q ≡ false
p_high h i p q s l e m = rw (le-ltb p (g h.n i) (omega (arith, g_at h.n i l)))

q_high : (h : Hall) (i p q s : ℕ) → 0 < i → s ≡ t h.n (i - 1) → s < q → subcells_fit h i p q ≡ false
q_high h i p q s l e m = rw (le-ltb q (g h.n i) (omega (arith, g_at h.n i l)), both_false (ltb p (g h.n i)) false refl)

same_cells : (h : Hall) (i p q : ℕ) → p ≡ q → subcells_fit h i p q ≡ false
same_cells h i p q e = rw (eq-eqb p q e) (both_false (both (ltb p (g h.n i)) (ltb q (g h.n i))) false refl)

two_cells : (h : Hall) (i p q s : ℕ) → 0 < i → s ≡ t h.n (i - 1) → p ≤ s → q ≤ s → (p ≡ q → ⊥) → subcells_fit h i p q ≡ true
two_cells h i p q s l e m o d =
    rw (lt-ltb p (g h.n i) (omega (arith, g_at h.n i l)), lt-ltb q (g h.n i) (omega (arith, g_at h.n i l)), ne_eqb p q d)

known : (c : In_ok-refused_level) → SoundLevel c.args.h c.args.uid 1 c.args.level
known c = level_known _ _ _ _ (sym c.in_ok-refused_level.ensures)

sized : (c : After-size_of-size) → let a = c.args in c.size_of-size.result ≡ t a.h.n (a.level - 1)
sized c = let k = known c.before in size_of_lem _ _ _ k.sound (omega (arith, k.high)) c.size_of-size.ensures

-- where the level is sound the refusal is 3 or 0 by the sub-cells
decided : (c : In_ok-refused_level) (x : Bool) → subcells_fit c.args.h c.args.level c.args.p c.args.q ≡ x
    → pick x 0 3 ≡ refusal (asks_link c.args.h c.args.uid c.args.level c.args.p c.args.q)
decided c x e =
    let a = c.args in
    let z = sym c.in_ok-refused_level.ensures in
    sym (link_alone a.h a.uid a.level a.p a.q z ∙ ap (λ (b : Bool). pick b 0 3) e)

pub returns-in_err-refused_level : goal.returns-in_err-refused_level
returns-in_err-refused_level c =
    let a = c.args in
    rw (handed _ c.from_residual.ensures) (link_later a.h a.uid a.level a.p a.q _ c.in_err-refused_level.ensures (number_not_zero _))

pub overflow_sub-level : goal.overflow_sub-level
overflow_sub-level c = omega (arith, (known (goal.at.overflow_sub-level c).In_ok-refused_level).low)

pub returns-then-size-p : goal.returns-then-size-p
returns-then-size-p c =
    let a = c.args in
    decided (goal.at.returns-then-size-p c).In_ok-refused_level false (p_high a.h a.level a.p a.q _ (known (goal.at.returns-then-size-p c).In_ok-refused_level).low (sized (goal.at.returns-then-size-p c).After-size_of-size) c.if-size-p.true)

pub returns-then-size-q : goal.returns-then-size-q
returns-then-size-q c =
    let a = c.args in
    decided (goal.at.returns-then-size-q c).In_ok-refused_level false (q_high a.h a.level a.p a.q _ (known (goal.at.returns-then-size-q c).In_ok-refused_level).low (sized (goal.at.returns-then-size-q c).After-size_of-size) c.if-size-q.true)

pub returns-then-p-q : goal.returns-then-p-q
returns-then-p-q c =
    let a = c.args in
    decided (goal.at.returns-then-p-q c).In_ok-refused_level false (same_cells a.h a.level a.p a.q c.if-p-q.true)

pub returns : goal.returns
returns c =
    let a = c.args in
    decided (goal.at.returns c).In_ok-refused_level true
    (two_cells a.h a.level a.p a.q _ (known (goal.at.returns c).In_ok-refused_level).low (sized (goal.at.returns c).After-size_of-size) c.if-size-p.false c.if-size-q.false c.if-p-q.false)
