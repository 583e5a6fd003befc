-- Which links are usable by a table as its codes count: those of the table whose both servers are fitted.
use mathlib.Core.Path.{◌≡◌, refl, sym, ◌∙◌, ap}
use mathlib.Core.Bool.{Bool, true, false}
use mathlib.Core.List.{List}
use Prim.Native.Nat.{ℕ, zero, suc, ◌+◌, ◌*◌, ◌<◌, ◌≤◌}
use native.Mathlib.Omega.{arith}
use lib.Dec.{eqb}
use borrow.Author.Tests.{eqb-true}
use Rattle.combine.specs.Tests.{both}
use Rattle.combine.proofs.Tests.{cases, both_false, both_left, both_right, both_either}
use Rattle.hall.specs.declared.Hall.{Hall}
use Rattle.hall.specs.Cells.{t, cell, neighbour}
use Rattle.hall.proofs.Cells.{neighbour_neighbour}
use Rattle.ports.specs.Codes.{up}
use Rattle.ports.specs.Links.{on_switch, both_up, joined}
use Rattle.ports.proofs.Runs.{neighbour_shift}
use Rattle.plan.specs.Answers.{fitted}
use Rattle.counted.specs.Counted.{counted}
use Rattle.counted.proofs.Counted.{port_switch, port_link, counted_up, cell_fitted}

-- two tests pulled out of a test on both ends
both_out : (o f g a b : Bool) → both o (both (both f a) (both g b)) ≡ both (both f g) (both o (both a b))
both_out o false g a b = both_false o false refl
both_out true true true a b = refl
both_out true true false true b = refl
both_out true true false false b = refl
both_out false true true a b = refl
both_out false true false a b = refl

both_pair : (f g a b : Bool) → both (both (both f g) a) (both (both g f) b) ≡ both (both f g) (both a b)
both_pair true true a b = refl
both_pair true false a b = refl
both_pair false g a b = refl

module _ (h : Hall) (pos : 0 < h.n) (c i : ℕ) (table : List ℕ) where
  -- A USABLE LINK OF LEVEL AT MOST l BY THE COUNTED TABLE: BOTH SERVERS FITTED, AND USABLE BY THE TABLE
  pub joined_counted : (l x y : ℕ) → l ≤ i
      → joined h (counted h (c * t h.n i) table) l x y ≡ both (both (fitted h (c * t h.n i + x)) (fitted h (c * t h.n i + y))) (joined h table l x y)
  unfolding joined both_up
  joined_counted zero x y li =
      let C : ℕ = c * t h.n i in
      rw (counted_up h C table x 0, counted_up h C table y 0, port_switch h (C + x), port_switch h (C + y))
      (both_out (on_switch h.n x y) (fitted h (C + x)) (fitted h (C + y)) (up h table x 0) (up h table y 0))
  joined_counted (suc j) x y li =
      let C : ℕ = c * t h.n i in
      let F : Bool = both (fitted h (C + x)) (fitted h (C + y)) in
      let B : Bool = both (up h table x (suc j)) (up h table y (suc j)) in
      let ih = joined_counted j x y (omega arith) in
      let w : both (eqb (neighbour h.n j x) y) (both (up h (counted h C table) x (suc j)) (up h (counted h C table) y (suc j))) ≡ both F (both (eqb (neighbour h.n j x) y) B) =
      cases (eqb (neighbour h.n j x) y)
      (λ e.
      let q = eqb-true (neighbour h.n j x) y e in
      let nx : neighbour h.n j (C + x) ≡ C + y = neighbour_shift h.n pos i j c x li ∙ ap (λ (v : ℕ). C + v) q in
      let ny : neighbour h.n j (C + y) ≡ C + x = ap (neighbour h.n j) (sym nx) ∙ neighbour_neighbour h.n pos j (C + x) in
      rw (e, counted_up h C table x (suc j), counted_up h C table y (suc j), port_link h (C + x) j, port_link h (C + y) j, nx, ny)
      (both_pair (fitted h (C + x)) (fitted h (C + y)) (up h table x (suc j)) (up h table y (suc j))))
      (λ e. rw e (sym (both_false F false refl))) in
      rw (ih, w) (sym (both_either F (joined h table j x y) (both (eqb (neighbour h.n j x) y) B)))

-- both ends of a server's link of level j + 1 by the counted hall table: both servers fitted, and both ends up by the table
pub ups_counted : (h : Hall) → 0 < h.n → (table : List ℕ) (j x : ℕ)
    → both_up h (counted h 0 table) (suc j) x (neighbour h.n j x) ≡ both (both (fitted h x) (fitted h (neighbour h.n j x))) (both_up h table (suc j) x (neighbour h.n j x))
unfolding both_up
ups_counted h pos table j x =
    let y : ℕ = neighbour h.n j x in
    let zx : 0 + x ≡ x = omega arith in
    let zy : 0 + y ≡ y = omega arith in
    rw (counted_up h 0 table x (suc j), counted_up h 0 table y (suc j), zx, zy, port_link h x j, port_link h y j, neighbour_neighbour h.n pos j x)
    (both_pair (fitted h x) (fitted h y) (up h table x (suc j)) (up h table y (suc j)))

-- the same over the hall table
pub joined_hall : (h : Hall) → 0 < h.n → (table : List ℕ) (l x y : ℕ) → l ≤ h.k
    → joined h (counted h 0 table) l x y ≡ both (both (fitted h x) (fitted h y)) (joined h table l x y)
joined_hall h pos table l x y lk =
    let z : 0 * t h.n h.k ≡ 0 = omega arith in
    let zx : 0 + x ≡ x = omega arith in
    let zy : 0 + y ≡ y = omega arith in
    rw (z, zx, zy) at (joined_counted h pos 0 h.k table l x y lk)

-- so a link that counts is usable by the table, and both its servers are fitted
module _ (h : Hall) (pos : 0 < h.n) (table : List ℕ) (x y : ℕ) (e : joined h (counted h 0 table) h.k x y ≡ true) where
  counts : both (both (fitted h x) (fitted h y)) (joined h table h.k x y) ≡ true
  counts = sym (joined_hall h pos table h.k x y (omega arith)) ∙ e

  pub joined_stands : joined h table h.k x y ≡ true
  joined_stands = both_right (both (fitted h x) (fitted h y)) (joined h table h.k x y) counts

  pub joined_fitted : (fitted h x ≡ true) × (fitted h y ≡ true)
  joined_fitted =
      let f = both_left (both (fitted h x) (fitted h y)) (joined h table h.k x y) counts in
      (both_left (fitted h x) (fitted h y) f, both_right (fitted h x) (fitted h y) f)

-- inside a DCell(b), b at most 1: as the table says for a fitted server
module _ (h : Hall) (pos : 0 < h.n) (i u : ℕ) (low : i ≤ 1) (table : List ℕ) (l x y : ℕ) (li : l ≤ i) (hx : x < t h.n i) (hy : y < t h.n i) where
  pub joined_local : fitted h u ≡ true → joined h (counted h (cell h.n i u * t h.n i) table) l x y ≡ joined h table l x y
  joined_local e =
      joined_counted h pos (cell h.n i u) i table l x y li
      ∙ rw (cell_fitted h pos i u low x hx, cell_fitted h pos i u low y hy, e)

  -- and none for one that is not fitted
  pub joined_none : fitted h u ≡ false → joined h (counted h (cell h.n i u * t h.n i) table) l x y ≡ false
  joined_none e =
      joined_counted h pos (cell h.n i u) i table l x y li
      ∙ rw (cell_fitted h pos i u low x hx, e)
