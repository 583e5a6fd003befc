-- Laws of usable links: joined is symmetric, stays in a DCell, and a search may ask each server's switch and neighbours alone.
use mathlib.Core.Path.{◌≡◌, sym, ◌∙◌, ap}
use mathlib.Core.Bool.{Bool, true, false, not}
use mathlib.Core.List.{List}
use Prim.Native.Nat.{ℕ, zero, suc, ◌+◌, ◌*◌, ◌/◌, ◌%◌, ◌≤◌, ◌<◌}
use mathlib.Core.Logic.{⊎_elim}
use native.Mathlib.Nat.{mod-lt, div-add-mod', div-eq_of_lt, eq-or-lt_of_le}
use native.Mathlib.Omega.{arith}
use lib.Dec.{eqb, leb}
use lib.Arith.{digits_div}
use borrow.Author.Tests.{eqb-true, eq-eqb, ne_eqb, leb-true, leb-false}
use Rattle.combine.specs.Tests.{both, any_below}
use Rattle.combine.proofs.Tests.{cases, never, both_ways, both_left, both_right, both_true, both_swap, either_true, either_left, either_right, either_cases, any_in, any_some}
use Rattle.hall.specs.declared.Hall.{Hall}
use Rattle.hall.specs.Cells.{t, cell, same, neighbour, Joined, switch, link}
use Rattle.hall.proofs.Cells.{same_eq, eq_same, same_sym, same_up, t_pos, neighbour_neighbour, neighbour_stays}
use Rattle.ports.specs.Codes.{up, SameUps}
use Rattle.ports.specs.Links.{on_switch, both_up, wired, joined, switch_has, touched}
use Rattle.ports.proofs.Tables.{up_agrees}

eqb_swap : (a b : ℕ) → eqb a b ≡ eqb b a
eqb_swap a b = both_ways (eqb a b) (eqb b a) (λ e. eq-eqb b a (sym (eqb-true a b e))) (λ e. eq-eqb a b (sym (eqb-true b a e)))

-- a link of a level is one of each higher level
wired_more : (n l m x y : ℕ) → l ≤ m → wired n l x y ≡ true → wired n m x y ≡ true
unfolding wired
wired_more n l zero x y h e = let z : l ≡ 0 = omega arith in rw z at e
wired_more n l (suc m) x y h e =
    cases (leb l m)
    (λ q. rw (wired_more n l m x y (leb-true l m q) e))
    (λ q. let z : l ≡ suc m = omega (arith, leb-false l m q) in rw z at e)

-- so who is joined by a link of level at most l is wired
pub link_wired : (n : ℕ) {l x y : ℕ} → Joined n l x y → wired n l x y ≡ true
unfolding wired on_switch
link_wired n {l} {x} {y} (switch e d) =
    wired_more n 0 l x y (omega arith) (both_true (same n 0 x y) (not (eqb x y)) e (ap not (ne_eqb x y d)))
link_wired n {l} {x} {y} (link j h e) =
    wired_more n (suc j) l x y h (rw (eq-eqb (neighbour n j x) y e) (either_true (wired n j x y)))

-- whoever shares a DCell of level i with a server of the first one is in the first one
pub same_below : (n i x y : ℕ) → 0 < n → same n i x y ≡ true → x < t n i → y < t n i
unfolding cell
same_below n i x y pos e h =
    let z : y / t n i ≡ 0 = sym (same_eq n i x y e) ∙ div-eq_of_lt h in
    let m : y % t n i < t n i = mod-lt y (t_pos n pos i) in
    let d : y / t n i * t n i + y % t n i ≡ y = div-add-mod' y (t n i) in
    let s : 0 * t n i + y % t n i ≡ y = rw z at d in
    omega arith

module _ (n : ℕ) where
  pub switch_symmetric : (x y : ℕ) → on_switch n x y ≡ on_switch n y x
  unfolding on_switch same
  switch_symmetric x y = rw (eqb_swap (cell n 0 x) (cell n 0 y), eqb_swap x y)

  module _ (pos : 0 < n) where
    pub neighbour_symmetric : (j x y : ℕ) → eqb (neighbour n j x) y ≡ eqb (neighbour n j y) x
    neighbour_symmetric j x y =
        both_ways (eqb (neighbour n j x) y) (eqb (neighbour n j y) x)
        (λ e. eq-eqb (neighbour n j y) x (sym (ap (neighbour n j) (eqb-true (neighbour n j x) y e)) ∙ neighbour_neighbour n pos j x))
        (λ e. eq-eqb (neighbour n j x) y (sym (ap (neighbour n j) (eqb-true (neighbour n j y) x e)) ∙ neighbour_neighbour n pos j y))

    pub wired_symmetric : (l x y : ℕ) → wired n l x y ≡ wired n l y x
    unfolding wired
    wired_symmetric zero x y = switch_symmetric x y
    wired_symmetric (suc j) x y = rw (wired_symmetric j x y, neighbour_symmetric j x y)

module _ (h : Hall) (table : List ℕ) where
  pub up_symmetric : (i x y : ℕ) → both_up h table i x y ≡ both_up h table i y x
  unfolding both_up
  up_symmetric i x y = both_swap (up h table x i) (up h table y i)

  -- a usable link is a link
  pub joined_wired : (l x y : ℕ) → joined h table l x y ≡ true → wired h.n l x y ≡ true
  unfolding joined wired
  joined_wired zero x y e = both_left (on_switch h.n x y) (both_up h table 0 x y) e
  joined_wired (suc j) x y e =
      either_cases (joined h table j x y) (both (eqb (neighbour h.n j x) y) (both_up h table (suc j) x y)) e
      (λ q. either_left (wired h.n j x y) (eqb (neighbour h.n j x) y) (joined_wired j x y q))
      (λ q. either_right (wired h.n j x y) (eqb (neighbour h.n j x) y) (both_left (eqb (neighbour h.n j x) y) (both_up h table (suc j) x y) q))

  -- a link of level j + 1, and one of a level at most l is one of each level from l on
  pub joined_at : (x y j : ℕ) → neighbour h.n j x ≡ y → both_up h table (suc j) x y ≡ true → joined h table (suc j) x y ≡ true
  unfolding joined
  joined_at x y j e u =
      either_right (joined h table j x y) (both (eqb (neighbour h.n j x) y) (both_up h table (suc j) x y))
      (both_true (eqb (neighbour h.n j x) y) (both_up h table (suc j) x y) (eq-eqb (neighbour h.n j x) y e) u)

  pub joined_more : (x y l m : ℕ) → l ≤ m → joined h table l x y ≡ true → joined h table m x y ≡ true
  unfolding joined
  joined_more x y zero zero k e = e
  joined_more x y (suc l) zero k e = absurd (omega arith)
  joined_more x y l (suc m) k e =
      ⊎_elim (λ (q : l ≡ suc m). sym (ap (λ (i : ℕ). joined h table i x y) q) ∙ e)
      (λ (q : l < suc m). either_left (joined h table m x y) (both (eqb (neighbour h.n m x) y) (both_up h table (suc m) x y)) (joined_more x y l m (omega arith) e))
      (eq-or-lt_of_le k)

  module _ (pos : 0 < h.n) where
    pub joined_symmetric : (l x y : ℕ) → joined h table l x y ≡ joined h table l y x
    unfolding joined
    joined_symmetric zero x y = rw (switch_symmetric h.n x y, up_symmetric 0 x y)
    joined_symmetric (suc j) x y = rw (joined_symmetric j x y, neighbour_symmetric h.n pos j x y, up_symmetric (suc j) x y)

-- a link of level at most l joins two servers of one DCell(l)
pub wired_same : (n : ℕ) → 0 < n → (l x y : ℕ) → wired n l x y ≡ true → same n l x y ≡ true
unfolding wired on_switch
wired_same n pos zero x y e = both_left (same n 0 x y) (not (eqb x y)) e
wired_same n pos (suc j) x y e =
    either_cases (wired n j x y) (eqb (neighbour n j x) y) e
    (λ q. same_up n j x y (wired_same n pos j x y q))
    (λ q. let w = eqb-true (neighbour n j x) y q in rw w at (neighbour_stays n pos j x))

module _ (h : Hall) (table : List ℕ) (pos : 0 < h.n) where
  pub joined_same : (l x y : ℕ) → joined h table l x y ≡ true → same h.n l x y ≡ true
  joined_same l x y e = wired_same h.n pos l x y (joined_wired h table l x y e)

  pub joined_below : (l x y : ℕ) → joined h table l x y ≡ true → x < t h.n l → y < t h.n l
  joined_below l x y e b = same_below h.n l x y pos (joined_same l x y e) b

  -- the cheap test of a search: where x does not pass p, asking x's switch and x's neighbours is asking every server
  module _ (p : ℕ → Bool) where
    has_in : (x y : ℕ) → same h.n 0 x y ≡ true → p y ≡ true → up h table y 0 ≡ true → switch_has h table p (cell h.n 0 x) ≡ true
    unfolding switch_has cell t
    has_in x y s q u =
        let c : x / h.n ≡ y / h.n = same_eq h.n 0 x y s in
        let e : x / h.n * h.n + y % h.n ≡ y = rw c (div-add-mod' y h.n) in
        any_in (λ i. both (p (x / h.n * h.n + i)) (up h table (x / h.n * h.n + i) 0)) h.n (y % h.n) (mod-lt y pos)
        (rw e (both_true (p y) (up h table y 0) q u))

    has_some : (x : ℕ) → switch_has h table p (cell h.n 0 x) ≡ true → (y : ℕ) × (same h.n 0 y x ≡ true) × (p y ≡ true) × (up h table y 0 ≡ true)
    unfolding switch_has cell t
    has_some x e =
        let k = any_some (λ i. both (p (x / h.n * h.n + i)) (up h table (x / h.n * h.n + i) 0)) h.n e in
        let y : ℕ = x / h.n * h.n + k.0 in
        (y, eq_same h.n 0 y x (digits_div (x / h.n) k.1), both_left (p y) (up h table y 0) k.2, both_right (p y) (up h table y 0) k.2)

    joined_touched : (l x y : ℕ) → p y ≡ true → joined h table l y x ≡ true → touched h table p l x ≡ true
    unfolding joined touched on_switch both_up
    joined_touched zero x y q e =
        let s = both_left (both (same h.n 0 y x) (not (eqb y x))) (both (up h table y 0) (up h table x 0)) e in
        let u = both_right (both (same h.n 0 y x) (not (eqb y x))) (both (up h table y 0) (up h table x 0)) e in
        both_true (up h table x 0) (switch_has h table p (cell h.n 0 x)) (both_right (up h table y 0) (up h table x 0) u)
        (has_in x y (same_sym h.n 0 y x (both_left (same h.n 0 y x) (not (eqb y x)) s)) q (both_left (up h table y 0) (up h table x 0) u))
    joined_touched (suc j) x y q e =
        either_cases (joined h table j y x) (both (eqb (neighbour h.n j y) x) (both_up h table (suc j) y x)) e
        (λ w. either_left (touched h table p j x) (both (p (neighbour h.n j x)) (both_up h table (suc j) (neighbour h.n j x) x)) (joined_touched j x y q w))
        (λ w.
        let f : neighbour h.n j x ≡ y = eqb-true (neighbour h.n j x) y (neighbour_symmetric h.n pos j x y ∙ both_left (eqb (neighbour h.n j y) x) (both_up h table (suc j) y x) w) in
        either_right (touched h table p j x) (both (p (neighbour h.n j x)) (both_up h table (suc j) (neighbour h.n j x) x))
        (rw f (both_true (p y) (both_up h table (suc j) y x) q (both_right (eqb (neighbour h.n j y) x) (both_up h table (suc j) y x) w))))

    touched_joined : (l x : ℕ) → p x ≡ false → touched h table p l x ≡ true → (y : ℕ) × (p y ≡ true) × (joined h table l y x ≡ true)
    unfolding joined touched on_switch both_up
    touched_joined zero x z e =
        let u = both_left (up h table x 0) (switch_has h table p (cell h.n 0 x)) e in
        let k = has_some x (both_right (up h table x 0) (switch_has h table p (cell h.n 0 x)) e) in
        let y : ℕ = k.0 in
        let ne : y ≡ x → ⊥ = λ w. never k.2 (ap p w ∙ z) in (
          y,
          k.2,
          both_true (both (same h.n 0 y x) (not (eqb y x))) (both (up h table y 0) (up h table x 0))
              (both_true (same h.n 0 y x) (not (eqb y x)) k.1 (ap not (ne_eqb y x ne)))
              (both_true (up h table y 0) (up h table x 0) k.3 u),
        )
    touched_joined (suc j) x z e =
        either_cases (touched h table p j x) (both (p (neighbour h.n j x)) (both_up h table (suc j) (neighbour h.n j x) x)) e
        (λ w. let k = touched_joined j x z w in
        (k.0, k.1, either_left (joined h table j k.0 x) (both (eqb (neighbour h.n j k.0) x) (both_up h table (suc j) k.0 x)) k.2))
        (λ w.
        let y : ℕ = neighbour h.n j x in (
          y,
          both_left (p y) (both_up h table (suc j) y x) w,
          either_right (joined h table j y x) (both (eqb (neighbour h.n j y) x) (both_up h table (suc j) y x))
              (both_true (eqb (neighbour h.n j y) x) (both_up h table (suc j) y x) (eq-eqb (neighbour h.n j y) x (neighbour_neighbour h.n pos j x)) (both_right (p y) (both_up h table (suc j) y x) w)),
        ))

    pub any_joined : (l x : ℕ) → x < t h.n l → p x ≡ false → any_below (λ y. both (p y) (joined h table l y x)) (t h.n l) ≡ touched h table p l x
    any_joined l x b z =
        both_ways (any_below (λ y. both (p y) (joined h table l y x)) (t h.n l)) (touched h table p l x)
        (λ e. let k = any_some (λ y. both (p y) (joined h table l y x)) (t h.n l) e in
        joined_touched l x k.0 (both_left (p k.0) (joined h table l k.0 x) k.2) (both_right (p k.0) (joined h table l k.0 x) k.2))
        (λ e. let k = touched_joined l x z e in
        let y : ℕ = k.0 in
        any_in (λ y. both (p y) (joined h table l y x)) (t h.n l) y
        (joined_below l x y (joined_symmetric h table pos l x y ∙ k.2) b) (both_true (p y) (joined h table l y x) k.1 k.2))

-- two tables with code 1 at the same places join the same servers
pub joined_agrees : (h : Hall) (a b : List ℕ) → SameUps a b → (l x y : ℕ) → joined h a l x y ≡ joined h b l x y
unfolding joined both_up
joined_agrees h a b s zero x y = rw (up_agrees h a b s x 0, up_agrees h a b s y 0)
joined_agrees h a b s (suc j) x y = rw (joined_agrees h a b s j x y, up_agrees h a b s x (suc j), up_agrees h a b s y (suc j))
