-- Sums over the servers of a DCell, and how they split over its sub-cells: seen from one sub-cell, each of its servers is the near end
-- for exactly one other sub-cell, so it stands for the servers of that one.
use mathlib.Core.Path.{◌≡◌, refl, sym, ◌∙◌, ap, ap₂}
use mathlib.Core.Bool.{true, false, not}
use Prim.Native.Nat.{ℕ, zero, suc, ◌+◌, ◌-◌, ◌*◌, ◌/◌, ◌%◌, ◌<◌, ◌≤◌}
use native.Mathlib.Nat.{add-zero, add-suc, mod-lt, div-add-mod', div-eq_of_lt}
use native.Mathlib.Omega.{arith}
use lib.Dec.{eqb}
use lib.Arith.{digits_div}
use borrow.Author.Tests.{eqb-true, eqb-false, eq-eqb, ne_eqb}
use Rattle.sums.specs.Sums.{sum, one}
use Rattle.sums.proofs.Sums.{sum_ext, sum_const, sum-times, sum-add, sum_swap, sum_blocks, count_one, count_not}
use Rattle.combine.proofs.Tests.{cases}
use Rattle.hall.specs.Cells.{t, cell, same, sub, port, end, near}
use Rattle.hall.proofs.Place.{place_cell, place_up, place_sub, port_lt, port_ge}
use Rattle.hall.proofs.Cells.{same_eq, eq_same, same_sub, sub_fits, cell_down, end_cells, t_pos}

-- the sum over the DCell of level l around x: its servers are cell × t + r for r below t
abbrev pub around : ℕ → ℕ → ℕ → (ℕ → ℕ) → ℕ
around n l x f = sum (λ r. f (cell n l x * t n l + r)) (t n l)

-- one member of a range of T + 1 apart, the others are numbered by their ports
module _ (f g : ℕ → ℕ) (p T : ℕ) (fits : p < T + 1) (h : (q : ℕ) → q < T + 1 → (p ≡ q → ⊥) → f q ≡ g (port p q)) where
  skip_low : (m : ℕ) → m ≤ p → sum f m ≡ sum g m
  unfolding sum
  skip_low zero k = refl
  skip_low (suc m) k = ap₂ ◌+◌ (skip_low m (omega arith)) (h m (omega arith) (λ z. omega arith) ∙ ap g (port_ge p m (omega arith)))

  skip_high : (d : ℕ) → p + d ≤ T → sum f (suc (p + d)) ≡ f p + sum g (p + d)
  unfolding sum
  skip_high zero k = rw (add-zero p) (omega (arith, skip_low p (omega arith)))
  skip_high (suc d) k =
      let e : f (suc (p + d)) ≡ g (p + d) = h (suc (p + d)) (omega arith) (λ z. omega arith) ∙ ap g (port_lt p (suc (p + d)) (omega arith) ∙ omega arith) in
      rw (add-suc p d) (omega (arith, skip_high d (omega arith)))

  pub sum_skip : sum f (T + 1) ≡ f p + sum g T
  sum_skip =
      let e : T + 1 ≡ suc (p + (T - p)) = omega arith in
      let d : p + (T - p) ≡ T = omega arith in
      ap (sum f) e ∙ skip_high (T - p) (omega arith) ∙ ap (λ (k : ℕ). f p + sum g k) d

module _ (n : ℕ) where
  -- the hall is the DCell of level k around any of its servers
  pub around_hall : (k x : ℕ) (f : ℕ → ℕ) → x < t n k → around n k x f ≡ sum f (t n k)
  unfolding cell
  around_hall k x f h = sum_ext (λ r. f (x / t n k * t n k + r)) f (t n k)
      (λ r _. ap f (let z : x / t n k ≡ 0 = div-eq_of_lt h in rw z (omega arith)))

  -- the servers that a sum over a DCell runs over
  pub cell_place : (l x r : ℕ) → r < t n l → same n l x (cell n l x * t n l + r) ≡ true
  cell_place l x r h = eq_same n l x (cell n l x * t n l + r) (sym (unfold cell in digits_div (cell n l x) h))

  pub around_ext : (l x : ℕ) (f g : ℕ → ℕ) → ((y : ℕ) → same n l x y ≡ true → f y ≡ g y) → around n l x f ≡ around n l x g
  around_ext l x f g h = sum_ext (λ r. f (cell n l x * t n l + r)) (λ r. g (cell n l x * t n l + r)) (t n l)
      (λ r k. h (cell n l x * t n l + r) (cell_place l x r k))

  pub around_const : (l x a : ℕ) → around n l x (λ _. a) ≡ t n l * a
  around_const l x a = sum_const a (t n l)

  -- every server of a DCell has the same one around it
  pub around_left : (l x z : ℕ) (f : ℕ → ℕ) → same n l x z ≡ true → around n l z f ≡ around n l x f
  around_left l x z f s = ap (λ (c : ℕ). sum (λ r. f (c * t n l + r)) (t n l)) (sym (same_eq n l x z s))

  pub around_times : (l x a : ℕ) (f : ℕ → ℕ) → around n l x (λ y. a * f y) ≡ a * around n l x f
  around_times l x a f = sum-times a (λ r. f (cell n l x * t n l + r)) (t n l)

  pub around_add : (l x : ℕ) (f g : ℕ → ℕ) → around n l x (λ y. f y + g y) ≡ around n l x f + around n l x g
  around_add l x f g = sum-add (λ r. f (cell n l x * t n l + r)) (λ r. g (cell n l x * t n l + r)) (t n l)

  pub around_swap : (l u : ℕ) (f : ℕ → ℕ → ℕ) → around n l u (λ x. around n l u (f x)) ≡ around n l u (λ y. around n l u (λ x. f x y))
  around_swap l u f = sum_swap (λ r s. f (cell n l u * t n l + r) (cell n l u * t n l + s)) (t n l) (t n l)

  -- where f, away from the sub-cell of x, sees only the near end of the link there, each near end stands for t j servers
  module _ (j x : ℕ) (f g : ℕ → ℕ) (h : (y : ℕ) → same n (suc j) x y ≡ true → same n j x y ≡ false → f y ≡ g (near n j x y)) where
    -- the sum over sub-cell q
    inner : ℕ → ℕ
    inner q = sum (λ r. f (cell n (suc j) x * ((t n j + 1) * t n j) + (q * t n j + r))) (t n j)

    near_at : (q y : ℕ) → sub n j y ≡ q → near n j x y ≡ cell n j x * t n j + port (sub n j x) q
    unfolding near t
    near_at q y s = ap (end n j x (sub n j x)) s ∙ end_cells n j x (sub n j x) q ∙ rw (cell_down n j x) (omega arith)

    apart_at : (q r : ℕ) → q < t n j + 1 → (sub n j x ≡ q → ⊥) → r < t n j
        → f (cell n (suc j) x * ((t n j + 1) * t n j) + (q * t n j + r)) ≡ g (cell n j x * t n j + port (sub n j x) q)
    apart_at q r hq ne hr =
        let y : ℕ = cell n (suc j) x * ((t n j + 1) * t n j) + (q * t n j + r) in
        let c : cell n (suc j) y ≡ cell n (suc j) x = unfold cell t in place_up (t n j) (cell n (suc j) x) q r hr hq in
        let s : sub n j y ≡ q = unfold sub t in place_sub (t n j) (cell n (suc j) x) q r hr hq in
        let a : same n j x y ≡ false = cases (same n j x y) (λ k. absurd (ne (same_sub n j x y k ∙ s))) (λ k. k) in
        h y (eq_same n (suc j) x y (sym c)) a ∙ ap g (near_at q y s)

    block : (q : ℕ) → q < t n j + 1 → (sub n j x ≡ q → ⊥) → inner q ≡ t n j * g (cell n j x * t n j + port (sub n j x) q)
    unfolding inner
    block q hq ne =
        sum_ext (λ r. f (cell n (suc j) x * ((t n j + 1) * t n j) + (q * t n j + r))) (λ _. g (cell n j x * t n j + port (sub n j x) q)) (t n j)
        (λ r k. apart_at q r hq ne k)
        ∙ sum_const (g (cell n j x * t n j + port (sub n j x) q)) (t n j)

    own : inner (sub n j x) ≡ around n j x f
    unfolding inner
    own = sum_ext (λ r. f (cell n (suc j) x * ((t n j + 1) * t n j) + (sub n j x * t n j + r))) (λ r. f (cell n j x * t n j + r)) (t n j)
        (λ r _. ap f (rw (cell_down n j x) (omega arith)))

    pub around_split : around n (suc j) x f ≡ around n j x f + t n j * around n j x g
    unfolding t inner
    around_split =
        sum_blocks (λ r. f (cell n (suc j) x * ((t n j + 1) * t n j) + r)) (t n j) (t n j + 1)
        ∙ sum_skip inner (λ r. t n j * g (cell n j x * t n j + r)) (sub n j x) (t n j) (sub_fits n j x) block
        ∙ ap₂ ◌+◌ own (sum-times (t n j) (λ r. g (cell n j x * t n j + r)) (t n j))

  -- a sum over a DCell of which only one sub-cell counts
  pub around_inside : (j u : ℕ) (f : ℕ → ℕ) → ((y : ℕ) → same n (suc j) u y ≡ true → same n j u y ≡ false → f y ≡ 0)
      → around n (suc j) u f ≡ around n j u f
  around_inside j u f h =
      around_split j u f (λ _. 0) h ∙ ap (λ (m : ℕ). around n j u f + t n j * m) (around_const j u 0) ∙ omega arith

  module _ (pos : 0 < n) where
    -- a DCell is its sub-cells, each with the same sum
    pub around_cells : (j u c : ℕ) (f : ℕ → ℕ) → ((x : ℕ) → around n j x f ≡ c) → around n (suc j) u f ≡ (t n j + 1) * c
    unfolding t
    around_cells j u c f h =
        let first : ℕ → ℕ = λ q. cell n (suc j) u * ((t n j + 1) * t n j) + (q * t n j + 0) in
        sum_blocks (λ r. f (cell n (suc j) u * ((t n j + 1) * t n j) + r)) (t n j) (t n j + 1)
        ∙ sum_ext (λ q. sum (λ r. f (cell n (suc j) u * ((t n j + 1) * t n j) + (q * t n j + r))) (t n j)) (λ _. c) (t n j + 1)
        (λ q _. let e : cell n j (first q) ≡ cell n (suc j) u * (t n j + 1) + q = unfold cell in place_cell (t n j) (cell n (suc j) u) q 0 (t_pos n pos j) in
        sum_ext (λ r. f (cell n (suc j) u * ((t n j + 1) * t n j) + (q * t n j + r))) (λ r. f (cell n j (first q) * t n j + r)) (t n j)
        (λ r _. ap f (rw e (omega arith)))
        ∙ h (first q))
        ∙ sum_const c (t n j + 1)

    -- a DCell has x once
    pub around_self : (l x : ℕ) → around n l x (λ y. one (eqb x y)) ≡ 1
    around_self l x =
        let e : cell n l x * t n l + x % t n l ≡ x = unfold cell in div-add-mod' x (t n l) in
        sum_ext (λ r. one (eqb x (cell n l x * t n l + r))) (λ r. one (eqb (x % t n l) r)) (t n l)
        (λ r _. ap one (cases (eqb (x % t n l) r)
        (λ q. let k = eqb-true (x % t n l) r q in eq-eqb x (cell n l x * t n l + r) (omega arith) ∙ sym q)
        (λ q. let k = eqb-false (x % t n l) r q in ne_eqb x (cell n l x * t n l + r) (λ z. k (omega arith)) ∙ sym q)))
        ∙ count_one (x % t n l) (t n l) (mod-lt x (t_pos n pos l))

    -- the servers of a DCell0 but one
    pub around_others : (x : ℕ) → around n zero x (λ y. one (not (eqb x y))) ≡ n - 1
    unfolding t
    around_others x = omega (arith, count_not (λ r. eqb x (cell n zero x * t n zero + r)) (t n zero), around_self zero x)

    -- a DCell of level suc j has t j servers in the sub-cell of x
    pub around_same : (j x : ℕ) → around n (suc j) x (λ y. one (same n j x y)) ≡ t n j
    around_same j x =
        around_inside j x (λ y. one (same n j x y)) (λ y _ a. unfold one in (rw a))
        ∙ around_ext j x (λ y. one (same n j x y)) (λ _. 1) (λ y a. unfold one in (rw a))
        ∙ around_const j x 1
        ∙ omega arith
