-- Laws of racks, which are DCell1s: a DCell of level m + 1 is `racks` of them, so a hall can have t(k) / t(1), and no more than it has servers;
-- and what a count that fits says.
use mathlib.Core.Path.{◌≡◌, refl, sym, ◌∙◌, ap}
use mathlib.Core.Bool.{true}
use Prim.Native.Nat.{ℕ, zero, suc, ◌+◌, ◌-◌, ◌*◌, ◌/◌, ◌<◌, ◌≤◌}
use native.Mathlib.Nat.{le_trans, mul-div_left, mul-le-mul, mul-le-mul_left, mul-le-mul_right}
use native.Mathlib.Omega.{arith}
use lib.Dec.{eqb, leb}
use borrow.Author.Tests.{leb-true, leb-false, eqb-true, eq-eqb, le-leb}
use Rattle.combine.proofs.Tests.{cases, both_right}
use Rattle.hall.specs.Cells.{t}
use Rattle.hall.specs.Halls.{most_n, top, largest, Sized, racks, capacity, n_fits, k_fits, count_fits}
use Rattle.hall.specs.Answers.{racks_of}
use Rattle.hall.proofs.Cells.{t_pos}
use Rattle.hall.proofs.Growth.{t_fits, t_up}

-- the DCell1s that a hall can have, as the call works them out
pub racks_known : (n k r : ℕ) → n_fits n ≡ true → k_fits n k ≡ true → r ≡ racks_of n k → r ≡ capacity n k
unfolding racks_of
racks_known n k r p q e = e ∙ rw (p, q)

module _ (n : ℕ) where
  pub racks_pos : (m : ℕ) → 0 < racks n m
  unfolding racks
  racks_pos zero = omega arith
  racks_pos (suc m) = omega (arith, racks_pos m)

  -- a DCell of level m + 1 is made of its DCell1s
  pub racks_size : (m : ℕ) → t n (suc m) ≡ racks n m * t n 1
  unfolding racks
  racks_size zero = omega arith
  racks_size (suc m) =
      let e : t n (suc (suc m)) ≡ (t n (suc m) + 1) * t n (suc m) = unfold t in refl in
      e ∙ ap (λ (k : ℕ). (t n (suc m) + 1) * k) (racks_size m) ∙ omega arith

  pub racks_div : 0 < n → (m : ℕ) → t n (suc m) / t n 1 ≡ racks n m
  racks_div pos m = ap (λ (k : ℕ). k / t n 1) (racks_size m) ∙ mul-div_left (racks n m) (t_pos n pos 1)

  -- it has at least as many servers
  pub racks_low : 0 < n → (m : ℕ) → racks n m ≤ t n (suc m)
  racks_low pos m = rw (racks_size m) (omega (arith, mul-le-mul_left (racks n m) (t_pos n pos 1)))

-- without servers on a switch there is one DCell1 of none
t_none : (i : ℕ) → t 0 i ≡ 0
unfolding t
t_none zero = refl
t_none (suc i) = rw (t_none i)

one_rack : (m : ℕ) → racks 0 m ≡ 1
unfolding racks
one_rack zero = refl
one_rack (suc m) = rw (t_none (suc m), one_rack m)

-- t(1), as code works it out
pub one_is : (n : ℕ) → (n + 1) * n ≡ t n 1
unfolding t
one_is n = refl

pub one_fits : (n : ℕ) → n ≤ most_n → (n + 1) * n ≤ 72
one_fits n h = let k : n + 1 ≤ 9 = omega arith in mul-le-mul k h

-- the numbers of a DCell of level j + 2, over sub-cells of s servers and r DCell1s each, where t(1) + 1 is g
pub record Fit (g s r : ℕ) : Type 0 where
  pub s_pos : 0 < s
  pub r_pos : 0 < r
  pub g_high : g ≤ s + 1
  pub s_fits : s ≤ largest
  pub up_fits : (s + 1) * s ≤ largest
  pub r_fits : (s + 1) * r ≤ largest
  pub g_fits : g * r ≤ largest

module _ (n k j : ℕ) (pos : 0 < n) (z : Sized n k) (l : suc j < k) where
  pub fit : Fit (t n 1 + 1) (t n (suc j)) (racks n j)
  fit =
      let up : (t n (suc j) + 1) * t n (suc j) ≤ largest = unfold t in (t_fits n k (suc (suc j)) z l) in
      let rf : (t n (suc j) + 1) * racks n j ≤ largest = le_trans (mul-le-mul_left (t n (suc j) + 1) (racks_low n pos j)) up in
      let gs : t n 1 + 1 ≤ t n (suc j) + 1 = omega (arith, t_up n 1 (suc j) (omega arith)) in
      record {
        s_pos = t_pos n pos (suc j);
        r_pos = racks_pos n j;
        g_high = gs;
        s_fits = t_fits n k (suc j) z (omega arith);
        up_fits = up;
        r_fits = rf;
        g_fits = le_trans (mul-le-mul_right (racks n j) gs) rf;
      }

-- n and k that fit
pub sized_fits : (n k : ℕ) → n_fits n ≡ true → k_fits n k ≡ true → Sized n k
unfolding n_fits k_fits
sized_fits n k p q = record { n_high = leb-true n most_n (both_right (leb 2 n) (leb n most_n) p); k_high = leb-true k top q }

-- exactly t(k) / t(1) can be placed
pub capacity_is : (n k : ℕ) → 0 < n → 0 < k → capacity n k ≡ t n k / t n 1
unfolding capacity
capacity_is n k pos l = let e : suc (k - 1) ≡ k = omega arith in sym (racks_div n pos (k - 1)) ∙ ap (λ (i : ℕ). t n i / t n 1) e

-- with k below 2 it is 1
pub capacity_low : (n k : ℕ) → k < 2 → capacity n k ≡ 1
unfolding capacity racks
capacity_low n k l = let e : k - 1 ≡ 0 = omega arith in rw e

pub capacity_pos : (n k : ℕ) → 0 < capacity n k
unfolding capacity
capacity_pos n k = racks_pos n (k - 1)

-- there are no more than servers
pub capacity_servers : (n k : ℕ) → 0 < n → 0 < k → capacity n k ≤ t n k
unfolding capacity
capacity_servers n k pos l = let e : suc (k - 1) ≡ k = omega arith in rw e at (racks_low n pos (k - 1))

pub capacity_fits : (n k : ℕ) → 0 < n → Sized n k → capacity n k ≤ largest
capacity_fits n k pos z = cases (leb 2 k)
    (λ e. let l = leb-true 2 k e in le_trans (capacity_servers n k pos (omega arith)) (t_fits n k k z (omega arith)))
    (λ e. omega (arith, capacity_low n k (leb-false 2 k e)))

-- it is a small number, with no server on a switch too
pub capacity_small : (n k : ℕ) → Sized n k → capacity n k ≤ largest
unfolding capacity
capacity_small zero k z = omega (arith, one_rack (k - 1))
capacity_small (suc n) k z = capacity_fits (suc n) k (omega arith) z

-- a count that fits is at most the capacity
pub count_most : (n k count : ℕ) → count_fits n k count ≡ true → count ≤ capacity n k
unfolding count_fits
count_most n k count e = cases (leb 2 k)
    (λ q. let w : leb count (capacity n k) ≡ true = rw q at e in leb-true count (capacity n k) w)
    (λ q. let w : eqb count 1 ≡ true = rw q at e in let o = eqb-true count 1 w in omega (arith, capacity_pos n k))

-- the full count fits, and with k below 2 it is the only one
pub full_fits : (n k : ℕ) → count_fits n k (capacity n k) ≡ true
unfolding count_fits
full_fits n k = cases (leb 2 k)
    (λ q. rw q (le-leb (capacity n k) (capacity n k) (omega arith)))
    (λ q. rw q (eq-eqb (capacity n k) 1 (capacity_low n k (leb-false 2 k q))))

-- the DCell1s that are fitted have no more servers than the largest hall
pub racks_servers : (n k count : ℕ) → 0 < n → Sized n k → count_fits n k count ≡ true → count * t n 1 ≤ largest
unfolding capacity
racks_servers n k count pos z e = cases (leb 1 k)
    (λ q.
    let l = leb-true 1 k q in
    let s : suc (k - 1) ≡ k = omega arith in
    let w : t n k ≡ racks n (k - 1) * t n 1 = rw s at (racks_size n (k - 1)) in
    le_trans (mul-le-mul_right (t n 1) (count_most n k count e)) (rw (← w) (t_fits n k k z (omega arith))))
    (λ q.
    let l = leb-false 1 k q in
    let c = count_most n k count e in
    let o = capacity_low n k (omega arith) in
    let f = one_fits n z.n_high in
    let i = one_is n in
    let m : count * t n 1 ≤ 1 * t n 1 = mul-le-mul_right (t n 1) (omega arith) in
    omega arith)
