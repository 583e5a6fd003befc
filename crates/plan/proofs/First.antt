-- Where the fitted servers are the first of the hall: in a DCell2 the rank of a DCell1 is its index; in a DCell3 whose first DCell2s are full it is
-- its number among all, and those that were begun with are fitted anyway.
use mathlib.Core.Path.{◌≡◌, sym, ◌∙◌, ap}
use mathlib.Core.Bool.{true}
use Prim.Native.Nat.{ℕ, suc, ◌+◌, ◌-◌, ◌*◌, ◌/◌, ◌%◌, ◌<◌, ◌≤◌}
use native.Mathlib.Nat.{div-add-mod', div-lt_iff_lt-mul, mod-eq_of_lt, mul-le-mul_right}
use native.Mathlib.Omega.{arith}
use lib.Dec.{eqb, leb, ltb}
use lib.Arith.{digits_lt}
use borrow.Author.Tests.{ltb-true, ltb-false, lt-ltb, leb-true, eqb-true}
use Rattle.combine.specs.Tests.{both}
use Rattle.combine.proofs.Tests.{cases, both_ways, both_left, both_right, either_cases}
use Rattle.hall.specs.declared.Hall.{Hall}
use Rattle.hall.specs.Cells.{t, cell, sub}
use Rattle.hall.specs.Halls.{servers, racks, capacity, count_fits}
use Rattle.hall.proofs.Racks.{racks_size, count_most}
use Rattle.hall.proofs.Cells.{t_pos, cell_up, cell_sub, sub_fits}
use Rattle.plan.specs.Plan.{before, rank, prefix_of}
use Rattle.plan.specs.Answers.{fitted, first_fitted}
use Rattle.plan.proofs.Index.{before_high, index_before}
use Rattle.plan.proofs.Adding.{before_two}

-- a DCell1 is below a count where its servers are below as many of t(1)
below_times : (T u c : ℕ) → 0 < T → ltb (u / T) c ≡ ltb u (c * T)
below_times T u c pos = both_ways (ltb (u / T) c) (ltb u (c * T))
    (λ k. lt-ltb u (c * T) ((div-lt_iff_lt-mul pos).0 (ltb-true (u / T) c k)))
    (λ k. lt-ltb (u / T) c ((div-lt_iff_lt-mul pos).1 (ltb-true u (c * T) k)))

module _ (n : ℕ) (pos : 0 < n) where
  -- the rank inside a DCell2 is the index
  rank_two : (u : ℕ) → rank n 1 (prefix_of n 1 u) ≡ sub n 1 u
  unfolding rank prefix_of racks
  rank_two u = before_two n (t n 1 + 1) (sub n 1 u)

  -- a server's DCell1 among all
  sub_two : (u : ℕ) → u < t n 2 → sub n 1 u ≡ u / t n 1
  unfolding sub t
  sub_two u l = ap (λ (v : ℕ). v / t n 1) (mod-eq_of_lt l)

  number_three : (u : ℕ) → u < t n 3 → u / t n 1 ≡ sub n 2 u * (t n 1 + 1) + sub n 1 u
  number_three u l =
      let a : u / t n 1 / (t n 1 + 1) ≡ sub n 2 u = unfold sub cell t in (cell_up n 1 u ∙ ap (λ (v : ℕ). v / t n 2) (sym (mod-eq_of_lt l))) in
      let b : u / t n 1 % (t n 1 + 1) ≡ sub n 1 u = unfold cell in (cell_sub n 1 u) in
      sym (div-add-mod' (u / t n 1) (t n 1 + 1)) ∙ rw (a, b)

  -- the rank in a DCell3
  rank_three : (u : ℕ) → rank n 2 (prefix_of n 2 u) ≡ before (t n 1 + 1) (t n 1 + 1) (sub n 2 u) (sub n 1 u)
  unfolding rank prefix_of racks
  rank_three u =
      let e : (t n 1 + 1) * 1 ≡ t n 1 + 1 = omega arith in
      rw (e, before_two n (t n 1 + 1) (sub n 1 u))

  module _ (u c : ℕ) (l : u < t n 3) (full : (t n 1 + 1) * (t n 1 + 1) ≤ c) where
    abbrev G : ℕ
    G = t n 1 + 1

    inside : sub n 1 u < G
    inside = sub_fits n 1 u

    early : sub n 2 u < G → ltb (before G G (sub n 2 u) (sub n 1 u)) c ≡ ltb (sub n 2 u * G + sub n 1 u) c
    early q =
        let w = (index_before G G (omega arith) G (omega arith) (sub n 2 u) (sub n 1 u) q inside).0 in
        let z : sub n 2 u * G + sub n 1 u < G * G = digits_lt q inside in
        lt-ltb (before G G (sub n 2 u) (sub n 1 u)) c (omega arith) ∙ sym (lt-ltb (sub n 2 u * G + sub n 1 u) c (omega arith))

    pub rank_number : ltb (rank n 2 (prefix_of n 2 u)) c ≡ ltb (u / t n 1) c
    rank_number =
        rw (rank_three u, number_three u l)
        (cases (ltb (sub n 2 u) G)
        (λ q. early (ltb-true (sub n 2 u) G q))
        (λ q. ap (λ (r : ℕ). ltb r c) (before_high G G (omega arith) (sub n 2 u) (sub n 1 u) (ltb-false (sub n 2 u) G q))))

pub first_fitted_lem : (h : Hall) → 0 < h.n → first_fitted h.n h.k h.count ≡ true → (u : ℕ) → u < servers h → fitted h u ≡ ltb u (h.count * t h.n 1)
unfolding first_fitted fitted servers
first_fitted_lem h pos e u l =
    let n : ℕ = h.n in
    let T : ℕ = t n 1 in
    either_cases (eqb h.k 2) (both (eqb h.k 3) (leb ((T + 1) * (T + 1)) h.count)) e
    (λ q.
    let k = eqb-true h.k 2 q in
    let m : h.k - 1 ≡ 1 = omega arith in
    let w : u < t n 2 = rw k at l in
    rw m (ap (λ (r : ℕ). ltb r h.count) (rank_two n pos u ∙ sub_two n pos u w) ∙ below_times T u h.count (t_pos n pos 1)))
    (λ q.
    let k = eqb-true h.k 3 (both_left (eqb h.k 3) (leb ((T + 1) * (T + 1)) h.count) q) in
    let f = leb-true ((T + 1) * (T + 1)) h.count (both_right (eqb h.k 3) (leb ((T + 1) * (T + 1)) h.count) q) in
    let m : h.k - 1 ≡ 2 = omega arith in
    let w : u < t n 3 = rw k at l in
    rw m (rank_number n pos u h.count w f ∙ below_times T u h.count (t_pos n pos 1)))

-- they are of the hall
pub first_servers : (h : Hall) → 0 < h.n → count_fits h.n h.k h.count ≡ true → first_fitted h.n h.k h.count ≡ true → h.count * t h.n 1 ≤ servers h
unfolding first_fitted servers capacity
first_servers h pos c e =
    let n : ℕ = h.n in
    let T : ℕ = t n 1 in
    let high : 2 ≤ h.k = either_cases (eqb h.k 2) (both (eqb h.k 3) (leb ((T + 1) * (T + 1)) h.count)) e
    (λ q. let k = eqb-true h.k 2 q in omega arith)
    (λ q. let k = eqb-true h.k 3 (both_left (eqb h.k 3) (leb ((T + 1) * (T + 1)) h.count) q) in omega arith) in
    let s : suc (h.k - 1) ≡ h.k = omega arith in
    let w : t n h.k ≡ racks n (h.k - 1) * T = rw s at (racks_size n (h.k - 1)) in
    rw w (mul-le-mul_right T (count_most n h.k h.count c))
