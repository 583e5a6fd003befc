-- The planner's laws for a hall: that a DCell1 is fitted as a whole, that in a full hall every server is, and that the planner's answer is the tuple of the first server of the DCell1 that comes next.
use mathlib.Core.Path.{◌≡◌, sym, ◌∙◌, ap}
use mathlib.Core.Bool.{true, false}
use mathlib.Core.List.{List}
use Prim.Native.Nat.{ℕ, zero, suc, ◌+◌, ◌-◌, ◌%◌, ◌<◌, ◌≤◌}
use native.Mathlib.Nat.{mod-eq_of_lt, zero-div, zero-mod}
use native.Mathlib.Omega.{arith}
use lib.Dec.{leb, ltb}
use lib.ListN.{get_or}
use borrow.Author.Tests.{leb-true, leb-false, lt-ltb, le-ltb, eqb-true}
use Rattle.combine.specs.Lists.{up_to}
use Rattle.combine.proofs.Tests.{cases, pick_same}
use Rattle.combine.proofs.Lists.{up_to_cong}
use Rattle.hall.specs.declared.Hall.{Hall}
use Rattle.hall.specs.Cells.{t, same, sub}
use Rattle.hall.specs.Halls.{places, racks, capacity, is_full}
use Rattle.hall.specs.Tuples.{entry, entry_at, tuple}
use Rattle.hall.proofs.Place.{inside_of}
use Rattle.hall.proofs.Cells.{t_pos}
use Rattle.plan.specs.Plan.{place, IsPrefix, rank, prefix_of, start}
use Rattle.plan.specs.Adding.{after, has}
use Rattle.plan.specs.Answers.{fitted, prefix_at}
use Rattle.plan.proofs.Place.{place_fits}
use Rattle.plan.proofs.Servers.{prefix_same, prefix_start, server_at, fitted_has}
use Rattle.plan.proofs.Sizes.{rank_below}

-- servers of one DCell1 are fitted together
pub fitted_same : (h : Hall) (u v : ℕ) → same h.n 1 u v ≡ true → fitted h u ≡ fitted h v
unfolding fitted
fitted_same h u v s = ap (λ (r : List ℕ). ltb (rank h.n (h.k - 1) r) h.count) (prefix_same h.n (h.k - 1) u v s)

-- in a full hall every server is fitted
pub fitted_full : (h : Hall) (u : ℕ) → is_full h ≡ true → fitted h u ≡ true
unfolding fitted is_full capacity
fitted_full h u e =
    let c = eqb-true h.count (racks h.n (h.k - 1)) e in
    lt-ltb (rank h.n (h.k - 1) (prefix_of h.n (h.k - 1) u)) h.count (omega (arith, rank_below h.n (h.k - 1) u))

-- with nothing fitted, none
pub fitted_none : (h : Hall) (u : ℕ) → h.count ≡ 0 → fitted h u ≡ false
unfolding fitted
fitted_none h u z = le-ltb (rank h.n (h.k - 1) (prefix_of h.n (h.k - 1) u)) h.count (omega arith)

-- a server is fitted exactly where the paper's procedure, run count times, has its DCell1
pub fitted_adding : (h : Hall) (m u : ℕ) → h.k ≡ suc (suc m) → has (suc m) (after h.n m h.count) (prefix_of h.n (suc m) u) ≡ fitted h u
unfolding fitted
fitted_adding h m u e =
    let z : h.k - 1 ≡ suc m = omega arith in
    rw z (fitted_has h.n m h.count u)

module _ (n : ℕ) where
  -- entries of a server by the prefix of its DCell1
  prefix_entry : (m u i : ℕ) → 2 ≤ i → i ≤ suc m → entry n i u ≡ get_or (prefix_of n m u) (suc m - i) 0
  unfolding prefix_of entry
  prefix_entry m u zero l h = absurd (omega arith)
  prefix_entry zero u (suc i) l h = absurd (omega arith)
  prefix_entry (suc m) u (suc i) l h = cases (leb (suc i) (suc m))
      (λ e.
      let b = leb-true (suc i) (suc m) e in
      let z : suc (suc m) - suc i ≡ suc (suc m - suc i) = omega arith in
      rw z (prefix_entry m u (suc i) l b))
      (λ e.
      let b = leb-false (suc i) (suc m) e in
      let z : i ≡ suc m = omega arith in
      let y : suc (suc m) - suc (suc m) ≡ 0 = omega arith in
      rw (z, y))

  module _ (pos : 0 < n) where
    -- the first server of a DCell1 is its server 0
    start_zero : (m : ℕ) (r : List ℕ) → IsPrefix n m r → start n m r % t n 1 ≡ 0
    start_zero m r v =
        let p = prefix_start n m r 0 v (t_pos n pos 1) in
        let z : start n m r + 0 ≡ start n m r = omega arith in
        let q : prefix_of n m (start n m r) ≡ r = rw z at p.1 in
        let l : start n m r < t n (suc m) = omega (arith, p.0) in
        let s : start n m r ≡ start n m r + start n m r % t n 1 = sym (mod-eq_of_lt l) ∙ server_at n pos m (start n m r) ∙ ap (λ (x : List ℕ). start n m x + start n m r % t n 1) q in
        omega arith

    zero_entries : (u : ℕ) → u % t n 1 ≡ 0 → (i : ℕ) → i < 2 → entry n i u ≡ 0
    unfolding entry sub t
    zero_entries u e zero h = sym (inside_of n u pos) ∙ rw e (zero-mod n)
    zero_entries u e (suc zero) h = rw e (zero-div n)
    zero_entries u e (suc (suc i)) h = absurd (omega arith)

    -- the planner's entries are the tuple of the first server of the next DCell1
    pub prefix_tuple : (k count : ℕ) → 2 ≤ k → count < racks n (k - 1) → up_to (prefix_at n k count) places ≡ tuple n k (start n (k - 1) (place n (k - 1) count))
    unfolding prefix_at entry_at
    prefix_tuple k count l h = up_to_cong (prefix_at n k count) (entry_at n k (start n (k - 1) (place n (k - 1) count))) places each
      where
        v : IsPrefix n (k - 1) (place n (k - 1) count)
        v = place_fits n (k - 1) count h

        own : prefix_of n (k - 1) (start n (k - 1) (place n (k - 1) count)) ≡ place n (k - 1) count
        own =
            let z : start n (k - 1) (place n (k - 1) count) + 0 ≡ start n (k - 1) (place n (k - 1) count) = omega arith in
            rw z at (prefix_start n (k - 1) (place n (k - 1) count) 0 v (t_pos n pos 1)).1

        each : (i : ℕ) → i < places → prefix_at n k count i ≡ entry_at n k (start n (k - 1) (place n (k - 1) count)) i
        each i b = cases (leb 2 i)
            (λ p. cases (leb i k)
            (λ q.
            let y : suc (k - 1) ≡ k = omega arith in
            let w = leb-true i k q in
            rw (p, q) (sym (prefix_entry (k - 1) (start n (k - 1) (place n (k - 1) count)) i (leb-true 2 i p) (omega arith) ∙ rw (own, y))))
            (λ q. rw (p, q)))
            (λ p.
            let z = zero_entries (start n (k - 1) (place n (k - 1) count)) (start_zero (k - 1) (place n (k - 1) count) v) i (leb-false 2 i p) in
            rw (p, z) (sym (pick_same (leb i k) 0)))
