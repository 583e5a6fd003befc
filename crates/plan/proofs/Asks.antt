-- What the planner refuses, test by test, and what `is_fitted` answers in each of its cases.
use mathlib.Core.Path.{◌≡◌, refl, sym, ◌∙◌, ap}
use mathlib.Core.Bool.{Bool, true, false, not}
use mathlib.Core.List.{List, [], ◌∷◌}
use Prim.Native.Nat.{ℕ, ◌+◌, ◌-◌, ◌*◌, ◌<◌, ◌≤◌}
use native.Mathlib.Omega.{arith}
use lib.Dec.{eqb, leb, ltb}
use borrow.Author.Tests.{eq-eqb, ne_eqb, lt-ltb, le-ltb, leb-true, le-leb, lt-leb, eqb-true, eqb-false, ltb-true, ltb-false}
use Rattle.std.specs.Prelude.{Ok}
use Rattle.combine.specs.Tests.{pick}
use Rattle.combine.specs.Lists.{up_to}
use Rattle.combine.proofs.Tests.{cases}
use Rattle.hall.specs.declared.Hall.{Hall}
use Rattle.hall.specs.Refusals.{refusal, bad_hall, hall_full}
use Rattle.hall.specs.Cells.{t}
use Rattle.hall.specs.Halls.{places, most_n, top, largest, Sized, capacity, n_fits, k_fits, count_fits, valid, is_full, servers}
use Rattle.hall.specs.Answers.{size_of, racks_of}
use Rattle.hall.proofs.Growth.{Valid, valid_known, size_at_lem, sized_below, no_servers, some_servers}
use Rattle.hall.proofs.Racks.{one_is, one_fits, racks_known, count_most, racks_servers}
use Rattle.plan.specs.Plan.{rank, prefix_of}
use Rattle.plan.specs.Answers.{fitted, first_fitted, is_fitted, asks_plan, prefix_at, next_prefix, prefix_stated}
use Rattle.plan.proofs.First.{first_fitted_lem, first_servers}

by_tests : (v k f : Bool) → refusal ((bad_hall, v) ∷ (bad_hall, k) ∷ (hall_full, not f) ∷ []) ≡ pick v (pick k (pick f 12 0) 1) 1
unfolding refusal
by_tests false k f = refl
by_tests true false f = refl
by_tests true true true = refl
by_tests true true false = refl

pub sized_known : (n k : ℕ) → 2 ≤ n → Sized n k → (n_fits n ≡ true) × (k_fits n k ≡ true)
unfolding n_fits k_fits
sized_known n k l z = (rw (le-leb 2 n l, le-leb n most_n z.n_high), le-leb k top z.k_high)

module _ (h : Hall) where
  pub racks_valid : (r : ℕ) → valid h ≡ true → r ≡ racks_of h.n h.k → r ≡ capacity h.n h.k
  racks_valid r v e =
      let k = valid_known h v in
      let s = sized_known h.n h.k k.n_low k.sized in
      racks_known h.n h.k r s.0 s.1 e

  -- a hall is full where its count is what the call tells that it can have
  pub full_told : (r : ℕ) → valid h ≡ true → r ≡ racks_of h.n h.k → eqb h.count r ≡ is_full h
  unfolding is_full
  full_told r v e = ap (eqb h.count) (racks_valid r v e)

  pub full_is : (r : ℕ) → valid h ≡ true → r ≡ racks_of h.n h.k → h.count ≡ r → is_full h ≡ true
  full_is r v e m = sym (full_told r v e) ∙ eq-eqb h.count r m

  pub refused_is : refusal (asks_plan h) ≡ pick (valid h) (pick (leb 2 h.k) (pick (is_full h) 12 0) 1) 1
  refused_is = by_tests (valid h) (leb 2 h.k) (is_full h)

  pub refused_hall : valid h ≡ false → 1 ≡ refusal (asks_plan h)
  refused_hall v = rw (refused_is, v)

  pub refused_low : h.k < 2 → 1 ≡ refusal (asks_plan h)
  refused_low l = rw (refused_is, lt-leb 2 h.k l) (cases (valid h) (λ e. rw e) (λ e. rw e))

  module _ (v : valid h ≡ true) (l : 2 ≤ h.k) (r : ℕ) (e : r ≡ racks_of h.n h.k) where
    pub refused_full : h.count ≡ r → 12 ≡ refusal (asks_plan h)
    refused_full m = rw (refused_is, v, le-leb 2 h.k l, full_is r v e m)

    pub refused_not : (h.count ≡ r → ⊥) → 0 ≡ refusal (asks_plan h)
    refused_not m = rw (refused_is, v, le-leb 2 h.k l, sym (full_told r v e) ∙ ne_eqb h.count r m)

  -- what is known where the planner is not refused
  pub record Room : Type 0 where
    pub known : Valid h
    pub high : 2 ≤ h.k
    pub below : h.count < capacity h.n h.k

  pub room : refusal (asks_plan h) ≡ 0 → Room
  unfolding is_full
  room e =
      let p : pick (valid h) (pick (leb 2 h.k) (pick (is_full h) hall_full 0) bad_hall) bad_hall ≡ 0 = sym refused_is ∙ e in
      cases (valid h)
      (λ v. cases (leb 2 h.k)
      (λ k. cases (is_full h)
      (λ f. let q : 12 ≡ 0 = rw (v, k, f) at p in absurd (omega arith))
      (λ f.
      let d = eqb-false h.count (capacity h.n h.k) f in
      let w = count_most h.n h.k h.count (valid_known h v).count_fits in
      record { known = valid_known h v; high = leb-true 2 h.k k; below = omega arith }))
      (λ k. let q : 1 ≡ 0 = rw (v, k) at p in absurd (omega arith)))
      (λ v. let q : 1 ≡ 0 = rw v at p in absurd (omega arith))

  -- the numbers of a hall whose planner is not refused, and its prefix
  module _ (e : 0 ≡ refusal (asks_plan h)) where
    pub planned_high : 1 ≤ h.k
    planned_high = omega (arith, (room (sym e)).high)

    pub planned_low : 2 ≤ h.n
    planned_low = (room (sym e)).known.n_low

    pub planned_sized : Sized h.n (h.k - 1 + 1)
    planned_sized = let w = room (sym e) in sized_below h.n h.k (h.k - 1 + 1) w.known.sized (omega (arith, w.high))

    pub planned_prefix : (entries : List ℕ) → entries ≡ up_to (prefix_at h.n (h.k - 1 + 1) h.count) places → prefix_stated (Ok entries) ≡ next_prefix h
    planned_prefix entries q = let k : h.k - 1 + 1 ≡ h.k = omega (arith, (room (sym e)).high) in rw (← e, q, k)

  -- a server of the hall is fitted as the call tells
  pub told_fitted : (u : ℕ) → valid h ≡ true → u < servers h → is_fitted h u ≡ fitted h u
  told_fitted u v l = rw (v, lt-ltb u (servers h) l)

  -- whether a server is fitted, by the code's cases
  module _ (u r : ℕ) (e : r ≡ pick (valid h) (servers h) 0) (l : u < r) where
    pub server_valid : valid h ≡ true
    server_valid = cases (valid h) (λ v. v) (λ v. let q : r ≡ 0 = e ∙ rw v in absurd (omega arith))

    server_fitted : is_fitted h u ≡ fitted h u
    server_fitted =
        let q : r ≡ servers h = e ∙ rw server_valid in
        rw (server_valid, lt-ltb u (servers h) (omega arith))

    -- with k below 2 every server is
    pub fitted_low : h.k < 2 → true ≡ is_fitted h u
    unfolding fitted rank count_fits
    fitted_low q =
        let z : h.k - 1 ≡ 0 = omega arith in
        let w : eqb h.count 1 ≡ true = rw (lt-leb 2 h.k q) at (valid_known h server_valid).count_fits in
        let o = eqb-true h.count 1 w in
        rw (server_fitted, z, o)

    pub fitted_rank : (c : ℕ) → c ≡ rank h.n (h.k - 1) (prefix_of h.n (h.k - 1) u) → ltb c h.count ≡ is_fitted h u
    unfolding fitted
    fitted_rank c q = rw (server_fitted, q)

  -- a hall that there is has a DCell0 of some servers
  pub some_hall : (r : ℕ) → r ≡ size_of h 0 → (r ≡ 0 → ⊥) → valid h ≡ true
  unfolding size_of
  some_hall r e d = cases (valid h) (λ v. v) (λ v. absurd (d (e ∙ rw v)))

  pub no_hall : (u r : ℕ) → r ≡ size_of h 0 → r ≡ 0 → false ≡ is_fitted h u
  unfolding size_of t
  no_hall u r e z = cases (valid h)
      (λ v. let q : r ≡ h.n = e ∙ rw v (size_at_lem h.n h.k 0 (omega arith)) in absurd (omega (arith, (valid_known h v).n_low)))
      (λ v. rw v)

  -- where the fitted servers are the first, their number decides
  module _ (v : valid h ≡ true) where
    pub count_servers : h.count * t h.n 1 ≤ largest
    count_servers = let k = valid_known h v in racks_servers h.n h.k h.count (omega (arith, k.n_low)) k.sized k.count_fits

    pub first_decides : (b : Bool) → b ≡ first_fitted h.n h.k h.count → b ≡ true → (u most : ℕ) → most ≡ h.count * t h.n 1 → ltb u most ≡ is_fitted h u
    first_decides b f z u most m =
        let k = valid_known h v in
        cases (ltb u (servers h))
        (λ q. rw (m, v, q) (sym (first_fitted_lem h (omega (arith, k.n_low)) (sym f ∙ z) u (ltb-true u (servers h) q))))
        (λ q.
        let l = ltb-false u (servers h) q in
        let c = first_servers h (omega (arith, k.n_low)) k.count_fits (sym f ∙ z) in
        rw (v, q) (le-ltb u most (omega arith)))

-- the planner's refusals, ask by ask, from the servers that a hall has
pub ruleset plan_asked = (no_servers, some_servers, refused_hall, refused_low, refused_full, refused_not)

-- the planner's prefix, where it is not refused
pub ruleset plan_good = (planned_high, planned_low, planned_sized, planned_prefix)

-- t(1) in the code's words, and its bound
pub ruleset rack_numbers = (one_is, one_fits)
