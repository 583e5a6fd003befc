-- A search over links of which some are cut: with none left at the origin the origin alone is reached, and with those left that join the first m
-- servers it is the search among these, and nobody behind them is reached.
use mathlib.Core.Path.{◌≡◌, refl, sym, ◌∙◌, ap}
use mathlib.Core.Bool.{Bool, true, false}
use mathlib.Core.List.{List, ◌++◌}
use Prim.Native.Nat.{ℕ, zero, suc, ◌+◌, ◌-◌, ◌<◌, ◌≤◌}
use native.Mathlib.Numerals.{add-one}
use native.Mathlib.Omega.{arith}
use lib.Dec.{eqb, ltb, leb}
use lib.ListN.{length, get_or, replicate, length-append, length-replicate, get_or-replicate, length-set, get_or-append}
use lib.Seq.{ext_get_or, get_or-append-add, get_or-set_same, get_or-set_other}
use borrow.Author.Tests.{ltb-true, ltb-false, lt-ltb, le-ltb, leb-true, eqb-true, eqb-false}
use Rattle.combine.specs.Tests.{pick, both, any_below}
use Rattle.combine.proofs.Tests.{cases, never, both_left, both_right, both_true, both_false, either_cases, any_some, both_ways}
use Rattle.search.specs.Rounds.{leads, new, start, marks, distances, reached_count, last_round}
use Rattle.search.specs.Reach.{reach, Means, far, near}
use Rattle.search.proofs.Rounds.{length-marks, round_still}
use Rattle.search.proofs.Reach.{reach_more, reach_step}
use Rattle.search.proofs.Distance.{distance_means, distance_only}
use Rattle.search.proofs.Counts.{reached_start, reached_skip, reached_more, last_start, last_skip, last_keep}

-- before the first round: the origin alone
module _ (n none o : ℕ) (inside : o < n) where
  pub start_origin : get_or (start n none o) o 0 ≡ 0
  start_origin = get_or-set_same {A = ℕ} (replicate n none) o 0 0 (omega (arith, length-replicate {A = ℕ} n none))

  pub start_other : (y : ℕ) → y < n → (y ≡ o → ⊥) → get_or (start n none o) y 0 ≡ none
  start_other y l d = get_or-set_other {A = ℕ} (replicate n none) o y 0 0 d ∙ get_or-replicate {A = ℕ} n y none 0 l

  -- one is reached, in round 0
  module _ (some : 0 < none) where
    reached_below : (m : ℕ) → m ≤ n → reached_count none (start n none o) m ≡ pick (ltb o m) 1 0
    reached_below zero l = reached_start none (start n none o) ∙ rw (le-ltb o 0 (omega arith))
    reached_below (suc m) l =
        rw (sym (add-one m))
        (cases (eqb m o)
        (λ e.
        let q = eqb-true m o e in
        let z : get_or (start n none o) m 0 ≡ 0 = rw q start_origin in
        reached_more none (start n none o) m (λ k. absurd (omega (arith, k)))
        ∙ rw (reached_below m (omega arith), le-ltb o m (omega arith), lt-ltb o (m + 1) (omega arith)))
        (λ e.
        let d = eqb-false m o e in
        reached_skip none (start n none o) m (start_other m (omega arith) d)
        ∙ reached_below m (omega arith)
        ∙ ap (λ (b : Bool). pick b 1 0) (cases (ltb o m)
        (λ k. k ∙ sym (lt-ltb o (m + 1) (omega (arith, ltb-true o m k))))
        (λ k. k ∙ sym (le-ltb o (m + 1) (behind m d (ltb-false o m k)))))))
      where
        behind : (m : ℕ) → (m ≡ o → ⊥) → m ≤ o → m + 1 ≤ o
        behind m d l = cases (ltb m o) (λ k. omega (arith, ltb-true m o k)) (λ k. absurd (d (omega (arith, ltb-false m o k))))

    pub reached_alone : reached_count none (start n none o) n ≡ 1
    reached_alone = reached_below n (omega arith) ∙ rw (lt-ltb o n inside)

    last_none : (m : ℕ) → m ≤ n → last_round none (start n none o) m ≡ 0
    last_none zero l = last_start none (start n none o)
    last_none (suc m) l =
        rw (sym (add-one m))
        (cases (eqb m o)
        (λ e.
        let q = eqb-true m o e in
        let z : get_or (start n none o) m 0 ≡ 0 = rw q start_origin in
        last_keep none (start n none o) m (omega arith) ∙ last_none m (omega arith))
        (λ e. last_skip none (start n none o) m (start_other m (omega arith) (eqb-false m o e)) ∙ last_none m (omega arith)))

    pub last_alone : last_round none (start n none o) n ≡ 0
    last_alone = last_none n (omega arith)

-- NO LINK AT THE ORIGIN: THE ORIGIN ALONE
module _ (adj : ℕ → ℕ → Bool) (n none o : ℕ) (inside : o < n) (small : n < none) (cut : (x : ℕ) → x < n → adj o x ≡ false) where
  nobody : (r : ℕ) → r < none → (x : ℕ) → x < n → new adj n none r (start n none o) x ≡ false
  unfolding new
  nobody r b x l =
      let old : List ℕ = start n none o in
      both_false (eqb (get_or old x 0) none) (any_below (leads adj r old x) n)
      (cases (any_below (leads adj r old x) n)
      (λ e.
      let s = any_some (leads adj r old x) n e in
      let y : ℕ = s.0 in
      let early = leb-true (get_or old y 0) r (both_left (leb (get_or old y 0) r) (adj y x) s.2) in
      let link = both_right (leb (get_or old y 0) r) (adj y x) s.2 in
      cases (eqb y o)
      (λ k. never link (ap (λ (w : ℕ). adj w x) (eqb-true y o k) ∙ cut x l))
      (λ k. absurd (omega (arith, start_other n none o inside y s.1 (eqb-false y o k)))))
      (λ e. e))

  nothing_new : (r : ℕ) → r < none → any_below (new adj n none r (start n none o)) n ≡ false
  nothing_new r b = cases (any_below (new adj n none r (start n none o)) n)
      (λ e. let s = any_some (new adj n none r (start n none o)) n e in never s.2 (nobody r b s.0 s.1))
      (λ e. e)

  marks_alone : (r : ℕ) → r ≤ n → marks adj n none o r ≡ start n none o
  unfolding marks
  marks_alone zero l = refl
  marks_alone (suc r) l =
      let w = length-set {A = ℕ} (replicate n none) o 0 in
      let k = length-replicate {A = ℕ} n none in
      rw (marks_alone r (omega arith)) (round_still adj n none r (start n none o) (omega arith) (nothing_new r (omega arith)))

  pub distances_alone : distances adj n none o ≡ start n none o
  distances_alone = marks_alone n (omega arith)

-- THE LINKS AMONG THE FIRST m SERVERS: THE SEARCH AMONG THESE
module _ (adj less : ℕ → ℕ → Bool) (n m none o : ℕ) (few : m ≤ n) (inside : o < m)
    (front : (y x : ℕ) → y < n → x < n → less y x ≡ both (both (ltb y m) (ltb x m)) (adj y x)) where
  reach_front : (r v : ℕ) → v < n → reach less n o r v ≡ both (ltb v m) (reach adj m o r v)
  unfolding reach
  reach_front zero v l = cases (eqb v o)
      (λ e. let q = eqb-true v o e in rw (e, lt-ltb v m (omega arith)))
      (λ e. rw e (sym (both_false (ltb v m) false refl)))
  reach_front (suc r) v l =
      let R : ℕ → Bool = reach less n o r in
      let S : ℕ → Bool = reach adj m o r in
      both_ways (reach less n o (suc r) v) (both (ltb v m) (reach adj m o (suc r) v))
      (λ e. either_cases (R v) (any_below (λ y. both (R y) (less y v)) n) e
      (λ a.
      let b : both (ltb v m) (S v) ≡ true = sym (reach_front r v l) ∙ a in
      both_true (ltb v m) (reach adj m o (suc r) v) (both_left (ltb v m) (S v) b) (reach_more adj m o r (suc r) v (omega arith) (both_right (ltb v m) (S v) b)))
      (λ a.
      let s = any_some (λ y. both (R y) (less y v)) n a in
      let y : ℕ = s.0 in
      let ry : both (ltb y m) (S y) ≡ true = sym (reach_front r y s.1) ∙ both_left (R y) (less y v) s.2 in
      let ly : both (both (ltb y m) (ltb v m)) (adj y v) ≡ true = sym (front y v s.1 l) ∙ both_right (R y) (less y v) s.2 in
      let f = both_left (both (ltb y m) (ltb v m)) (adj y v) ly in
      both_true (ltb v m) (reach adj m o (suc r) v) (both_right (ltb y m) (ltb v m) f)
      (reach_step adj m o r y v (ltb-true y m (both_left (ltb y m) (ltb v m) f)) (both_right (ltb y m) (S y) ry) (both_right (both (ltb y m) (ltb v m)) (adj y v) ly))))
      (λ e.
      let lv = both_left (ltb v m) (reach adj m o (suc r) v) e in
      either_cases (S v) (any_below (λ y. both (S y) (adj y v)) m) (both_right (ltb v m) (reach adj m o (suc r) v) e)
      (λ a. reach_more less n o r (suc r) v (omega arith) (reach_front r v l ∙ both_true (ltb v m) (S v) lv a))
      (λ a.
      let s = any_some (λ y. both (S y) (adj y v)) m a in
      let y : ℕ = s.0 in
      let ly = lt-ltb y m s.1 in
      let b : y < n = omega (arith, s.1) in
      reach_step less n o r y v b (reach_front r y b ∙ both_true (ltb y m) (S y) ly (both_left (S y) (adj y v) s.2))
      (front y v b l ∙ both_true (both (ltb y m) (ltb v m)) (adj y v) (both_true (ltb y m) (ltb v m) ly lv) (both_right (S y) (adj y v) s.2))))

  module _ (small : n < none) where
    at_front : (v : ℕ) → v < m → get_or (distances less n none o) v 0 ≡ get_or (distances adj m none o) v 0
    at_front v l = distance_only less n none small o (omega arith) v (get_or (distances adj m none o) v 0) (omega arith) (go (distance_means adj m none (omega arith) o inside v l))
      where
        same : (r : ℕ) → reach less n o r v ≡ reach adj m o r v
        same r = reach_front r v (omega arith) ∙ rw (lt-ltb v m l)

        go : Means adj m none o v (get_or (distances adj m none o) v 0) → Means less n none o v (get_or (distances adj m none o) v 0)
        go (far e f) = far e (λ r. same r ∙ f r)
        go (near e k) = near (omega arith) (record { reached = same (get_or (distances adj m none o) v 0) ∙ k.reached; sooner = λ r b. same r ∙ k.sooner r b })

    behind : (v : ℕ) → m ≤ v → v < n → get_or (distances less n none o) v 0 ≡ none
    behind v l b = distance_only less n none small o (omega arith) v none b (far refl (λ r. reach_front r v b ∙ rw (le-ltb v m l)))

    tail : (v : ℕ) → m ≤ v → v < n → get_or (distances adj m none o ++ replicate (n - m) none) v 0 ≡ none
    tail v l b =
        let w = length-marks adj m none o m in
        let e : v ≡ length (distances adj m none o) + (v - m) = omega arith in
        ap (λ (i : ℕ). get_or (distances adj m none o ++ replicate (n - m) none) i 0) e
        ∙ get_or-append-add (distances adj m none o) (replicate (n - m) none) (v - m) 0
        ∙ get_or-replicate {A = ℕ} (n - m) (v - m) none 0 (omega arith)

    pub distances_front : distances less n none o ≡ distances adj m none o ++ replicate (n - m) none
    distances_front =
        let a = length-marks less n none o n in
        let b = length-marks adj m none o m in
        let c = length-append (distances adj m none o) (replicate (n - m) none) in
        let d = length-replicate {A = ℕ} (n - m) none in
        ext_get_or 0 (distances less n none o) (distances adj m none o ++ replicate (n - m) none) (omega arith)
        (λ v l. cases (ltb v m)
        (λ e. let k = ltb-true v m e in at_front v k ∙ sym (get_or-append (distances adj m none o) (replicate (n - m) none) 0 v (omega arith)))
        (λ e. let k = ltb-false v m e in behind v k (omega arith) ∙ sym (tail v k (omega arith))))
