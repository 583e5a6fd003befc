-- A search may stop before the round that would reach v: who is reached then and joined to v is who is one link nearer to the origin.
use mathlib.Core.Path.{◌≡◌, ◌∙◌, ap, sym}
use mathlib.Core.Bool.{Bool, true, false}
use mathlib.Core.List.{List, ◌++◌}
use mathlib.Core.Logic.{⊎_elim}
use Prim.Native.Nat.{ℕ, suc, ◌+◌, ◌≤◌, ◌<◌}
use native.Mathlib.Omega.{arith}
use lib.Dec.{eqb, leb}
use lib.ListN.{get_or}
use borrow.Author.Tests.{eqb-true, eq-eqb, leb-true, leb-false}
use Rattle.combine.specs.Tests.{both, any_below}
use Rattle.combine.proofs.Tests.{cases, never, both_ways, both_left, both_right, both_true, both_false}
use Rattle.search.specs.Rounds.{new, marks, distances}
use Rattle.search.specs.Reach.{reach, Symmetric}
use Rattle.search.proofs.Rounds.{length-marks, tail_any}
use Rattle.search.proofs.Reach.{reach_none, reach_more, reach_step, reach_back, LastLink}
use Rattle.search.proofs.Least.{SoFar, unreached, reached, marks_right, marks_read}
use Rattle.search.proofs.Stops.{idle_ends}
use Rattle.search.proofs.Distance.{distance_least, distance_small, distance_reached, distance_bounded}

module _ (adj : ℕ → ℕ → Bool) (n none : ℕ) (small : n < none) (o : ℕ) (inside : o < n) (v : ℕ) (h : v < n) where
  abbrev Distance : ℕ → ℕ
  Distance z = get_or (distances adj n none o) z 0

  -- the distance of who is reached first by a number of links
  first_reached : (r : ℕ) → reach adj n o r v ≡ false → reach adj n o (suc r) v ≡ true → Distance v ≡ suc r
  first_reached r f e =
      let low : Distance v ≤ suc r = distance_least adj n none small o inside v (suc r) h e in
      let few : Distance v < n = distance_small adj n none small o inside v (suc r) h e in
      let full = distance_reached adj n none small o inside v h (λ (q : Distance v ≡ none). omega arith) in
      cases (leb (Distance v) r)
      (λ q. never (reach_more adj n o (Distance v) r v (leb-true (Distance v) r q) full) f)
      (λ q. let k : r < Distance v = leb-false (Distance v) r q in omega arith)

  -- who is not reached when the search ends never is
  pub unmet_idle : (r : ℕ) (tail held : List ℕ) → held ≡ marks adj n none o r ++ tail → r ≤ n → any_below (new adj n none r held) n ≡ false
      → reach adj n o r v ≡ false → Distance v ≡ none
  unmet_idle r tail held holds l idle f =
      let still : any_below (new adj n none r (marks adj n none o r)) n ≡ false =
      sym (tail_any adj n none (marks adj n none o r) tail (length-marks adj n none o r) r)
      ∙ ap (λ (d : List ℕ). any_below (new adj n none r d) n) (sym holds) ∙ idle in
      ap (λ (d : List ℕ). get_or d v 0) (idle_ends adj n none o inside r n l small still) ∙ go (marks_right adj n none o inside r (omega arith) v h)
    where
      go : SoFar adj n none o r v (get_or (marks adj n none o r) v 0) → get_or (marks adj n none o r) v 0 ≡ none
      go (unreached e w) = e
      go (reached k m) = never (reach_more adj n o (get_or (marks adj n none o r) v 0) r v k m.reached) f

  pub unmet_full : (r : ℕ) → n ≤ r → reach adj n o r v ≡ false → Distance v ≡ none
  unmet_full r l f =
      ⊎_elim
      (λ (q : Distance v ≡ none). q)
      (λ (q : Distance v < n).
      never (reach_more adj n o (Distance v) r v (omega arith) (distance_reached adj n none small o inside v h (λ (k : Distance v ≡ none). omega arith))) f)
      (distance_bounded adj n none small o inside v h)

  module _ (turns : Symmetric adj n) where
    -- neither the origin nor joined to it
    pub unmet_start : (v ≡ o → ⊥) → adj v o ≡ false → reach adj n o 1 v ≡ false
    unmet_start ne f =
        cases (reach adj n o 1 v)
        (λ e.
        ⊎_elim
        (λ q. absurd (ne (reach_none adj n o v q)))
        (λ (k : LastLink adj n o 0 v).
        let q : k.0 ≡ o = reach_none adj n o k.0 k.2 in
        never (turns v o h inside ∙ ap (λ (z : ℕ). adj z v) (sym q) ∙ k.3) f)
        (reach_back adj n o 0 v e))
        (λ e. e)

    -- v is not reached before round r
    module _ (r : ℕ) (below : r < none) (f : reach adj n o r v ≡ false) where
      -- z is reached before round r, and joined to v
      abbrev Meets : ℕ → Bool
      Meets z = both (leb (get_or (marks adj n none o r) z 0) r) (adj v z)

      meets_reached : (z : ℕ) → z < n → Meets z ≡ true → reach adj n o (suc r) v ≡ true
      meets_reached z l e =
          let a = both_left (leb (get_or (marks adj n none o r) z 0) r) (adj v z) e in
          let b = both_right (leb (get_or (marks adj n none o r) z 0) r) (adj v z) e in
          reach_step adj n o r z v l (sym (marks_read adj n none o inside r below z l) ∙ a) (turns z v l h ∙ b)

      -- where nobody does, round r does not reach v
      pub unmet_more : ((z : ℕ) → z < n → Meets z ≡ false) → reach adj n o (suc r) v ≡ false
      unmet_more nobody =
          cases (reach adj n o (suc r) v)
          (λ e.
          ⊎_elim
          (λ q. never q f)
          (λ (k : LastLink adj n o r v).
          never
          (both_true (leb (get_or (marks adj n none o r) k.0 0) r) (adj v k.0) (marks_read adj n none o inside r below k.0 k.1 ∙ k.2) (turns v k.0 h k.1 ∙ k.3))
          (nobody k.0 k.1))
          (reach_back adj n o r v e))
          (λ e. e)

      -- of v's neighbours, those at distance r are those that are reached
      one_less : (z : ℕ) → z < n → adj v z ≡ true → Distance v ≡ suc r → eqb (Distance z + 1) (Distance v) ≡ reach adj n o r z
      one_less z l a d =
          both_ways (eqb (Distance z + 1) (Distance v)) (reach adj n o r z)
          (λ e.
          let q : Distance z + 1 ≡ Distance v = eqb-true (Distance z + 1) (Distance v) e in
          let w : Distance z ≡ r = omega arith in
          ap (λ (k : ℕ). reach adj n o k z) (sym w) ∙ distance_reached adj n none small o inside z l (λ (k : Distance z ≡ none). omega arith))
          (λ e.
          let low : Distance z ≤ r = distance_least adj n none small o inside z r l e in
          let full = distance_reached adj n none small o inside z l (λ (k : Distance z ≡ none). omega arith) in
          cases (leb r (Distance z))
          (λ q. let k : r ≤ Distance z = leb-true r (Distance z) q in eq-eqb (Distance z + 1) (Distance v) (omega arith))
          (λ q.
          let k : Distance z < r = leb-false r (Distance z) q in
          never (reach_more adj n o (suc (Distance z)) r v (omega arith) (reach_step adj n o (Distance z) z v l full (turns z v l h ∙ a))) f))

      -- where somebody does, those who do are those that are one link nearer
      pub meets_nearer : (w : ℕ) → w < n → Meets w ≡ true → (z : ℕ) → z < n → Meets z ≡ both (eqb (Distance z + 1) (Distance v)) (adj v z)
      meets_nearer w k m z l =
          let d = first_reached r f (meets_reached w k m) in
          cases (adj v z)
          (λ e. ap (λ (b : Bool). both b (adj v z)) (marks_read adj n none o inside r below z l ∙ sym (one_less z l e d)))
          (λ e. both_false (leb (get_or (marks adj n none o r) z 0) r) (adj v z) e ∙ sym (both_false (eqb (Distance z + 1) (Distance v)) (adj v z) e))
