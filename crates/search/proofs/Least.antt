-- The marks before round r are the least numbers of links up to r: a server is new in a round exactly where that many links reach it first.
use mathlib.Core.Path.{◌≡◌, refl, ◌∙◌, ap, sym}
use mathlib.Core.Bool.{Bool, false}
use mathlib.Core.List.{List}
use Prim.Native.Nat.{ℕ, zero, suc, ◌-◌, ◌≤◌, ◌<◌}
use native.Mathlib.Numerals.{add-one}
use native.Mathlib.Omega.{arith}
use lib.Dec.{eqb, leb, ltb}
use lib.ListN.{get_or, replicate, length-replicate, get_or-replicate}
use lib.Seq.{get_or-set_same, get_or-set_other}
use borrow.Author.Tests.{eq-eqb, ne_eqb, eqb-true, eqb-false, le-leb, lt-leb, ltb-true, ltb-false}
use Rattle.combine.specs.Tests.{both, any_below}
use Rattle.combine.proofs.Tests.{cases, never, any_cong}
use Rattle.search.specs.Rounds.{leads, new, mark, round, start, marks}
use Rattle.search.specs.Reach.{reach, Least, Means, far, near}
use Rattle.search.proofs.Rounds.{mark_new, mark_old, round_at}
use Rattle.search.proofs.Reach.{reach_origin, reach_more, reach_fewer}
use Rattle.search.proofs.Never.{never_reached}

-- what the mark d of v says before round r
pub data SoFar (adj : ℕ → ℕ → Bool) (n none o r v d : ℕ) : Type 0 where
  unreached : d ≡ none → reach adj n o r v ≡ false → SoFar adj n none o r v d
  reached : d ≤ r → Least adj n o v d → SoFar adj n none o r v d

module _ (adj : ℕ → ℕ → Bool) (n none o : ℕ) where
  abbrev Right : ℕ → List ℕ → Type 0
  Right r old = (v : ℕ) → v < n → SoFar adj n none o r v (get_or old v 0)

  -- a mark of at most r is a server that r links reach
  right_reads : (r : ℕ) (old : List ℕ) → r < none → Right r old → (y : ℕ) → y < n → leb (get_or old y 0) r ≡ reach adj n o r y
  right_reads r old h k y l = go (k y l)
    where
      go : SoFar adj n none o r y (get_or old y 0) → leb (get_or old y 0) r ≡ reach adj n o r y
      go (unreached e f) = rw (e, lt-leb none r h) (sym f)
      go (reached s m) = rw (le-leb (get_or old y 0) r s) (sym (reach_more adj n o (get_or old y 0) r y s m.reached))

  right_leads : (r : ℕ) (old : List ℕ) → r < none → Right r old → (v : ℕ)
      → any_below (leads adj r old v) n ≡ any_below (λ (y : ℕ). both (reach adj n o r y) (adj y v)) n
  right_leads r old h k v = any_cong _ _ n (λ y l. ap (λ (b : Bool). both b (adj y v)) (right_reads r old h k y l))

  -- one round more
  right_round : (r : ℕ) (old : List ℕ) → suc r < none → Right r old → Right (suc r) (round adj n none r old)
  unfolding new reach
  right_round r old h k v l = rw (round_at adj n none r old v l) (go (k v l))
    where
      go : SoFar adj n none o r v (get_or old v 0) → SoFar adj n none o (suc r) v (mark adj n none r old v)
      go (reached s m) =
          let q : new adj n none r old v ≡ false = rw (ne_eqb (get_or old v 0) none (λ z. omega arith)) in
          rw (mark_old adj n none r old v q) (reached (omega arith) m)
      go (unreached e f) =
          let q : new adj n none r old v ≡ reach adj n o (suc r) v = rw (eq-eqb (get_or old v 0) none e, f) (right_leads r old (omega arith) k v) in
          cases (reach adj n o (suc r) v)
          (λ w.
          rw (mark_new adj n none r old v (q ∙ w), add-one r)
          (reached (omega arith) (record { reached = w; sooner = λ j i. reach_fewer adj n o j r v (omega arith) f })))
          (λ w. rw (mark_old adj n none r old v (q ∙ w)) (unreached e w))

  right_start : o < n → Right 0 (start n none o)
  unfolding reach
  right_start h v i =
      cases (eqb v o)
      (λ e.
      let q : v ≡ o = eqb-true v o e in
      rw (q, get_or-set_same {A = ℕ} (replicate n none) o 0 0 (omega (arith, length-replicate {A = ℕ} n none)))
      (reached (omega arith) (record { reached = reach_origin adj n o; sooner = λ j p. absurd (omega arith) })))
      (λ e.
      rw (get_or-set_other {A = ℕ} (replicate n none) o v 0 0 (eqb-false v o e), get_or-replicate {A = ℕ} n v none 0 i)
      (unreached refl (not_origin e)))
    where
      not_origin : eqb v o ≡ false → reach adj n o 0 v ≡ false
      not_origin e = e

  -- before every round
  pub marks_right : o < n → (r : ℕ) → r < none → (v : ℕ) → v < n → SoFar adj n none o r v (get_or (marks adj n none o r) v 0)
  unfolding marks
  marks_right h zero s = right_start h
  marks_right h (suc r) s = right_round r (marks adj n none o r) s (marks_right h r (omega arith))

  -- and a round reads who is reached from them
  pub marks_read : o < n → (r : ℕ) → r < none → (y : ℕ) → y < n → leb (get_or (marks adj n none o r) y 0) r ≡ reach adj n o r y
  marks_read h r s y l = right_reads r (marks adj n none o r) s (marks_right h r s) y l

  -- behind all rounds
  pub marks_mean : o < n → (r : ℕ) → r < none → n ≤ suc r → (v : ℕ) → v < n → Means adj n none o v (get_or (marks adj n none o r) v 0)
  marks_mean h r s l v i = go (marks_right h r s v i)
    where
      short : Least adj n o v (get_or (marks adj n none o r) v 0) → get_or (marks adj n none o r) v 0 < n
      short m =
          cases (ltb (get_or (marks adj n none o r) v 0) n)
          (λ q. ltb-true (get_or (marks adj n none o r) v 0) n q)
          (λ q.
          let k : n ≤ get_or (marks adj n none o r) v 0 = ltb-false (get_or (marks adj n none o r) v 0) n q in
          never m.reached (never_reached adj n o h (n - 1) v (omega arith) i (m.sooner (n - 1) (omega arith)) (get_or (marks adj n none o r) v 0)))

      go : SoFar adj n none o r v (get_or (marks adj n none o r) v 0) → Means adj n none o v (get_or (marks adj n none o r) v 0)
      go (unreached e f) = far e (never_reached adj n o h r v l i f)
      go (reached q m) = near (short m) m
