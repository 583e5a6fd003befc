-- Laws of the distances of a search, for any adjacency of n servers: each is the least number of links or says that there is none, and the rest follows.
use mathlib.Core.Path.{◌≡◌, refl, ◌∙◌, ap, sym}
use mathlib.Core.Bool.{Bool, true}
use mathlib.Core.List.{List}
use mathlib.Core.Logic.{◌⊎◌, inl, inr, ⊎_elim}
use Prim.Native.Nat.{ℕ, suc, ◌+◌, ◌-◌, ◌≤◌, ◌<◌}
use native.Mathlib.Numerals.{add-one}
use native.Mathlib.Omega.{arith}
use lib.Dec.{eqb, ltb}
use lib.ListN.{length, get_or}
use lib.Seq.{ext_get_or}
use borrow.Author.Tests.{eqb-true, eqb-false, ltb-true, ltb-false}
use Rattle.combine.proofs.Tests.{cases, never}
use Rattle.search.specs.Rounds.{distances}
use Rattle.search.specs.Reach.{reach, Far, Means, far, near, Walk, Symmetric, Agree}
use Rattle.search.proofs.Rounds.{length-marks}
use Rattle.search.proofs.Reach.{reach_origin, reach_none, reach_step, reach_back, LastLink, walk_reach, reach_symmetric, reach_agree}
use Rattle.search.proofs.Least.{marks_mean}

-- two numbers that mean the same are one
pub means_one : (adj : ℕ → ℕ → Bool) (n none o v : ℕ) (other : ℕ → ℕ → Bool) (p w d e : ℕ)
    → ((r : ℕ) → reach adj n o r v ≡ reach other n p r w) → Means adj n none o v d → Means other n none p w e → d ≡ e
means_one adj n none o v other p w d e same (far a f) (far b g) = a ∙ sym b
means_one adj n none o v other p w d e same (far a f) (near b m) = never m.reached (sym (same e) ∙ f e)
means_one adj n none o v other p w d e same (near a m) (far b g) = never m.reached (same d ∙ g d)
means_one adj n none o v other p w d e same (near a m) (near b k) =
    cases (ltb d e)
    (λ h. never (sym (same d) ∙ m.reached) (k.sooner d (ltb-true d e h)))
    (λ h. cases (ltb e d)
    (λ i. never (same e ∙ k.reached) (m.sooner e (ltb-true e d i)))
    (λ i. let a : e ≤ d = ltb-false d e h in let b : d ≤ e = ltb-false e d i in omega arith))

module _ (adj : ℕ → ℕ → Bool) (n none : ℕ) (small : n < none) where
  module _ (o : ℕ) (inside : o < n) where
    -- a distance is the least number of links, or `none` where no number of links will do
    pub distance_means : (v : ℕ) → v < n → Means adj n none o v (get_or (distances adj n none o) v 0)
    distance_means v h = marks_mean adj n none o inside n small (omega arith) v h

    -- and the only number that is
    pub distance_only : (v d : ℕ) → v < n → Means adj n none o v d → get_or (distances adj n none o) v 0 ≡ d
    distance_only v d h m = means_one adj n none o v adj o v (get_or (distances adj n none o) v 0) d (λ r. refl) (distance_means v h) m

    -- what r links reach is at a distance of at most r
    pub distance_least : (v r : ℕ) → v < n → reach adj n o r v ≡ true → get_or (distances adj n none o) v 0 ≤ r
    distance_least v r h e = go (distance_means v h)
      where
        go : Means adj n none o v (get_or (distances adj n none o) v 0) → get_or (distances adj n none o) v 0 ≤ r
        go (far a f) = never e (f r)
        go (near a m) =
            cases (ltb r (get_or (distances adj n none o) v 0))
            (λ q. never e (m.sooner r (ltb-true r (get_or (distances adj n none o) v 0) q)))
            (λ q. ltb-false r (get_or (distances adj n none o) v 0) q)

    -- and is below n
    pub distance_small : (v r : ℕ) → v < n → reach adj n o r v ≡ true → get_or (distances adj n none o) v 0 < n
    distance_small v r h e = go (distance_means v h)
      where
        go : Means adj n none o v (get_or (distances adj n none o) v 0) → get_or (distances adj n none o) v 0 < n
        go (far a f) = never e (f r)
        go (near a m) = a

    -- a distance that is not `none` is a number of links that reaches
    pub distance_reached : (v : ℕ) → v < n → (get_or (distances adj n none o) v 0 ≡ none → ⊥) → reach adj n o (get_or (distances adj n none o) v 0) v ≡ true
    distance_reached v h ne = go (distance_means v h)
      where
        go : Means adj n none o v (get_or (distances adj n none o) v 0) → reach adj n o (get_or (distances adj n none o) v 0) v ≡ true
        go (far a f) = absurd (ne a)
        go (near a m) = m.reached

    -- `none` is said where no number of links will do
    pub distance_never : (v : ℕ) → v < n → get_or (distances adj n none o) v 0 ≡ none → Far adj n o v
    distance_never v h e = go (distance_means v h)
      where
        go : Means adj n none o v (get_or (distances adj n none o) v 0) → Far adj n o v
        go (far a f) = f
        go (near a m) = absurd (omega arith)

    pub distance_none : (v : ℕ) → v < n → Far adj n o v → get_or (distances adj n none o) v 0 ≡ none
    distance_none v h f = distance_only v none h (far refl f)

    -- `none` or below n
    pub distance_bounded : (v : ℕ) → v < n → (get_or (distances adj n none o) v 0 ≡ none) ⊎ (get_or (distances adj n none o) v 0 < n)
    distance_bounded v h = go (distance_means v h)
      where
        go : Means adj n none o v (get_or (distances adj n none o) v 0) → (get_or (distances adj n none o) v 0 ≡ none) ⊎ (get_or (distances adj n none o) v 0 < n)
        go (far a f) = inl a
        go (near a m) = inr a

    -- 0 exactly at the origin
    pub distance_self : get_or (distances adj n none o) o 0 ≡ 0
    distance_self = let h = distance_least o 0 inside (reach_origin adj n o) in omega arith

    pub distance_zero : (v : ℕ) → v < n → get_or (distances adj n none o) v 0 ≡ 0 → v ≡ o
    distance_zero v h e =
        reach_none adj n o v
        (ap (λ (d : ℕ). reach adj n o d v) (sym e) ∙ distance_reached v h (λ (q : get_or (distances adj n none o) v 0 ≡ none). omega arith))

    -- a walk is no shorter than the distance
    pub distance_walk : {r : List ℕ} (v : ℕ) → v < n → Walk adj n o v r → get_or (distances adj n none o) v 0 ≤ length r - 1
    distance_walk {r} v h w = distance_least v (length r - 1) h (walk_reach adj n w)

    -- over a link it is at most one more
    pub distance_link : (y v : ℕ) → y < n → v < n → adj y v ≡ true → (get_or (distances adj n none o) y 0 ≡ none → ⊥)
        → get_or (distances adj n none o) v 0 ≤ get_or (distances adj n none o) y 0 + 1
    distance_link y v h i a ne =
        rw (add-one (get_or (distances adj n none o) y 0))
        (distance_least v (suc (get_or (distances adj n none o) y 0)) i (reach_step adj n o (get_or (distances adj n none o) y 0) y v h (distance_reached y h ne) a))

    -- and is there where it is there at the link's other end
    pub distance_there : (y v : ℕ) → y < n → v < n → adj y v ≡ true → (get_or (distances adj n none o) y 0 ≡ none → ⊥)
        → get_or (distances adj n none o) v 0 ≡ none → ⊥
    distance_there y v h i a ne e =
        let k = reach_step adj n o (get_or (distances adj n none o) y 0) y v h (distance_reached y h ne) a in
        let f = distance_never v i e (suc (get_or (distances adj n none o) y 0)) in
        never k f

    -- a server at a distance d + 1 has a neighbour at the distance d
    abbrev pub Nearer : ℕ → ℕ → Type 0
    Nearer v d = (y : ℕ) × (y < n) × (get_or (distances adj n none o) y 0 ≡ d) × (adj y v ≡ true)

    pub distance_nearer : (v d : ℕ) → v < n → (get_or (distances adj n none o) v 0 ≡ none → ⊥) → get_or (distances adj n none o) v 0 ≡ suc d → Nearer v d
    distance_nearer v d h ne e =
        let full : reach adj n o (suc d) v ≡ true = ap (λ (k : ℕ). reach adj n o k v) (sym e) ∙ distance_reached v h ne in
        ⊎_elim
        (λ q. let k : get_or (distances adj n none o) v 0 ≤ d = distance_least v d h q in absurd (omega arith))
        (λ (k : LastLink adj n o d v).
        let low : get_or (distances adj n none o) k.0 0 ≤ d = distance_least k.0 d k.1 k.2 in
        let high : suc d ≤ get_or (distances adj n none o) k.0 0 + 1 =
        rw e at (distance_link k.0 v k.1 h k.3 (λ (q : get_or (distances adj n none o) k.0 0 ≡ none). omega (arith, distance_small v (suc d) h full))) in
        let same : get_or (distances adj n none o) k.0 0 ≡ d = omega arith in
        (k.0, k.1, same, k.3))
        (reach_back adj n o d v full)

  -- the same both ways, where each link is
  module _ (turns : Symmetric adj n) where
    pub distance_symmetric : (o v : ℕ) → o < n → v < n → get_or (distances adj n none o) v 0 ≡ get_or (distances adj n none v) o 0
    distance_symmetric o v h i =
        means_one adj n none o v adj v o (get_or (distances adj n none o) v 0) (get_or (distances adj n none v) o 0)
        (λ r. reach_symmetric adj n turns o r v h i) (distance_means o h v i) (distance_means v i o h)

    -- the distances of two neighbours differ by at most one, and both are there or neither is
    pub distance_neighbours : (o y v : ℕ) → o < n → y < n → v < n → adj y v ≡ true
        → ((get_or (distances adj n none o) y 0 ≡ none) × (get_or (distances adj n none o) v 0 ≡ none))
        ⊎ ((get_or (distances adj n none o) y 0 ≤ get_or (distances adj n none o) v 0 + 1) × (get_or (distances adj n none o) v 0 ≤ get_or (distances adj n none o) y 0 + 1))
    distance_neighbours o y v h i l a =
        let b : adj v y ≡ true = turns v y l i ∙ a in
        cases (eqb (get_or (distances adj n none o) y 0) none)
        (λ q.
        let e = eqb-true (get_or (distances adj n none o) y 0) none q in
        inl (
          e,
          cases (eqb (get_or (distances adj n none o) v 0) none)
              (λ w. eqb-true (get_or (distances adj n none o) v 0) none w)
              (λ w. absurd (distance_there o h v y l i b (eqb-false (get_or (distances adj n none o) v 0) none w) e)),
        ))
        (λ q.
        let ne = eqb-false (get_or (distances adj n none o) y 0) none q in
        inr (distance_link o h v y l i b (distance_there o h y v i l a ne), distance_link o h y v i l a ne))

-- two adjacencies that agree give the same distances
pub distances_agree : (a b : ℕ → ℕ → Bool) (n none o : ℕ) → n < none → o < n → Agree a b n → distances a n none o ≡ distances b n none o
distances_agree a b n none o small h e =
    ext_get_or 0 (distances a n none o) (distances b n none o) (length-marks a n none o n ∙ sym (length-marks b n none o n))
    (λ v i.
    let k : v < n = omega (arith, length-marks a n none o n) in
    means_one a n none o v b o v (get_or (distances a n none o) v 0) (get_or (distances b n none o) v 0)
    (λ r. reach_agree a b n o r v e k) (distance_means a n none small o h v k) (distance_means b n none small o h v k))
