-- Laws of what so many links reach: more links reach no less, two walks join to one, and a walk can be turned round where each link can.
use mathlib.Core.Path.{◌≡◌, refl, ◌∙◌, sym}
use mathlib.Core.Bool.{Bool, true, false}
use mathlib.Core.List.{List}
use mathlib.Core.Logic.{◌⊎◌, inl, inr, ⊎_elim}
use Prim.Native.Nat.{ℕ, zero, suc, ◌+◌, ◌-◌, ◌≤◌, ◌<◌}
use native.Mathlib.Nat.{eq-or-lt_of_le, add-zero, add-suc}
use native.Mathlib.Omega.{arith}
use lib.ListN.{length}
use borrow.Author.Tests.{eq-eqb, eqb-true}
use Rattle.combine.specs.Tests.{both, any_below}
use Rattle.combine.proofs.Tests.{cases, never, both_left, both_right, both_true, both_ways, either_true, either_cases, any_in, any_some, any_cong}
use Rattle.search.specs.Reach.{reach, Walk, done, step, Symmetric, Agree}

module _ (adj : ℕ → ℕ → Bool) (n : ℕ) where
  pub reach_origin : (o : ℕ) → reach adj n o 0 o ≡ true
  unfolding reach
  reach_origin o = eq-eqb o o refl

  pub reach_none : (o v : ℕ) → reach adj n o 0 v ≡ true → v ≡ o
  unfolding reach
  reach_none o v e = eqb-true v o e

  -- in r links, so in more
  pub reach_more : (o r s v : ℕ) → r ≤ s → reach adj n o r v ≡ true → reach adj n o s v ≡ true
  unfolding reach
  reach_more o r zero v h e = let z : r ≡ 0 = omega arith in rw z at e
  reach_more o r (suc s) v h e = ⊎_elim (λ q. rw q at e) (λ l. rw (reach_more o r s v (omega arith) e)) (eq-or-lt_of_le h)

  -- not in s links, so not in fewer
  pub reach_fewer : (o r s v : ℕ) → r ≤ s → reach adj n o s v ≡ false → reach adj n o r v ≡ false
  reach_fewer o r s v h e = cases (reach adj n o r v) (λ q. never (reach_more o r s v h q) e) (λ q. q)

  -- one link more
  pub reach_step : (o r y v : ℕ) → y < n → reach adj n o r y ≡ true → adj y v ≡ true → reach adj n o (suc r) v ≡ true
  unfolding reach
  reach_step o r y v h e a =
      rw (any_in (λ (z : ℕ). both (reach adj n o r z) (adj z v)) n y h (both_true (reach adj n o r y) (adj y v) e a))
      (either_true (reach adj n o r v))

  -- a server that r links reach, and a link from there to v
  abbrev pub LastLink : ℕ → ℕ → ℕ → Type 0
  LastLink o r v = (y : ℕ) × (y < n) × (reach adj n o r y ≡ true) × (adj y v ≡ true)

  pub reach_back : (o r v : ℕ) → reach adj n o (suc r) v ≡ true → (reach adj n o r v ≡ true) ⊎ LastLink o r v
  unfolding reach
  reach_back o r v e =
      either_cases (reach adj n o r v) (any_below (λ (y : ℕ). both (reach adj n o r y) (adj y v)) n) e
      (λ q. inl q)
      (λ q.
      let k = any_some (λ (y : ℕ). both (reach adj n o r y) (adj y v)) n q in
      inr (k.0, k.1, both_left (reach adj n o r k.0) (adj k.0 v) k.2, both_right (reach adj n o r k.0) (adj k.0 v) k.2))

  -- from o to y, and from there to v
  pub reach_join : (o r y s v : ℕ) → reach adj n o r y ≡ true → reach adj n y s v ≡ true → reach adj n o (r + s) v ≡ true
  reach_join o r y zero v e f = let q : v ≡ y = reach_none y v f in rw (q, add-zero) e
  reach_join o r y (suc s) v e f =
      rw add-suc
      (⊎_elim
      (λ q. reach_more o (r + s) (suc (r + s)) v (omega arith) (reach_join o r y s v e q))
      (λ (k : LastLink y s v). reach_step o (r + s) k.0 v k.1 (reach_join o r y s k.0 e k.2) k.3)
      (reach_back y s v f))

  pub reach_link : (o v : ℕ) → o < n → adj o v ≡ true → reach adj n o 1 v ≡ true
  reach_link o v h a = reach_step o 0 o v h (reach_origin o) a

  -- a walk reaches its end in as many links as it has
  pub walk_long : {x y : ℕ} {r : List ℕ} → Walk adj n x y r → 0 < length r
  walk_long done = omega arith
  walk_long (step h a w) = omega arith

  pub walk_reach : {x y : ℕ} {r : List ℕ} → Walk adj n x y r → reach adj n x (length r - 1) y ≡ true
  walk_reach {x} done = reach_origin x
  walk_reach {x} {y} (step {z = z} {r = r} h a w) =
      let e : suc (length r) - 1 ≡ 1 + (length r - 1) = omega (arith, walk_long w) in
      rw e (reach_join x 1 z (length r - 1) y (reach_link x z h a) (walk_reach w))

  -- turned round
  module _ (turns : Symmetric adj n) where
    pub reach_back_again : (o r v : ℕ) → o < n → v < n → reach adj n o r v ≡ true → reach adj n v r o ≡ true
    reach_back_again o zero v h i e = let q : v ≡ o = reach_none o v e in rw q (reach_origin o)
    reach_back_again o (suc r) v h i e =
        ⊎_elim
        (λ q. reach_more v r (suc r) o (omega arith) (reach_back_again o r v h i q))
        (λ (k : LastLink o r v).
        let w : 1 + r ≡ suc r = omega arith in
        rw (sym w) (reach_join v 1 k.0 r o (reach_link v k.0 i (turns v k.0 i k.1 ∙ k.3)) (reach_back_again o r k.0 h k.1 k.2)))
        (reach_back o r v e)

    pub reach_symmetric : (o r v : ℕ) → o < n → v < n → reach adj n o r v ≡ reach adj n v r o
    reach_symmetric o r v h i = both_ways _ _ (reach_back_again o r v h i) (reach_back_again v r o i h)

-- two adjacencies that agree reach the same
pub reach_agree : (a b : ℕ → ℕ → Bool) (n o r v : ℕ) → Agree a b n → v < n → reach a n o r v ≡ reach b n o r v
unfolding reach
reach_agree a b n o zero v e h = refl
reach_agree a b n o (suc r) v e h =
    rw (
      reach_agree a b n o r v e h,
      any_cong (λ (y : ℕ). both (reach a n o r y) (a y v)) (λ (y : ℕ). both (reach b n o r y) (b y v)) n
          (λ y i. rw (reach_agree a b n o r y e i, e y v i h)),
    )
