-- The planner in the request's words: levels 2 and 3.
use mathlib.Core.Path.{◌≡◌, refl, ◌∙◌, ap}
use mathlib.Core.List.{List, [], ◌∷◌}
use Prim.Native.Nat.{ℕ, ◌+◌, ◌-◌, ◌*◌, ◌/◌, ◌%◌, ◌<◌, ◌≤◌}
use native.Mathlib.Omega.{arith}
use Rattle.hall.specs.Cells.{t}
use Rattle.hall.specs.Halls.{racks}
use Rattle.plan.specs.Plan.{index, inside, place}
use Rattle.plan.proofs.Index.{low, mid, high}
use Rattle.plan.proofs.Adding.{index_two}

module _ (n : ℕ) where
  racks_one : racks n 1 ≡ t n 1 + 1
  unfolding racks
  racks_one = omega arith

  -- in a DCell2 the next free index is used
  pub place_two : (c : ℕ) → place n 1 c ≡ c ∷ []
  unfolding place racks
  place_two c = ap (λ (q : ℕ). q ∷ []) (index_two n (t n 1 + 1) c)

  by_index : (c q i : ℕ) → index (t n 1 + 1) (t n 1 + 1) c ≡ q → inside (t n 1 + 1) (t n 1 + 1) c ≡ i → place n 2 c ≡ q ∷ i ∷ []
  by_index c q i e f =
      let w : place n 2 c ≡ index (t n 1 + 1) (racks n 1) c ∷ place n 1 (inside (t n 1 + 1) (racks n 1) c) = unfold place in refl in
      w ∙ rw (racks_one, e, f) (ap (λ (r : List ℕ). q ∷ r) (place_two i))

  -- at level 3, new DCell2s come until there are t 1 + 1 of them; then the first that isn't full is filled; a new one starts when all are
  pub place_three_new : (c : ℕ) → c < t n 1 + 1 → place n 2 c ≡ c ∷ 0 ∷ []
  place_three_new c h = let k = low (t n 1 + 1) (t n 1 + 1) (omega arith) c h in by_index c c 0 k.0 k.1

  pub place_three_fill : (c : ℕ) → t n 1 + 1 ≤ c → c < (t n 1 + 1) * (t n 1 + 1)
      → place n 2 c ≡ (c - (t n 1 + 1)) / t n 1 ∷ ((c - (t n 1 + 1)) % t n 1 + 1) ∷ []
  place_three_fill c h l =
      let k = mid (t n 1 + 1) (t n 1 + 1) (omega arith) c h l in
      let e : t n 1 + 1 - 1 ≡ t n 1 = omega arith in
      by_index c ((c - (t n 1 + 1)) / t n 1) ((c - (t n 1 + 1)) % t n 1 + 1) (rw e at k.0) (rw e at k.1)

  pub place_three_more : (c : ℕ) → (t n 1 + 1) * (t n 1 + 1) ≤ c → place n 2 c ≡ c / (t n 1 + 1) ∷ c % (t n 1 + 1) ∷ []
  place_three_more c h = let k = high (t n 1 + 1) (t n 1 + 1) (omega arith) c h in by_index c (c / (t n 1 + 1)) (c % (t n 1 + 1)) k.0 k.1
