-- No prefix comes twice, and as many can be placed as there are DCell1s: the place and the rank of a DCell1 undo each other, over the level.
use mathlib.Core.Path.{◌≡◌, refl, sym, ◌∙◌, ap, ap₂}
use mathlib.Core.List.{List, [], ◌∷◌}
use Prim.Native.Nat.{ℕ, zero, suc, ◌+◌, ◌<◌, ◌≤◌}
use native.Mathlib.Omega.{arith}
use Rattle.hall.specs.Cells.{t}
use Rattle.hall.proofs.Growth.{t_up}
use Rattle.hall.proofs.Racks.{racks_pos}
use Rattle.hall.specs.Halls.{racks}
use Rattle.plan.specs.Plan.{inside, place, IsPrefix, rank}
use Rattle.plan.proofs.Index.{index_fits, inside_fits, before_index, index_before}

module _ (n : ℕ) where
  enough : (m : ℕ) → t n 1 + 1 ≤ t n (suc m) + 1
  enough m = omega (arith, t_up n 1 (suc m) (omega arith))

  -- what is placed is a prefix
  pub place_fits : (m c : ℕ) → c < racks n m → IsPrefix n m (place n m c)
  unfolding place racks
  place_fits zero c h = tt
  place_fits (suc m) c h = (
    index_fits (t n 1 + 1) (racks n m) (racks_pos n m) (t n (suc m) + 1) c (enough m) h,
    place_fits m (inside (t n 1 + 1) (racks n m) c) (inside_fits (t n 1 + 1) (racks n m) (racks_pos n m) c),
  )

  -- its rank is how many were fitted
  pub rank_place : (m c : ℕ) → c < racks n m → rank n m (place n m c) ≡ c
  unfolding place rank racks
  rank_place zero c h = omega arith
  rank_place (suc m) c h =
      rw (rank_place m (inside (t n 1 + 1) (racks n m) c) (inside_fits (t n 1 + 1) (racks n m) (racks_pos n m) c))
      (before_index (t n 1 + 1) (racks n m) (racks_pos n m) c)

  -- each prefix is placed
  pub place_rank : (m : ℕ) (r : List ℕ) → IsPrefix n m r → (rank n m r < racks n m) × (place n m (rank n m r) ≡ r)
  unfolding place rank racks
  place_rank zero [] v = (omega arith, refl)
  place_rank zero (q ∷ r) v = absurd v
  place_rank (suc m) [] v = absurd v
  place_rank (suc m) (q ∷ r) v =
      let ih = place_rank m r v.1 in
      let b = index_before (t n 1 + 1) (racks n m) (racks_pos n m) (t n (suc m) + 1) (enough m) q (rank n m r) v.0 ih.0 in
      (b.0, ap₂ ◌∷◌ b.1 (ap (place n m) b.2 ∙ ih.1))

  -- no prefix comes twice
  pub place_once : (m c d : ℕ) → c < racks n m → d < racks n m → place n m c ≡ place n m d → c ≡ d
  place_once m c d h k e = sym (rank_place m c h) ∙ ap (rank n m) e ∙ rank_place m d k
