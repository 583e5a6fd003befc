-- How many links of each level a route has: a join adds one link of its own level, so the lower ones double at most.
use mathlib.Core.Path.{◌≡◌}
use mathlib.Core.Bool.{true, false}
use mathlib.Core.List.{List, [], ◌∷◌}
use Prim.Native.Nat.{ℕ, zero, suc, ◌-◌, ◌*◌, ◌^◌, ◌≤◌}
use native.Mathlib.Omega.{arith}
use lib.Dec.{leb}
use lib.Pow.{pow_pos}
use lib.ListN.{length, length-append}
use borrow.Author.Tests.{leb-true, leb-false}
use Rattle.hall.specs.Cells.{same, near, far}
use Rattle.route.specs.Routes.{route, links, hops, of_level, select}
use Rattle.route.specs.Walks.{Each}
use Rattle.combine.proofs.Tests.{cases}
use Rattle.hall.proofs.Cells.{Crossing, apart_mono}
use Rattle.route.proofs.Lists.{each_map, select_append, select_keep, select_drop, select_none, select_length}
use Rattle.route.proofs.Routes.{Within, links_ind, links_hops}

-- 2 ^ (l - i), a level up
pub pow_up : (i j : ℕ) → i ≤ j → 2 ^ (suc j - i) ≡ 2 * 2 ^ (j - i)
pow_up i j h = let q : suc j - i ≡ suc (j - i) = omega arith in rw q (omega arith)

module _ (n : ℕ) where
  -- a link inside a DCell of level j is not of level suc j; one that leaves it is of no level up to j
  pub not_above : (j u v : ℕ) → same n j u v ≡ true → of_level n (suc j) u v ≡ false
  unfolding of_level
  not_above j u v e = rw e

  pub not_below : (i j u v : ℕ) → i ≤ j → same n j u v ≡ false → of_level n i u v ≡ false
  unfolding of_level
  not_below zero j u v h e = apart_mono n u v h e
  not_below (suc i) j u v h e = rw (apart_mono n {i = i} {j = j} u v (omega arith) e, apart_mono n u v h e)

  pub level_of_link : (j x y : ℕ) → Crossing n j x y → of_level n (suc j) (near n j x y) (far n j x y) ≡ true
  unfolding of_level
  level_of_link j x y c = rw (c.link_apart, c.link_up)

  none_above : (j : ℕ) (e : List (ℕ × ℕ)) → Each (Within n j) e → select (of_level n (suc j)) e ≡ []
  none_above j e v = select_none (of_level n (suc j)) e (each_map (Within n j) (λ k. of_level n (suc j) k.0 k.1 ≡ false) e (λ k. not_above j k.0 k.1) v)

  -- i is suc j or lower
  top : {ℓ : Type 0} (i j : ℕ) → i ≤ suc j → (i ≤ j → ℓ) → (i ≡ suc j → ℓ) → ℓ
  top i j h f g = cases (leb i j) (λ q. f (leb-true i j q)) (λ q. let k = leb-false i j q in g (omega arith))

  pub links_of_level : (l x y : ℕ) → same n l x y ≡ true → (i : ℕ) → i ≤ l → length (select (of_level n i) (links n l x y)) ≤ 2 ^ (l - i)
  links_of_level = links_ind n (λ l x y e. (i : ℕ) → i ≤ l → length (select (of_level n i) e) ≤ 2 ^ (l - i))
      (λ x i h. omega (arith, select_length (of_level n i) []))
      (λ x y e d i h. omega (arith, select_length (of_level n i) ((x, y) ∷ []), pow_pos (0 - i)))
      (λ j x y e s v ih i h. top i j h
      (λ g. omega (arith, ih i g, pow_up i j g))
      (λ z. rw (z, none_above j e v) (omega arith)))
      (λ j x y e f c v w ih ih' i h.
      let m : ℕ × ℕ = (near n j x y, far n j x y) in
      top i j h
      (λ g. rw (select_append, select_drop (of_level n i) m f (not_below i j m.0 m.1 g c.link_apart), length-append)
      (omega (arith, ih i g, ih' i g, pow_up i j g)))
      (λ z. rw (z, select_append, select_keep (of_level n (suc j)) m f (level_of_link j x y c), none_above j e v, none_above j f w)
      (omega (arith, pow_pos (suc j - suc j)))))

  pub route_of_level : (l x y : ℕ) → same n l x y ≡ true → (i : ℕ) → i ≤ l → length (select (of_level n i) (hops (route n l x y))) ≤ 2 ^ (l - i)
  route_of_level l x y s i h = rw (← links_hops n l x y s) (links_of_level l x y s i h)
