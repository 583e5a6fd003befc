-- What the two tests of a route say: that a link stands on it, and that its first link is that of the first server's port.
use mathlib.Core.Path.{◌≡◌, refl, sym, ◌∙◌, ap}
use mathlib.Core.Logic.{◌↔◌}
use mathlib.Core.Bool.{Bool, true, false, not, true≢false}
use mathlib.Core.List.{List, [], ◌∷◌}
use Prim.Native.Nat.{ℕ, suc, ◌<◌}
use lib.Dec.{eqb}
use borrow.Author.Tests.{eqb-true, eqb-false}
use Rattle.combine.proofs.Tests.{cases, never, both_right, either_cases, either_true}
use Rattle.hall.specs.Cells.{t, same, neighbour, lowest}
use Rattle.hall.proofs.Cells.{neighbour_stays, neighbour_leaves}
use Rattle.hall.proofs.Links.{hall_same}
use Rattle.route.specs.Routes.{route, hops, level_of, of_level}
use Rattle.route.specs.Walks.{LinkOf, Each}
use Rattle.route.proofs.Lowest.{lowest_only}
use Rattle.route.proofs.Routes.{links_hops}
use Rattle.route.proofs.Recursion.{route_self, route_joined}
use Rattle.load.specs.Counts.{has, starts, Stands}
use Rattle.load.proofs.Ports.{links_first}
use Rattle.load.proofs.Links.{has_append}

-- a list of links has one that passes exactly where one that passes stands in it
module _ (p : ℕ → ℕ → Bool) where
  some_stands : (r : List (ℕ × ℕ)) → has p r ≡ true → Stands p r
  unfolding has
  some_stands [] h = absurd (true≢false (sym h))
  some_stands (e ∷ r) h = either_cases (p e.0 e.1) (has p r) h
      (λ q. (e, [], r, refl, q))
      (λ q. let k = some_stands r q in (k.0, e ∷ k.1, k.2, ap (λ (s : List (ℕ × ℕ)). e ∷ s) k.3, k.4))

  pub has_means : (r : List (ℕ × ℕ)) → (has p r ≡ true) ↔ Stands p r
  unfolding has
  has_means r = (
    some_stands r,
    (λ k. ap (has p) k.3 ∙ has_append p k.1 (k.0 ∷ k.2) ∙ rw k.4 (either_true (has p k.1))),
  )

module _ (n : ℕ) (pos : 0 < n) where
  -- the first link of a route that has one
  first_link_lem : (p : ℕ → ℕ → Bool) (k x y : ℕ) → same n k x y ≡ true → starts p (hops (route n k x y)) ≡ true
      → (z : ℕ) × (s : List (ℕ × ℕ)) × (hops (route n k x y) ≡ (x, z) ∷ s) × (p x z ≡ true) × LinkOf n (lowest n k x z) x z
  unfolding starts hops
  first_link_lem p k x y s h = cases (eqb x y)
      (λ q. let e : starts p (hops (route n k x y)) ≡ false = rw (← eqb-true x y q, route_self n k x) in never h e)
      (λ q. let w = links_first n k x y s (eqb-false x y q) in
      let e : hops (route n k x y) ≡ (x, w.0) ∷ w.1 = sym (links_hops n k x y s) ∙ w.2 in
      let j : Each (λ m. LinkOf n (level_of n k m) m.0 m.1) ((x, w.0) ∷ w.1) = rw e at (route_joined n k x y s) in
      (w.0, w.1, e, sym (ap (starts p) e) ∙ h, j.0))

  -- a link of level suc a joins x to its neighbour of that level
  level_port : (k a x z : ℕ) → a < k → LinkOf n (lowest n k x z) x z → of_level n (suc a) x z ≡ true → neighbour n a x ≡ z
  unfolding of_level
  level_port k a x z l e h = cases (same n a x z)
      (λ s. never h (rw s))
      (λ s. let up : same n (suc a) x z ≡ true = both_right (not (same n a x z)) (same n (suc a) x z) h in
      rw (lowest_only n k x z a l s up) at e)

  -- a route begins at level suc a exactly where its first link is that to the neighbour of x there
  pub starts_port : (k a x y : ℕ) → a < k → x < t n k → y < t n k
      → (starts (of_level n (suc a)) (hops (route n k x y)) ≡ true) ↔ ((s : List (ℕ × ℕ)) × (hops (route n k x y) ≡ (x, neighbour n a x) ∷ s))
  starts_port k a x y l hx hy = (
    (λ h. let w = first_link_lem (of_level n (suc a)) k x y (hall_same n pos k x y hx hy) h in
        (w.1, rw (level_port k a x w.0 l w.4 w.3) w.2)),
    (λ e. unfold starts of_level in (rw (e.1, neighbour_leaves n pos a x, neighbour_stays n pos a x))),
  )

  -- and at level 0 where it is one to another server on the switch of x
  pub starts_switch : (k x y : ℕ) → x < t n k → y < t n k
      → (starts (of_level n 0) (hops (route n k x y)) ≡ true) ↔ ((z : ℕ) × (s : List (ℕ × ℕ)) × (hops (route n k x y) ≡ (x, z) ∷ s) × (same n 0 x z ≡ true))
  unfolding starts of_level
  starts_switch k x y hx hy = (
    (λ h. let w = first_link_lem (of_level n 0) k x y (hall_same n pos k x y hx hy) h in (w.0, w.1, w.2, w.3)),
    (λ e. rw e.2 e.3),
  )
