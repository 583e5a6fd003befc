-- Local distances that are the least give what delivery asks, and so does the route itself: a walk by links of level at most b stays in
-- its DCell of level b, and the route is one of fewer than 2 ^ suc b links.
use mathlib.Core.Path.{◌≡◌, refl}
use mathlib.Core.Bool.{true}
use mathlib.Core.List.{List, [], ◌∷◌}
use Prim.Native.Nat.{ℕ, suc, ◌+◌, ◌-◌, ◌<◌}
use native.Mathlib.Omega.{arith}
use lib.Pow.{pow_pos}
use lib.ListN.{length}
use Rattle.hall.specs.Cells.{same, Joined, switch, link}
use Rattle.hall.proofs.Cells.{same_refl, same_trans, same_mono, neighbour_stays}
use Rattle.route.specs.Routes.{route}
use Rattle.route.specs.Walks.{Walk, done, step}
use Rattle.route.specs.Delivery.{Local, Least, Toward, second}
use Rattle.route.proofs.Lists.{walk_second}
use Rattle.route.proofs.Routes.{route_walk, route_length}
use Rattle.route.proofs.Recursion.{route_self}
use Rattle.route.proofs.Rest.{rest, on_route}

module _ (n : ℕ) where
  module _ (pos : 0 < n) where
    -- a link of level at most l, and a walk, stay in a DCell of level l
    pub joined_same : {l u v : ℕ} → Joined n l u v → same n l u v ≡ true
    joined_same {l} {u} {v} (switch e d) = same_mono n u v (omega arith) e
    joined_same {l} {u} {v} (link j h e) = same_mono n u v h (rw e at (neighbour_stays n pos j u))

    pub walk_same : {l x y : ℕ} {r : List ℕ} → Walk n l x y r → same n l x y ≡ true
    walk_same {l} {x} done = same_refl n l x
    walk_same {l} {x} {y} (step {z = z} e w) = same_trans n l x z y (joined_same e) (walk_same w)

    pub local_of_least : (b : ℕ) (next d : ℕ → ℕ → ℕ) → Least n b d → Toward n b next d → Local n b next d
    local_of_least b next d D N = record {
      self = λ x. omega (arith, D.least x x (x ∷ []) done);
      stays = λ x y s ne. joined_same (N.crosses x y s ne);
      nearer = N.gains;
      short = λ x y s. omega (arith, D.least x y (route n b x y) (route_walk n b x y s), route_length n b x y s);
    }

    -- a next hop is there
    pub some_nearer : (b : ℕ) (d : ℕ → ℕ → ℕ) → Least n b d → (x y : ℕ) → same n b x y ≡ true → (x ≡ y → ⊥)
        → (z : ℕ) × Joined n b x z × (d z y + 1 ≡ d x y)
    some_nearer b d D x y s ne = let w = D.reached x y s in first w.1 w.2 ne
      where
        first : {x y : ℕ} {r : List ℕ} → Walk n b x y r → length r ≡ d x y + 1 → (x ≡ y → ⊥) → (z : ℕ) × Joined n b x z × (d z y + 1 ≡ d x y)
        first done q ne = absurd (ne refl)
        first {x} {y} (step {z = z} {r = r} e w) q ne =
            let k = D.least z y r w in
            let m = D.reached z y (walk_same w) in
            let g = D.least x y (x ∷ m.0) (step e m.1) in
            (z, e, omega (arith, m.2))

  -- the route itself is such a local way: its second server, and its number of links
  pub route_local : (b : ℕ) → Local n b (λ x y. second (route n b x y) y) (λ x y. length (route n b x y) - 1)
  unfolding second
  route_local b = record {
    self = λ x. rw (route_self n b x);
    stays = λ x y s ne. let k = walk_second n (route_walk n b x y s) ne in
        rw k.2 (on_route n b x y s (x ∷ []) k.0 k.1 k.2);
    nearer = λ x y s ne. let k = walk_second n (route_walk n b x y s) ne in
        rw (k.2, rest n b x y s (x ∷ []) k.0 k.1 k.2) (omega arith);
    short = λ x y s. omega (arith, route_length n b x y s, pow_pos (suc b));
  }
