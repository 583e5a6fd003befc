-- The first link of a route above level b is the head of the links above b, since a link's level is above b exactly where it leaves
-- its DCell of level b; and it is found from the top level down, since the links of the first part of a join come first.
use mathlib.Core.Path.{◌≡◌, refl, sym, ◌∙◌, ap, ap₂}
use mathlib.Core.Bool.{Bool, true, false, not}
use mathlib.Core.List.{List, [], ◌∷◌, ◌++◌}
use Prim.Native.Nat.{ℕ, zero, suc, ◌<◌, ◌≤◌}
use native.Mathlib.Omega.{arith}
use lib.Dec.{ltb}
use borrow.Author.Tests.{ltb-true}
use Rattle.std.specs.Prelude.{Option, None}
use Rattle.combine.proofs.Tests.{cases}
use Rattle.hall.specs.Cells.{same, near, far, neighbour, lowest}
use Rattle.hall.proofs.Cells.{crossing}
use Rattle.route.specs.declared.Crossing.{Crossing}
use Rattle.route.specs.Routes.{route, links, hops, level_of, select, above}
use Rattle.route.specs.Answers.{link_of, first_among, first_above}
use Rattle.route.specs.Walks.{Each, LinkOf}
use Rattle.route.proofs.Lists.{each_map, each_select, select_cong}
use Rattle.route.proofs.Lowest.{lowest_fits, lowest_only, lowest_above}
use Rattle.route.proofs.Routes.{Within, links_stay, links_hops}
use Rattle.route.proofs.Recursion.{route_joined}
use Rattle.route.proofs.Above.{above_low, above_same, above_apart, above_hops}

-- a link has one near end, one far end and one level
pub link_parts : {u v i near far level : ℕ} → link_of u v i ≡ link_of near far level → (u ≡ near) × (v ≡ far) × (i ≡ level)
link_parts {u} {v} {i} {near} {far} {level} e =
    let r : ◌≡◌ {A = Crossing} (record { near = u; far = v; level = i }) (record { near = near; far = far; level = level }) = cc in
    (ap (λ (c : Crossing). c.near) r, ap (λ (c : Crossing). c.far) r, ap (λ (c : Crossing). c.level) r)

-- the first of some links with its level, or what is said where there is none
unfoldable pub head_or : ℕ → ℕ → List (ℕ × ℕ) → Option Crossing → Option Crossing
head_or n l [] f = f
head_or n l (e ∷ r) f = link_of e.0 e.1 (level_of n l e)

pub head_join : (n l : ℕ) (r : List (ℕ × ℕ)) (e : ℕ × ℕ) (s : List (ℕ × ℕ)) (f : Option Crossing)
    → head_or n l (r ++ (e ∷ s)) f ≡ head_or n l r (link_of e.0 e.1 (level_of n l e))
unfolding head_or
head_join n l [] e s f = refl
head_join n l (d ∷ r) e s f = refl

module _ (n b l : ℕ) where
  -- the level of the link is above b
  over : ℕ → ℕ → Bool
  over u v = ltb b (lowest n l u v)

  over_head : (r : List (ℕ × ℕ)) → first_among n b l r ≡ head_or n l (select over r) None
  unfolding first_among head_or select over
  over_head [] = refl
  over_head (e ∷ r) = cases (over e.0 e.1)
      (λ h. rw (h, first_among, select))
      (λ h. rw (h, first_among, select) (over_head r))

  -- the links above b are those of the route whose level is above b
  pub above_levels : (x y : ℕ) → same n l x y ≡ true → above n b l x y ≡ select (λ u v. ltb b (lowest n l u v)) (hops (route n l x y))
  above_levels x y s =
      above_hops n b l x y s
      ∙ select_cong (λ u v. not (same n b u v)) (λ u v. ltb b (lowest n l u v)) (hops (route n l x y))
      (rw (← links_hops n l x y s)
      (each_map (Within n l) (λ e. not (same n b e.0 e.1) ≡ ltb b (lowest n l e.0 e.1)) (links n l x y)
      (λ e k. sym (lowest_above n l e.0 e.1 b k)) (links_stay n l x y s)))

  pub first_head : (x y : ℕ) → same n l x y ≡ true → first_above n b l x y ≡ head_or n l (above n b l x y) None
  unfolding first_above over
  first_head x y s = over_head (hops (route n l x y)) ∙ ap (λ (r : List (ℕ × ℕ)). head_or n l r None) (sym (above_levels x y s))

  -- each of them is of a level above b and at most l, and joins a server to its neighbour of that level
  pub record Rises (e : ℕ × ℕ) : Type 0 where
    pub j : ℕ
    pub low : b ≤ j
    pub high : j < l
    pub level : lowest n l e.0 e.1 ≡ suc j
    pub joined : neighbour n j e.0 ≡ e.1

  rises : (e : ℕ × ℕ) (i : ℕ) → lowest n l e.0 e.1 ≡ i → LinkOf n i e.0 e.1 → b < i → Rises e
  rises e zero q k h = absurd (omega arith)
  rises e (suc j) q k h = record { j = j; low = omega arith; high = omega (arith, lowest_fits n l e.0 e.1); level = q; joined = k }

  pub above_rises : (x y : ℕ) → same n l x y ≡ true → Each Rises (above n b l x y)
  above_rises x y s =
      rw (above_levels x y s)
      (each_map (λ e. LinkOf n (level_of n l e) e.0 e.1 × (ltb b (level_of n l e) ≡ true)) Rises (select (λ u v. ltb b (lowest n l u v)) (hops (route n l x y)))
      (λ e k. rises e (level_of n l e) refl k.0 (ltb-true b (level_of n l e) k.1))
      (each_select (λ e. LinkOf n (level_of n l e) e.0 e.1) (λ u v. ltb b (lowest n l u v)) (hops (route n l x y)) (route_joined n l x y s)))

  -- by cases of the first link
  pub first_none : (x y : ℕ) → same n l x y ≡ true → above n b l x y ≡ [] → first_above n b l x y ≡ None
  unfolding head_or
  first_none x y s e = first_head x y s ∙ ap (λ (r : List (ℕ × ℕ)). head_or n l r None) e

  pub first_some : (x y u v : ℕ) (r : List (ℕ × ℕ)) → same n l x y ≡ true → above n b l x y ≡ (u, v) ∷ r
      → first_above n b l x y ≡ link_of u v (lowest n l u v)
  unfolding head_or
  first_some x y u v r s e = first_head x y s ∙ ap (λ (r : List (ℕ × ℕ)). head_or n l r None) e

  pub first_nothing : (x y : ℕ) → same n l x y ≡ true → first_above n b l x y ≡ None → above n b l x y ≡ []
  first_nothing x y s e = go (above n b l x y) refl
    where
      go : (a : List (ℕ × ℕ)) → above n b l x y ≡ a → above n b l x y ≡ []
      go [] q = q
      go (m ∷ r) q = let f = first_some x y m.0 m.1 r s q in let z : ◌≡◌ {A = ℕ} 0 1 = cc in absurd (omega arith)

  pub first_link_lem : (x y u v i : ℕ) → same n l x y ≡ true → first_above n b l x y ≡ link_of u v i
      → (r : List (ℕ × ℕ)) × (above n b l x y ≡ (u, v) ∷ r) × (i ≡ lowest n l u v)
  first_link_lem x y u v i s e = go (above n b l x y) refl
    where
      go : (a : List (ℕ × ℕ)) → above n b l x y ≡ a → (r : List (ℕ × ℕ)) × (above n b l x y ≡ (u, v) ∷ r) × (i ≡ lowest n l u v)
      go [] q = let f = first_none x y s q in let z : ◌≡◌ {A = ℕ} 0 1 = cc in absurd (omega arith)
      go (m ∷ r) q =
          let p = link_parts (sym (first_some x y m.0 m.1 r s q) ∙ e) in
          (r, q ∙ ap (λ (k : ℕ × ℕ). k ∷ r) (ap₂ (λ (a c : ℕ). (a, c)) p.0 p.1), sym p.2 ∙ rw (p.0, p.1))

-- from the top level down: what is found so far stays the answer where x and the goal are in one sub-cell, and where they are not it
-- is the link between the sub-cells, the near end being the goal from then on
module _ (n l : ℕ) where
  pub head_same : (b j x y : ℕ) (f : Option Crossing) → same n j x y ≡ true
      → head_or n l (above n b (suc j) x y) f ≡ head_or n l (above n b j x y) f
  head_same b j x y f s = ap (λ (r : List (ℕ × ℕ)). head_or n l r f) (above_same n b j x y s)

  pub head_apart : (b j x y : ℕ) (f : Option Crossing) → b ≤ j → j < l → same n (suc j) x y ≡ true → same n j x y ≡ false
      → head_or n l (above n b (suc j) x y) f ≡ head_or n l (above n b j x (near n j x y)) (link_of (near n j x y) (far n j x y) (suc j))
  head_apart b j x y f h k s a =
      let c = crossing n j x y s a in
      ap (λ (r : List (ℕ × ℕ)). head_or n l r f) (above_apart n b j x y h a)
      ∙ head_join n l (above n b j x (near n j x y)) (near n j x y, far n j x y) (above n b j (far n j x y) y) f
      ∙ ap (λ (m : ℕ). head_or n l (above n b j x (near n j x y)) (link_of (near n j x y) (far n j x y) m))
      (lowest_only n l (near n j x y) (far n j x y) j k c.link_apart c.link_up)

  pub head_low : (b j x y : ℕ) (f : Option Crossing) → j ≤ b → head_or n l (above n b j x y) f ≡ f
  unfolding head_or
  head_low b j x y f h = ap (λ (r : List (ℕ × ℕ)). head_or n l r f) (above_low n b j x y h)
