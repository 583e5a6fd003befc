-- The route is the one that the text recurses to: x alone, x and y, or by the one link at the lowest level that holds both; a
-- level above the lowest changes nothing, since there x and y are in one sub-cell.
use mathlib.Core.Path.{◌≡◌, sym, ◌∙◌, ap, ap₂}
use mathlib.Core.Bool.{true, false}
use mathlib.Core.List.{List, [], ◌∷◌, ◌++◌}
use Prim.Native.Nat.{ℕ, zero, suc, ◌+◌, ◌-◌, ◌^◌, ◌<◌, ◌≤◌}
use native.Mathlib.Nat.{add-zero, add-suc}
use native.Mathlib.Omega.{arith}
use lib.ListN.{length}
use Rattle.hall.specs.Cells.{same, near, far, lowest}
use Rattle.hall.proofs.Cells.{crossing, same_refl, same_mono}
use Rattle.route.specs.Routes.{route, links, hops, level_of, of_level, select, above}
use Rattle.route.specs.Walks.{Each, LinkOf}
use Rattle.route.proofs.Lists.{each_append, each_map, select_none, hops_length, walk_starts, walk_ends}
use Rattle.route.proofs.Lowest.{lowest_same, lowest_apart, lowest_zero, lowest_fits, lowest_holds, lowest_least}
use Rattle.route.proofs.Routes.{Within, route_here, route_step, route_same, route_apart, route_walk, route_stays, route_length, links_ind, links_stay, links_hops}
use Rattle.route.proofs.Counts.{not_above, route_of_level}
use Rattle.route.proofs.Above.{above_same, above_length}

module _ (n : ℕ) where
  -- from x to x: the server itself
  pub route_self : (l x : ℕ) → route n l x x ≡ x ∷ []
  route_self zero x = route_here n x
  route_self (suc l) x = route_same n l x x (same_refl n l x) ∙ route_self l x

  -- a level above one that holds both changes nothing
  pub route_raised : (m d x y : ℕ) → same n m x y ≡ true → route n (m + d) x y ≡ route n m x y
  route_raised m zero x y s = rw add-zero
  route_raised m (suc d) x y s = rw add-suc (route_same n (m + d) x y (same_mono n {i = m} {j = m + d} x y (omega arith) s) ∙ route_raised m d x y s)

  pub route_lower : (m l x y : ℕ) → m ≤ l → same n m x y ≡ true → route n l x y ≡ route n m x y
  route_lower m l x y h s = let e : l ≡ m + (l - m) = omega arith in ap (λ (k : ℕ). route n k x y) e ∙ route_raised m (l - m) x y s

  pub route_lowest : (l x y : ℕ) → same n l x y ≡ true → route n l x y ≡ route n (lowest n l x y) x y
  route_lowest l x y s = route_lower (lowest n l x y) l x y (lowest_fits n l x y) (lowest_holds n l x y s)

  -- in the same DCell0: x, y
  pub route_switch : (l x y : ℕ) → same n zero x y ≡ true → (x ≡ y → ⊥) → route n l x y ≡ x ∷ y ∷ []
  route_switch l x y s d = route_lower zero l x y (omega arith) s ∙ route_step n x y d

  -- otherwise, at the lowest level that holds both: the route to the near end, the link, the route from the far end
  pub route_join : (l x y j : ℕ) → same n l x y ≡ true → lowest n l x y ≡ suc j
      → route n l x y ≡ route n l x (near n j x y) ++ route n l (far n j x y) y
  route_join l x y j s e =
      let h = lowest_fits n l x y in
      let up : same n (suc j) x y ≡ true = rw e at (lowest_holds n l x y s) in
      let apart = lowest_least n l x y j (omega arith) in
      let c = crossing n j x y up apart in
      route_lower (suc j) l x y (omega arith) up
      ∙ route_apart n j x y apart
      ∙ ap₂ (λ (a b : List ℕ). a ++ b)
      (sym (route_lower j l x (near n j x y) (omega arith) c.here))
      (sym (route_lower j l (far n j x y) y (omega arith) c.there))

  -- the link e is of the lowest level, up to l, that holds both of its ends
  abbrev Lowly : ℕ → ℕ × ℕ → Type 0
  Lowly l e = LinkOf n (level_of n l e) e.0 e.1

  lowly_up : (j : ℕ) (e : List (ℕ × ℕ)) → Each (Within n j) e → Each (Lowly j) e → Each (Lowly (suc j)) e
  lowly_up j [] v w = tt
  lowly_up j (k ∷ e) v w = (rw (lowest_same n j k.0 k.1 v.0) w.0, lowly_up j e v.1 w.1)

  links_lowly : (l x y : ℕ) → same n l x y ≡ true → Each (Lowly l) (links n l x y)
  links_lowly = links_ind n (λ l x y e. Each (Lowly l) e)
      (λ x. tt)
      (λ x y e d. (rw (lowest_zero n x y) (e, d), tt))
      (λ j x y e s v w. lowly_up j e v w)
      (λ j x y e f c v w v' w'. each_append (Lowly (suc j)) e ((near n j x y, far n j x y) ∷ f) (lowly_up j e v v')
      (rw (lowest_apart n j (near n j x y) (far n j x y) c.link_apart) c.across, lowly_up j f w w'))

  -- servers that follow each other are joined by a link of the lowest level that holds both
  pub route_joined : (l x y : ℕ) → same n l x y ≡ true → Each (λ e. LinkOf n (level_of n l e) e.0 e.1) (hops (route n l x y))
  route_joined l x y s = rw (← links_hops n l x y s) (links_lowly l x y s)

  -- it starts at x and ends at y
  pub route_starts : (l x y : ℕ) → same n l x y ≡ true → (q : List ℕ) × (route n l x y ≡ x ∷ q)
  route_starts l x y s = walk_starts n (route_walk n l x y s)

  pub route_ends : (l x y : ℕ) → same n l x y ≡ true → (q : List ℕ) × (route n l x y ≡ q ++ (y ∷ []))
  route_ends l x y s = walk_ends n (route_walk n l x y s)

  -- with l the lowest level that holds both: the route stays in that DCell, and has at most 2 ^ (l + 1) - 1 links, at most
  -- 2 ^ (l - i) of level i, none above l
  pub route_stays_lowest : (k x y : ℕ) → same n k x y ≡ true → Each (λ z. same n (lowest n k x y) x z ≡ true) (route n k x y)
  route_stays_lowest k x y s = rw (route_lowest k x y s) (route_stays n (lowest n k x y) x y (lowest_holds n k x y s))

  pub route_links : (k x y : ℕ) → same n k x y ≡ true → length (hops (route n k x y)) + 1 ≡ length (route n k x y)
  route_links k x y s = hops_length n (route_walk n k x y s)

  pub links_bound : (k x y : ℕ) → same n k x y ≡ true → length (hops (route n k x y)) ≤ 2 ^ suc (lowest n k x y) - 1
  links_bound k x y s =
      let h = route_links k x y s in
      let g : length (route n k x y) ≤ 2 ^ suc (lowest n k x y) = rw (route_lowest k x y s) (route_length n (lowest n k x y) x y (lowest_holds n k x y s)) in
      omega arith

  pub links_of_level_bound : (k x y : ℕ) → same n k x y ≡ true → (i : ℕ) → i ≤ lowest n k x y
      → length (select (of_level n i) (hops (route n k x y))) ≤ 2 ^ (lowest n k x y - i)
  links_of_level_bound k x y s i h =
      rw (route_lowest k x y s) (route_of_level n (lowest n k x y) x y (lowest_holds n k x y s) i h)

  no_higher : (l i u v : ℕ) → l < i → same n l u v ≡ true → of_level n i u v ≡ false
  no_higher l zero u v h s = absurd (omega arith)
  no_higher l (suc j) u v h s = not_above n j u v (same_mono n {i = l} {j = j} u v (omega arith) s)

  pub links_none_above : (k x y : ℕ) → same n k x y ≡ true → (i : ℕ) → lowest n k x y < i
      → select (of_level n i) (hops (route n k x y)) ≡ []
  links_none_above k x y s i h =
      let o = lowest_holds n k x y s in
      rw (route_lowest k x y s, ← links_hops n (lowest n k x y) x y o)
      (select_none (of_level n i) (links n (lowest n k x y) x y)
      (each_map (Within n (lowest n k x y)) (λ e. of_level n i e.0 e.1 ≡ false) (links n (lowest n k x y) x y)
      (λ e. no_higher (lowest n k x y) i e.0 e.1 h) (links_stay n (lowest n k x y) x y o)))

  -- and the links above b, with one, are at most 2 ^ (l - b)
  pub above_raised : (b m d x y : ℕ) → same n m x y ≡ true → above n b (m + d) x y ≡ above n b m x y
  above_raised b m zero x y s = rw add-zero
  above_raised b m (suc d) x y s = rw add-suc (above_same n b (m + d) x y (same_mono n {i = m} {j = m + d} x y (omega arith) s) ∙ above_raised b m d x y s)

  pub above_lowest : (b l x y : ℕ) → same n l x y ≡ true → above n b l x y ≡ above n b (lowest n l x y) x y
  above_lowest b l x y s =
      let h = lowest_fits n l x y in
      let e : l ≡ lowest n l x y + (l - lowest n l x y) = omega arith in
      ap (λ (k : ℕ). above n b k x y) e ∙ above_raised b (lowest n l x y) (l - lowest n l x y) x y (lowest_holds n l x y s)

  pub above_bound : (b k x y : ℕ) → same n k x y ≡ true → b ≤ lowest n k x y → length (above n b k x y) + 1 ≤ 2 ^ (lowest n k x y - b)
  above_bound b k x y s h = rw (above_lowest b k x y s) (above_length n b (lowest n k x y) x y h)
