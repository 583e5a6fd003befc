-- The links of a route above level b: they see of a server its DCell of level b alone, since near and far ends see no more.
use mathlib.Core.Path.{◌≡◌, refl, sym, ◌∙◌, ap}
use mathlib.Core.Bool.{Bool, true, false, not}
use mathlib.Core.List.{List, [], ◌∷◌, ◌++◌, cons≢nil, head-eq_of_cons-eq, tail-eq_of_cons-eq}
use Prim.Native.Nat.{ℕ, zero, suc, ◌+◌, ◌-◌, ◌^◌, ◌≤◌}
use native.Mathlib.Nat.{le_trans}
use native.Mathlib.Omega.{arith}
use lib.Dec.{ltb}
use lib.Pow.{pow_pos}
use lib.ListN.{length, length-append}
use borrow.Author.Tests.{ltb-true, ltb-false, lt-ltb, le-ltb}
use Rattle.hall.specs.Cells.{same, near, far}
use Rattle.route.specs.Routes.{route, links, hops, above, of_level, select}
use Rattle.combine.proofs.Tests.{cases}
use Rattle.hall.proofs.Cells.{Crossing, crossing, same_left, same_up, same_mono, apart_mono, near_left, far_left}
use Rattle.route.proofs.Lists.{each_append, each_map, select_append, select_keep, select_drop, select_none, select_select, append_not_nil}
use Rattle.route.proofs.Routes.{Within, within_up, links_ind, links_hops}
use Rattle.route.proofs.Counts.{links_of_level, pow_up}

-- the clauses of above
pub above_low : (n b l x y : ℕ) → l ≤ b → above n b l x y ≡ []
unfolding above
above_low n b zero x y h = refl
above_low n b (suc j) x y h = rw (lt-ltb j b h, above)

pub above_same : (n b j x y : ℕ) → same n j x y ≡ true → above n b (suc j) x y ≡ above n b j x y
unfolding above
above_same n b j x y e = cases (ltb j b)
    (λ q. let h = ltb-true j b q in above_low n b (suc j) x y h ∙ sym (above_low n b j x y (omega arith)))
    (λ q. rw (q, e, above))

pub above_apart : (n b j x y : ℕ) → b ≤ j → same n j x y ≡ false
    → above n b (suc j) x y ≡ above n b j x (near n j x y) ++ ((near n j x y, far n j x y) ∷ above n b j (far n j x y) y)
unfolding above
above_apart n b j x y h e = rw (le-ltb j b h, e, above)

module _ (n b : ℕ) where
  -- the links of the route that leave their DCell of level b
  leaves : ℕ → ℕ → Bool
  leaves u v = not (same n b u v)

  above_links : (l x y : ℕ) → same n l x y ≡ true → above n b l x y ≡ select leaves (links n l x y)
  unfolding above select leaves
  above_links = links_ind n (λ l x y e. above n b l x y ≡ select leaves e)
      (λ x. refl)
      (λ x y e d. sym (select_drop leaves (x, y) [] (ap not (same_mono n x y (omega arith) e))))
      (λ j x y e s v ih. above_same n b j x y s ∙ ih)
      (λ j x y e f c v w ih ih'.
      let m : ℕ × ℕ = (near n j x y, far n j x y) in
      cases (ltb j b)
      (λ q. let h = ltb-true j b q in
      above_low n b (suc j) x y h
      ∙ sym (select_none leaves (e ++ (m ∷ f))
      (each_map (Within n (suc j)) (λ k. leaves k.0 k.1 ≡ false) (e ++ (m ∷ f)) (λ k g. ap not (same_mono n k.0 k.1 h g))
      (each_append (Within n (suc j)) e (m ∷ f) (within_up n j e v) (c.link_up, within_up n j f w)))))
      (λ q. let h = ltb-false j b q in
      rw (above_apart n b j x y h c.apart, select_append, select_keep leaves m f (ap not (apart_mono n m.0 m.1 h c.link_apart)), ih, ih')))

  pub above_hops : (l x y : ℕ) → same n l x y ≡ true → above n b l x y ≡ select (λ u v. not (same n b u v)) (hops (route n l x y))
  unfolding leaves
  above_hops l x y s = above_links l x y s ∙ ap (select leaves) (links_hops n l x y s)

  -- it sees of x its DCell of level b alone
  pub above_left : (l x z y : ℕ) → same n b x z ≡ true → above n b l z y ≡ above n b l x y
  above_left zero x z y e = above_low n b zero z y (omega arith) ∙ sym (above_low n b zero x y (omega arith))
  above_left (suc j) x z y e = cases (ltb j b)
      (λ q. let h = ltb-true j b q in above_low n b (suc j) z y h ∙ sym (above_low n b (suc j) x y h))
      (λ q. let h = ltb-false j b q in
      let s : same n j x z ≡ true = same_mono n x z h e in
      cases (same n j x y)
      (λ k. above_same n b j z y (same_left n j x z y s ∙ k) ∙ above_left j x z y e ∙ sym (above_same n b j x y k))
      (λ k. rw (
        above_apart n b j x y h k,
        above_apart n b j z y h (same_left n j x z y s ∙ k),
        near_left n j x z y s,
        far_left n j x z y s,
        above_left j x z (near n j x y) e,
      )))

  -- where it is empty, y is in the DCell of level b of x
  pub above_nil : (l x y : ℕ) → same n l x y ≡ true → above n b l x y ≡ [] → same n b x y ≡ true
  above_nil zero x y s e = same_mono n x y (omega arith) s
  above_nil (suc j) x y s e = cases (ltb j b)
      (λ q. let h = ltb-true j b q in same_mono n x y h s)
      (λ q. let h = ltb-false j b q in
      cases (same n j x y)
      (λ k. above_nil j x y k (sym (above_same n b j x y k) ∙ e))
      (λ k. append_not_nil (above n b j x (near n j x y)) (near n j x y, far n j x y) (above n b j (far n j x y) y) (sym (above_apart n b j x y h k) ∙ e)))

  pub above_none : (l x y : ℕ) → same n b x y ≡ true → above n b l x y ≡ []
  above_none zero x y s = above_low n b zero x y (omega arith)
  above_none (suc j) x y s = cases (ltb j b)
      (λ q. above_low n b (suc j) x y (ltb-true j b q))
      (λ q. above_same n b j x y (same_mono n x y (ltb-false j b q) s) ∙ above_none j x y s)

  -- its first link starts in the DCell of level b of x; the rest is that of its far end
  abbrev Next : ℕ → ℕ → ℕ → ℕ → ℕ → List (ℕ × ℕ) → Type 0
  Next l x y u v r = (same n b x u ≡ true) × (same n l x v ≡ true) × (above n b l v y ≡ r)

  next_joined : (j x y : ℕ) → b ≤ j → Crossing n j x y → (u v : ℕ) (r : List (ℕ × ℕ))
      → ((s : List (ℕ × ℕ)) → above n b j x (near n j x y) ≡ (u, v) ∷ s → Next j x (near n j x y) u v s)
      → (a : List (ℕ × ℕ)) → above n b j x (near n j x y) ≡ a
      → a ++ ((near n j x y, far n j x y) ∷ above n b j (far n j x y) y) ≡ (u, v) ∷ r → Next (suc j) x y u v r
  next_joined j x y h c u v r ih [] e q =
      let m = head-eq_of_cons-eq q in
      let pu : near n j x y ≡ u = ap (λ (k : ℕ × ℕ). k.0) m in
      let pv : far n j x y ≡ v = ap (λ (k : ℕ × ℕ). k.1) m in (
        rw pu at (above_nil j x (near n j x y) c.here e),
        rw pv at c.far_up,
        rw (← pv) (above_same n b j (far n j x y) y c.there ∙ tail-eq_of_cons-eq q),
      )
  next_joined j x y h c u v r ih (m ∷ a) e q =
      let i = ih a (e ∙ ap (λ (k : ℕ × ℕ). k ∷ a) (head-eq_of_cons-eq q)) in (
        i.0,
        same_up n j x v i.1,
        rw (
          above_apart n b j v y h (same_left n j x v y i.1 ∙ c.apart),
          near_left n j x v y i.1,
          far_left n j x v y i.1,
          i.2,
        ) (tail-eq_of_cons-eq q),
      )

  pub above_next : (l x y : ℕ) → same n l x y ≡ true → (u v : ℕ) (r : List (ℕ × ℕ)) → above n b l x y ≡ (u, v) ∷ r
      → (same n b x u ≡ true) × (same n l x v ≡ true) × (above n b l v y ≡ r)
  above_next zero x y s u v r e = absurd (cons≢nil (sym e ∙ above_low n b zero x y (omega arith)))
  above_next (suc j) x y s u v r e = cases (ltb j b)
      (λ q. let h = ltb-true j b q in absurd (cons≢nil (sym e ∙ above_low n b (suc j) x y h)))
      (λ q. let h = ltb-false j b q in
      cases (same n j x y)
      (λ k. let ih = above_next j x y k u v r (sym (above_same n b j x y k) ∙ e) in
      (ih.0, same_up n j x v ih.1, above_same n b j v y (same_left n j x v y ih.1 ∙ k) ∙ ih.2))
      (λ k. let c = crossing n j x y s k in
      next_joined j x y h c u v r (λ t. above_next j x (near n j x y) c.here u v t)
      (above n b j x (near n j x y)) refl (sym (above_apart n b j x y h k) ∙ e)))

  -- how many they are
  pub above_length : (l x y : ℕ) → b ≤ l → length (above n b l x y) + 1 ≤ 2 ^ (l - b)
  above_length zero x y h = rw (above_low n b zero x y (omega arith)) (omega (arith, pow_pos (0 - b)))
  above_length (suc j) x y h = cases (ltb j b)
      (λ q. let g = ltb-true j b q in rw (above_low n b (suc j) x y g) (omega (arith, pow_pos (suc j - b))))
      (λ q. let g = ltb-false j b q in
      cases (same n j x y)
      (λ k. rw (above_same n b j x y k) (omega (arith, above_length j x y g, pow_up b j g)))
      (λ k. rw (above_apart n b j x y g k, length-append)
      (omega (arith, above_length j x (near n j x y) g, above_length j (far n j x y) y g, pow_up b j g))))

  pub above_of_level : (l x y : ℕ) → same n l x y ≡ true → (i : ℕ) → i ≤ l → length (select (of_level n i) (above n b l x y)) ≤ 2 ^ (l - i)
  above_of_level l x y s i h =
      rw (above_links l x y s) (le_trans (select_select leaves (of_level n i) (links n l x y)) (links_of_level n l x y s i h))
