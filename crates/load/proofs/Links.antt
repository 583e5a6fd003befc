-- How many routes go over a link, level by level: from the level of the link on, each level multiplies them by 2t + 1.
use mathlib.Core.Path.{◌≡◌, refl, sym, ◌∙◌, ap, ap₂}
use mathlib.Core.Bool.{Bool, true, false}
use mathlib.Core.List.{List, [], ◌∷◌, ◌++◌}
use Prim.Native.Nat.{ℕ, zero, suc, ◌+◌, ◌*◌, ◌<◌}
use native.Mathlib.Nat.{add-zero, add-suc}
use native.Mathlib.Omega.{arith}
use Rattle.combine.specs.Tests.{either}
use Rattle.combine.proofs.Tests.{cases, never, either_false}
use Rattle.sums.specs.Sums.{product, one}
use Rattle.hall.specs.Cells.{t, same, near, far}
use Rattle.hall.proofs.Cells.{Crossing, same_sym, same_trans, same_mono}
use Rattle.hall.proofs.Links.{hall_same}
use Rattle.route.specs.Routes.{route, links, hops}
use Rattle.route.specs.Walks.{Each}
use Rattle.route.proofs.Lists.{each_map}
use Rattle.route.proofs.Routes.{links_same, links_apart, links_hops, route_stays}
use Rattle.load.specs.Counts.{has, over}
use Rattle.load.specs.Figures.{ways}
use Rattle.load.proofs.Around.{around, around_swap}
use Rattle.load.proofs.Figures.{ways_next}
use Rattle.load.proofs.Pairs.{pairs, pairs_inside, pairs_hall, pairs_up}

-- where the links start that join servers of which P holds
hops_from : (P : ℕ → Type 0) (r : List ℕ) → Each P r → Each (λ e. P e.0) (hops r)
unfolding hops
hops_from P [] v = tt
hops_from P (x ∷ []) v = tt
hops_from P (x ∷ (y ∷ r)) v = (v.0, hops_from P (y ∷ r) v.1)

links_from : (n l x y : ℕ) → same n l x y ≡ true → Each (λ e. same n l x e.0 ≡ true) (links n l x y)
links_from n l x y s = rw (links_hops n l x y s) (hops_from (λ z. same n l x z ≡ true) (route n l x y) (route_stays n l x y s))

-- the links that pass have both ends in the DCell of level i around u
abbrev pub Inner : ℕ → ℕ → ℕ → (ℕ → ℕ → Bool) → Type 0
Inner n i u p = (a b : ℕ) → p a b ≡ true → (same n i u a ≡ true) × (same n i a b ≡ true)

module _ (p : ℕ → ℕ → Bool) where
  pub has_append : (r s : List (ℕ × ℕ)) → has p (r ++ s) ≡ either (has p r) (has p s)
  unfolding has
  has_append [] s = refl
  has_append (e ∷ r) s = cases (p e.0 e.1) (λ q. rw q) (λ q. rw q (has_append r s))

  pub has_none : (r : List (ℕ × ℕ)) → Each (λ e. p e.0 e.1 ≡ false) r → has p r ≡ false
  unfolding has
  has_none [] v = refl
  has_none (e ∷ r) v = rw v.0 (has_none r v.1)

  module _ (n : ℕ) where
    -- the links of a route between two sub-cells
    pub has_apart : (j x y : ℕ) → Crossing n j x y → has p (links n (suc j) x y)
        ≡ either (has p (links n j x (near n j x y))) (either (p (near n j x y) (far n j x y)) (has p (links n j (far n j x y) y)))
    unfolding has
    has_apart j x y c = ap (has p) (links_apart n j x y c.apart)
        ∙ has_append (links n j x (near n j x y)) ((near n j x y, far n j x y) ∷ links n j (far n j x y) y)

    -- 1 where the route from x to y, in a DCell of level l, has a link that passes
    abbrev hit : ℕ → ℕ → ℕ → ℕ
    hit l x y = one (has p (links n l x y))

    -- how many routes have one, over all ordered pairs of the DCell of level l around u
    abbrev pub total : ℕ → ℕ → ℕ
    total l u = pairs n l u (hit l)

    module _ (j u : ℕ) (inner : Inner n j u p) where
      -- a route of another DCell has none
      outside : (x z : ℕ) → same n j x z ≡ true → same n j u x ≡ false → has p (links n j x z) ≡ false
      outside x z s a = has_none (links n j x z) (each_map (λ e. same n j x e.0 ≡ true) (λ e. p e.0 e.1 ≡ false) (links n j x z)
          (λ e k. cases (p e.0 e.1)
          (λ q. never (same_trans n j u e.0 x (inner e.0 e.1 q).0 (same_sym n j x e.0 k)) a)
          (λ q. q)) (links_from n j x z s))

      no_hit : (x z : ℕ) → same n j x z ≡ true → same n j u x ≡ false → hit j x z ≡ 0
      no_hit x z s a = unfold one in (rw (outside x z s a))

      -- between two sub-cells: on the way to the near end, or on that from the far end
      hit_apart : (x y : ℕ) → Crossing n j x y → hit (suc j) x y ≡ hit j x (near n j x y) + hit j (far n j x y) y + 0
      unfolding one
      hit_apart x y c =
          let m : p (near n j x y) (far n j x y) ≡ false = cases (p (near n j x y) (far n j x y))
          (λ q. never (inner (near n j x y) (far n j x y) q).1 c.link_apart) (λ q. q) in
          ap one (has_apart j x y c) ∙ rw m (cases (same n j u x)
          (λ q. let f : same n j u (far n j x y) ≡ false = cases (same n j u (far n j x y))
          (λ k. never (same_trans n j x u y (same_sym n j u x q) (same_trans n j u (far n j x y) y k c.there)) c.apart) (λ k. k) in
          let o = outside (far n j x y) y c.there f in
          rw (o, either_false) (omega arith))
          (λ q. let o = outside x (near n j x y) c.here q in rw o (omega arith)))

      hit_same : (x y : ℕ) → same n j x y ≡ true → hit (suc j) x y ≡ hit j x y
      hit_same x y s = ap (λ (r : List (ℕ × ℕ)). one (has p r)) (links_same n j x y s)

      -- the ways to a near end, and those from a far end, are counted in the sub-cell of u alone
      hit_back : around n (suc j) u (λ y. around n j y (λ z. hit j z y)) ≡ total j u
      hit_back =
          pairs_inside n j u (λ y z. hit j z y)
          (λ y z s a. no_hit z y (same_sym n j y z s) (cases (same n j u z) (λ k. never (same_trans n j u z y k (same_sym n j y z s)) a) (λ k. k)))
          ∙ around_swap n j u (λ y z. hit j z y)

      total_up : total (suc j) u ≡ (2 * t n j + 1) * total j u
      total_up =
          pairs_up n j (hit (suc j)) (hit j) 0 hit_same hit_apart u
          ∙ ap₂ (λ (a b : ℕ). (t n j + 1) * a + (t n j * b + t n (suc j) * (t n j * (t n j * 0)))) (pairs_inside n j u (hit j) no_hit) hit_back
          ∙ omega arith

    -- from the level of a link to any higher one
    total_raised : (i d u : ℕ) → Inner n i u p → total (i + d) u ≡ total i u * product (ways n) i d
    unfolding product
    total_raised i zero u inner = rw (add-zero i) (omega arith)
    total_raised i (suc d) u inner =
        let up : Inner n (i + d) u p = λ a b q. let k = inner a b q in
        (same_mono n {i = i} {j = i + d} u a (omega arith) k.0, same_mono n {i = i} {j = i + d} a b (omega arith) k.1) in
        rw (add-suc i d, ways_next n (i + d)) (total_up (i + d) u up ∙ ap (λ (m : ℕ). (2 * t n (i + d) + 1) * m) (total_raised i d u inner) ∙ omega arith)

    over_total : (k u : ℕ) → u < t n k → 0 < n → over n k p ≡ total k u
    unfolding over
    over_total k u h pos = pairs_hall n k u (λ x y. one (has p (hops (route n k x y)))) (hit k) h
        (λ x y hx hy. ap (λ (r : List (ℕ × ℕ)). one (has p r)) (sym (links_hops n k x y (hall_same n pos k x y hx hy))))

    -- so what is counted in the hall is what is counted at the level of the link, times 2g - 1 for each level above it
    pub over_raised : (k i d u : ℕ) → i + d ≡ k → u < t n k → 0 < n → Inner n i u p → over n k p ≡ total i u * product (ways n) i d
    over_raised k i d u e h pos inner = over_total k u h pos ∙ ap (λ (m : ℕ). total m u) (sym e) ∙ total_raised i d u inner
