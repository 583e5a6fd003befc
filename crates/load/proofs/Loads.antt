-- What each link carries at its own level, and so in the whole hall: between its two sub-cells a link of a level above 0 carries every
-- route from the one to the other, and between two servers of a switch there is one route.
use mathlib.Core.Path.{◌≡◌, refl, sym, ◌∙◌, ap, ap₂}
use mathlib.Core.Bool.{Bool, true, false, not}
use Prim.Native.Nat.{ℕ, zero, suc, ◌-◌, ◌*◌, ◌<◌, ◌≤◌}
use native.Mathlib.Omega.{arith}
use lib.Dec.{eqb}
use borrow.Author.Tests.{eqb-true, eqb-false, eq-eqb, ne_eqb}
use Rattle.combine.specs.Tests.{both}
use Rattle.combine.proofs.Tests.{cases, never, both_ways, both_left, both_right, both_true, both_false, either_false}
use Rattle.sums.specs.Sums.{product, one}
use Rattle.sums.proofs.Sums.{one_both}
use Rattle.hall.specs.Cells.{t, same, sub, near, far, neighbour}
use Rattle.hall.proofs.Cells.{crossing, same_refl, same_sym, same_trans, same_sub, near_left, sub_fits, end_sub, is_end, neighbour_end, neighbour_stays, neighbour_leaves, neighbour_neighbour, same_mono}
use Rattle.hall.proofs.Links.{in_hall_lem}
use Rattle.route.specs.Routes.{links}
use Rattle.route.specs.Walks.{LinkOf}
use Rattle.route.proofs.Lists.{each_map}
use Rattle.route.proofs.Routes.{Within, links_here, links_step, links_same, links_stay}
use Rattle.load.specs.Counts.{has, is_link, to_switch, from_switch, carries, sends, takes}
use Rattle.load.specs.Figures.{ways, load, cable}
use Rattle.load.proofs.Around.{around, around_left, around_self, around_others, around_same}
use Rattle.load.proofs.Pairs.{pairs_ext, pairs_grid}
use Rattle.load.proofs.Links.{Inner, has_none, has_apart, total, over_raised}

module _ (n : ℕ) where
  -- a total that is counted by first and last server apart
  total_grid : (p : ℕ → ℕ → Bool) (l u : ℕ) (f h : ℕ → Bool)
      → ((x y : ℕ) → same n l u x ≡ true → same n l u y ≡ true → has p (links n l x y) ≡ both (f x) (h y))
      → total p n l u ≡ around n l u (λ x. one (f x)) * around n l u (λ y. one (h y))
  total_grid p l u f h e =
      pairs_ext n l u (λ x y. one (has p (links n l x y))) (λ x y. one (f x) * one (h y)) (λ x y s k. ap one (e x y s k) ∙ one_both (f x) (h y))
      ∙ pairs_grid n l u (λ x. one (f x)) (λ y. one (h y))

  -- in a DCell0 a route has one link, or none to itself
  has_switch : (p : ℕ → ℕ → Bool) (x y : ℕ) → has p (links n zero x y) ≡ both (not (eqb x y)) (p x y)
  unfolding has
  has_switch p x y = cases (eqb x y)
      (λ q. let e = eqb-true x y q in rw (q, ← e, links_here n x))
      (λ q. rw (q, links_step n x y (eqb-false x y q)) (either_false (p x y)))

  link_inner : (i u v : ℕ) → same n i u v ≡ true → Inner n i u (is_link u v)
  link_inner i u v s a b q =
      let e = eqb-true u a (both_left (eqb u a) (eqb v b) q) in
      let f = eqb-true v b (both_right (eqb u a) (eqb v b) q) in
      rw (← e, ← f) (same_refl n i u, s)

  module _ (pos : 0 < n) where
    module _ (j u v : ℕ) (joined : neighbour n j u ≡ v) where
      stays : same n (suc j) u v ≡ true
      stays = rw joined at (neighbour_stays n pos j u)

      leaves : same n j u v ≡ false
      leaves = rw joined at (neighbour_leaves n pos j u)

      -- the link is that between the sub-cells of x and y, where it joins them
      only_link : (x y : ℕ) → same n j u x ≡ true → same n j v y ≡ true → u ≡ near n j x y
      unfolding near
      only_link x y a b =
          let e = is_end n pos j u in
          let s : sub n j v ≡ e.0 = ap (sub n j) (sym joined ∙ neighbour_end n pos j u) ∙ end_sub n j u e.0 (sub n j u) e.1 (sub_fits n j u) (λ z. e.2 (sym z)) in
          rw (near_left n j u x y a, ← same_sub n j v y b, s) e.3

      -- a route inside a sub-cell does not go over it
      none_inside : (x y : ℕ) → same n j x y ≡ true → has (is_link u v) (links n j x y) ≡ false
      none_inside x y s = has_none (is_link u v) (links n j x y) (each_map (Within n j) (λ e. is_link u v e.0 e.1 ≡ false) (links n j x y)
          (λ e k. cases (is_link u v e.0 e.1)
          (λ q. let a = eqb-true u e.0 (both_left (eqb u e.0) (eqb v e.1) q) in
          let b = eqb-true v e.1 (both_right (eqb u e.0) (eqb v e.1) q) in
          never (rw (a, b) k) leaves)
          (λ q. q)) (links_stay n j x y s))

      -- a route goes over it exactly from the sub-cell of u to that of v
      crosses : (x y : ℕ) → same n (suc j) x y ≡ true → has (is_link u v) (links n (suc j) x y) ≡ both (same n j u x) (same n j v y)
      crosses x y s = cases (same n j x y)
          (λ k. ap (has (is_link u v)) (links_same n j x y k) ∙ none_inside x y k ∙ sym (cases (same n j u x)
          (λ a. rw a (cases (same n j v y)
          (λ b. never (same_trans n j u x v a (same_trans n j x y v k (same_sym n j v y b))) leaves)
          (λ b. b)))
          (λ a. rw a)))
          (λ k. let c = crossing n j x y s k in
          has_apart (is_link u v) n j x y c
          ∙ rw (none_inside x (near n j x y) c.here, none_inside (far n j x y) y c.there, either_false)
          (both_ways (is_link u v (near n j x y) (far n j x y)) (both (same n j u x) (same n j v y))
          (λ q. let e = eqb-true u (near n j x y) (both_left (eqb u (near n j x y)) (eqb v (far n j x y)) q) in
          let w = eqb-true v (far n j x y) (both_right (eqb u (near n j x y)) (eqb v (far n j x y)) q) in
          both_true (same n j u x) (same n j v y) (rw e (same_sym n j x (near n j x y) c.here)) (rw w c.there))
          (λ q. let e = only_link x y (both_left (same n j u x) (same n j v y) q) (both_right (same n j u x) (same n j v y) q) in
          both_true (eqb u (near n j x y)) (eqb v (far n j x y)) (eq-eqb u (near n j x y) e)
          (eq-eqb v (far n j x y) (sym joined ∙ ap (neighbour n j) e ∙ c.across)))))

      -- so all of the t servers there send to all of the t servers here
      pub link_total : total (is_link u v) n (suc j) u ≡ t n j * t n j
      link_total =
          total_grid (is_link u v) (suc j) u (same n j u) (same n j v) (λ x y s k. crosses x y (same_trans n (suc j) x u y (same_sym n (suc j) u x s) k))
          ∙ ap₂ ◌*◌ (around_same n pos j u)
          (sym (around_left n (suc j) u v (λ y. one (same n j v y)) stays) ∙ around_same n pos j v)

    -- two servers of one switch: one route
    pub switch_total : (u v : ℕ) → same n zero u v ≡ true → (u ≡ v → ⊥) → total (is_link u v) n zero u ≡ 1
    switch_total u v s d =
        total_grid (is_link u v) zero u (eqb u) (eqb v) (λ x y _ _. has_switch (is_link u v) x y ∙ cases (eqb x y)
        (λ q. let e = eqb-true x y q in rw q (sym (cases (eqb u x)
        (λ a. rw a (cases (eqb v y) (λ b. absurd (d (eqb-true u x a ∙ e ∙ sym (eqb-true v y b)))) (λ b. b)))
        (λ a. rw a))))
        (λ q. rw q))
        ∙ ap₂ ◌*◌ (around_self n pos zero u) (sym (around_left n zero u v (λ y. one (eqb v y)) s) ∙ around_self n pos zero v)

    -- one server of a switch: to each of the others, and from each of them
    pub sends_total : (u : ℕ) → total (to_switch n u) n zero u ≡ n - 1
    sends_total u =
        total_grid (to_switch n u) zero u (eqb u) (λ y. not (eqb u y))
        (λ x y s k. has_switch (to_switch n u) x y
        ∙ rw (same_trans n zero x u y (same_sym n zero u x s) k) (cases (eqb u x)
        (λ q. let e = eqb-true u x q in rw (q, e) (cases (eqb x y) (λ r. rw r) (λ r. rw r)))
        (λ q. rw q (both_false (not (eqb x y)) false refl))))
        ∙ ap₂ ◌*◌ (around_self n pos zero u) (around_others n pos u) ∙ omega arith

    pub takes_total : (u : ℕ) → total (from_switch n u) n zero u ≡ n - 1
    takes_total u =
        total_grid (from_switch n u) zero u (λ x. not (eqb u x)) (eqb u)
        (λ x y s k. has_switch (from_switch n u) x y
        ∙ rw (same_trans n zero x u y (same_sym n zero u x s) k) (cases (eqb u y)
        (λ q. let e = eqb-true u y q in rw (q, e) (cases (eqb x y) (λ r. rw (r, eq-eqb y x (sym (eqb-true x y r)))) (λ r. rw (r, ne_eqb y x (λ z. eqb-false x y r (sym z))))))
        (λ q. rw q (both_false (not (eqb x y)) false refl ∙ sym (both_false (not (eqb u x)) false refl)))))
        ∙ ap₂ ◌*◌ (around_others n pos u) (around_self n pos zero u) ∙ omega arith

    -- what a link of each level carries
    pub link_carries : (k i u v : ℕ) → i ≤ k → u < t n k → LinkOf n i u v → carries n k u v ≡ load n k i
    unfolding load
    link_carries k zero u v l h (s, d) =
        over_raised (is_link u v) n k zero k u (omega arith) h pos (link_inner zero u v s)
        ∙ ap (λ (m : ℕ). m * product (ways n) 0 k) (switch_total u v s d)
        ∙ omega arith
    link_carries k (suc a) u v l h e =
        over_raised (is_link u v) n k (suc a) (k - suc a) u (omega arith) h pos (link_inner (suc a) u v (stays a u v e))
        ∙ ap (λ (m : ℕ). m * product (ways n) (suc a) (k - suc a)) (link_total a u v e)

    -- a link has the same level from its other end
    link_back : (i u v : ℕ) → LinkOf n i u v → LinkOf n i v u
    link_back zero u v (s, d) = (same_sym n zero u v s, λ e. d (sym e))
    link_back (suc a) u v e = ap (neighbour n a) (sym e) ∙ neighbour_neighbour n pos a u

    link_in : (k i u v : ℕ) → i ≤ k → u < t n k → LinkOf n i u v → v < t n k
    link_in k zero u v l h (s, d) = in_hall_lem n pos k u v h (same_mono n {i = 0} {j = k} u v l s)
    link_in k (suc a) u v l h e = in_hall_lem n pos k u v h (same_mono n {i = suc a} {j = k} u v l (stays a u v e))

    pub each_way : (k i u v : ℕ) → i ≤ k → u < t n k → LinkOf n i u v → (carries n k u v ≡ load n k i) × (carries n k v u ≡ load n k i)
    each_way k i u v l h e = (link_carries k i u v l h e, link_carries k i v u l (link_in k i u v l h e) (link_back i u v e))

    -- what the cable of each server carries
    pub cable_carries : (k u : ℕ) → u < t n k → (sends n k u ≡ cable n k) × (takes n k u ≡ cable n k)
    unfolding cable load
    cable_carries k u h = (
      over_raised (to_switch n u) n k zero k u (omega arith) h pos (λ a b q. (
        rw (← eqb-true u a (both_left (eqb u a) (same n 0 a b) q)) (same_refl n 0 u),
        both_right (eqb u a) (same n 0 a b) q,
      ))
          ∙ ap (λ (m : ℕ). m * product (ways n) 0 k) (sends_total u),
      over_raised (from_switch n u) n k zero k u (omega arith) h pos (λ a b q.
          let e = eqb-true u b (both_left (eqb u b) (same n 0 a b) q) in
          let s = both_right (eqb u b) (same n 0 a b) q in
          (rw e (same_sym n 0 a b s), s))
          ∙ ap (λ (m : ℕ). m * product (ways n) 0 k) (takes_total u),
    )
