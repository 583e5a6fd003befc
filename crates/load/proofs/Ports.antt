-- How many of a server's routes begin at its port of level i: from level i on each level multiplies them by g, because the first link
-- towards another sub-cell is the first link towards the near end there.
use mathlib.Core.Path.{◌≡◌, refl, sym, ◌∙◌, ap, ap₂}
use mathlib.Core.Bool.{Bool, true, false, not}
use mathlib.Core.List.{List, [], ◌∷◌, ◌++◌}
use Prim.Native.Nat.{ℕ, zero, suc, ◌+◌, ◌-◌, ◌*◌, ◌<◌, ◌≤◌}
use native.Mathlib.Nat.{add-zero, add-suc}
use native.Mathlib.Omega.{arith}
use lib.Dec.{eqb}
use borrow.Author.Tests.{eqb-true, eqb-false, eq-eqb}
use Rattle.combine.proofs.Tests.{cases}
use Rattle.sums.specs.Sums.{product, one}
use Rattle.sums.proofs.Sums.{sum_ext}
use Rattle.hall.specs.Cells.{t, g, same, near, far}
use Rattle.hall.proofs.Cells.{Crossing, crossing, same_refl}
use Rattle.hall.proofs.Links.{hall_same}
use Rattle.route.specs.Routes.{route, links, hops, of_level}
use Rattle.route.specs.Walks.{Each}
use Rattle.route.proofs.Lists.{walk_second}
use Rattle.route.proofs.Routes.{Within, links_here, links_step, links_same, links_apart, links_hops, links_stay, route_walk}
use Rattle.route.proofs.Counts.{not_above, not_below, level_of_link}
use Rattle.route.proofs.Recursion.{route_self}
use Rattle.load.specs.Counts.{starts, begins}
use Rattle.load.specs.Figures.{share}
use Rattle.load.proofs.Around.{around, around_hall, around_ext, around_const, around_split, around_self, around_others}

-- the first of two lists of links, one behind the other
starts_append : (p : ℕ → ℕ → Bool) (e r : List (ℕ × ℕ)) (m : ℕ × ℕ) → p m.0 m.1 ≡ false → starts p (e ++ (m ∷ r)) ≡ starts p e
unfolding starts
starts_append p [] r m h = h
starts_append p (a ∷ e) r m h = refl

module _ (n : ℕ) where
  -- no link, and a first link
  links_self : (l x : ℕ) → links n l x x ≡ []
  unfolding hops
  links_self l x = links_hops n l x x (same_refl n l x) ∙ ap hops (route_self n l x)

  pub links_first : (l x y : ℕ) → same n l x y ≡ true → (x ≡ y → ⊥) → (z : ℕ) × (r : List (ℕ × ℕ)) × (links n l x y ≡ (x, z) ∷ r) × (same n l x z ≡ true)
  unfolding hops
  links_first l x y s ne =
      let k = walk_second n (route_walk n l x y s) ne in
      let e : links n l x y ≡ (x, k.0) ∷ hops (k.0 ∷ k.1) = links_hops n l x y s ∙ ap hops k.2 in
      let v : Each (Within n l) ((x, k.0) ∷ hops (k.0 ∷ k.1)) = rw e at (links_stay n l x y s) in
      (k.0, hops (k.0 ∷ k.1), e, v.0)

  -- the route from x to y, in a DCell of level l, begins at level i
  abbrev first : ℕ → ℕ → ℕ → ℕ → Bool
  first i l x y = starts (of_level n i) (links n l x y)

  -- where x and y are apart, the first link below the top is that towards the near end; it is the top link itself where x is the near end
  first_apart : (i j x y : ℕ) → i ≤ j → Crossing n j x y → first i (suc j) x y ≡ first i j x (near n j x y)
  first_apart i j x y h c = rw (links_apart n j x y c.apart)
      (starts_append (of_level n i) (links n j x (near n j x y)) (links n j (far n j x y) y) (near n j x y, far n j x y)
      (not_below n i j (near n j x y) (far n j x y) h c.link_apart))

  first_top : (j x y : ℕ) → Crossing n j x y → first (suc j) (suc j) x y ≡ eqb x (near n j x y)
  unfolding starts
  first_top j x y c = cases (eqb x (near n j x y))
      (λ q. let e = eqb-true x (near n j x y) q in
      let z : links n j x (near n j x y) ≡ [] = ap (links n j x) (sym e) ∙ links_self j x in
      rw (q, links_apart n j x y c.apart, z) (level_of_link n j x y c))
      (λ q. let k = links_first j x (near n j x y) c.here (eqb-false x (near n j x y) q) in
      rw (q, links_apart n j x y c.apart, k.2) (not_above n j x k.0 k.3))

  first_low : (j x y : ℕ) → same n j x y ≡ true → first (suc j) (suc j) x y ≡ false
  unfolding starts
  first_low j x y s = rw (links_same n j x y s) (cases (eqb x y)
      (λ q. let e = eqb-true x y q in rw (← e, links_self j x))
      (λ q. let k = links_first j x y s (eqb-false x y q) in rw k.2 (not_above n j x k.0 k.3)))

  first_zero : (x y : ℕ) → same n zero x y ≡ true → first zero zero x y ≡ not (eqb x y)
  unfolding starts of_level
  first_zero x y s = cases (eqb x y)
      (λ q. let e = eqb-true x y q in rw (← e, links_here n x, eq-eqb x x refl))
      (λ q. rw (links_step n x y (eqb-false x y q), q, s))

  -- how many routes from x in its DCell of level l begin at level i
  abbrev firsts : ℕ → ℕ → ℕ → ℕ
  firsts i l x = around n l x (λ y. one (first i l x y))

  firsts_up : (i j x : ℕ) → i ≤ j → firsts i (suc j) x ≡ firsts i j x * (t n j + 1)
  firsts_up i j x h =
      around_split n j x (λ y. one (first i (suc j) x y)) (λ y. one (first i j x y)) (λ y u a. ap one (first_apart i j x y h (crossing n j x y u a)))
      ∙ ap (λ (m : ℕ). m + t n j * firsts i j x) (around_ext n j x (λ y. one (first i (suc j) x y)) (λ y. one (first i j x y))
      (λ y s. ap (λ (r : List (ℕ × ℕ)). one (starts (of_level n i) r)) (links_same n j x y s)))
      ∙ omega arith

  firsts_raised : (i d x : ℕ) → firsts i (i + d) x ≡ firsts i i x * product (g n) i d
  unfolding product
  firsts_raised i zero x = rw (add-zero i) (omega arith)
  firsts_raised i (suc d) x =
      let e : g n (suc (i + d)) ≡ t n (i + d) + 1 = unfold g in refl in
      rw (add-suc i d, e) (firsts_up i (i + d) x (omega arith) ∙ ap (λ (m : ℕ). m * (t n (i + d) + 1)) (firsts_raised i d x) ∙ omega arith)

  module _ (pos : 0 < n) where
    -- at its own level: the servers of the one sub-cell behind the port, and on the switch all but x
    firsts_top : (j x : ℕ) → firsts (suc j) (suc j) x ≡ t n j
    firsts_top j x =
        around_split n j x (λ y. one (first (suc j) (suc j) x y)) (λ y. one (eqb x y)) (λ y u a. ap one (first_top j x y (crossing n j x y u a)))
        ∙ ap₂ ◌+◌ (around_ext n j x (λ y. one (first (suc j) (suc j) x y)) (λ _. 0) (λ y s. unfold one in (rw (first_low j x y s))) ∙ around_const n j x 0)
        (ap (λ (m : ℕ). t n j * m) (around_self n pos j x))
        ∙ omega arith

    firsts_zero : (x : ℕ) → firsts zero zero x ≡ n - 1
    firsts_zero x = around_ext n zero x (λ y. one (first zero zero x y)) (λ y. one (not (eqb x y))) (λ y s. ap one (first_zero x y s)) ∙ around_others n pos x

    -- the same of the hall, with routes as they are written
    begins_firsts : (k i d x : ℕ) → i + d ≡ k → x < t n k → begins n k x i ≡ firsts i i x * product (g n) i d
    unfolding begins
    begins_firsts k i d x e h =
        sum_ext (λ y. one (starts (of_level n i) (hops (route n k x y)))) (λ y. one (first i k x y)) (t n k)
        (λ y hy. ap (λ (r : List (ℕ × ℕ)). one (starts (of_level n i) r)) (sym (links_hops n k x y (hall_same n pos k x y h hy))))
        ∙ sym (around_hall n k x (λ y. one (first i k x y)) h)
        ∙ ap (λ (l : ℕ). firsts i l x) (sym e)
        ∙ firsts_raised i d x

    -- what each port of a server begins
    pub port_begins : (k i x : ℕ) → i ≤ k → x < t n k → begins n k x i ≡ share n k i
    unfolding share
    port_begins k zero x l h = begins_firsts k zero k x (omega arith) h ∙ ap (λ (m : ℕ). m * product (g n) 0 k) (firsts_zero x)
    port_begins k (suc a) x l h =
        begins_firsts k (suc a) (k - suc a) x (omega arith) h ∙ ap (λ (m : ℕ). m * product (g n) (suc a) (k - suc a)) (firsts_top a x)
