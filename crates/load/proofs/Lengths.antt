-- The loads add up: all links of all routes are t(k) times what one server's cable and links carry. Each level adds the link between
-- two sub-cells to the routes between them.
use mathlib.Core.Path.{◌≡◌, sym, ◌∙◌, ap, ap₂}
use mathlib.Core.Bool.{true, not}
use Prim.Native.Nat.{ℕ, zero, suc, ◌+◌, ◌-◌, ◌*◌, ◌<◌}
use native.Mathlib.Omega.{arith}
use lib.Dec.{eqb}
use lib.ListN.{length, length-append}
use borrow.Author.Tests.{eqb-true, eqb-false}
use Rattle.combine.proofs.Tests.{cases}
use Rattle.sums.specs.Sums.{sum, product, one}
use Rattle.hall.specs.Cells.{t, same, near, far}
use Rattle.hall.proofs.Cells.{Crossing, t_pos}
use Rattle.hall.proofs.Links.{hall_same}
use Rattle.route.specs.Routes.{route, links, hops}
use Rattle.route.proofs.Routes.{links_here, links_step, links_same, links_apart, links_hops}
use Rattle.load.specs.Counts.{all_links}
use Rattle.load.specs.Figures.{load, cable, loads}
use Rattle.load.proofs.Around.{around, around_ext, around_const, around_left, around_swap, around_others}
use Rattle.load.proofs.Figures.{loads_up}
use Rattle.load.proofs.Pairs.{pairs, pairs_cells, pairs_hall, pairs_up}

counted : (a w : ℕ) → (a + 1) * ((a + 1) * (a * w)) + (a * ((a + 1) * (a * w)) + (a + 1) * a * (a * (a * 1))) ≡ (a + 1) * a * ((2 * a + 1) * w + a * a)
counted a w = omega arith

module _ (n : ℕ) where
  -- the links of a route
  abbrev links_of_lem : ℕ → ℕ → ℕ → ℕ
  links_of_lem l x y = length (links n l x y)

  links_inside : (j x y : ℕ) → same n j x y ≡ true → links_of_lem (suc j) x y ≡ links_of_lem j x y
  links_inside j x y s = ap length (links_same n j x y s)

  links_between : (j x y : ℕ) → Crossing n j x y → links_of_lem (suc j) x y ≡ links_of_lem j x (near n j x y) + links_of_lem j (far n j x y) y + 1
  links_between j x y c = ap length (links_apart n j x y c.apart) ∙ simp length-append (omega arith)

  module _ (pos : 0 < n) where
    -- in a DCell0: one to each of the others
    lengths_zero : (u : ℕ) → pairs n zero u (links_of_lem zero) ≡ n * (n - 1)
    unfolding t one
    lengths_zero u =
        around_ext n zero u (λ x. around n zero u (links_of_lem zero x)) (λ _. n - 1)
        (λ x s. sym (around_left n zero u x (links_of_lem zero x) s)
        ∙ around_ext n zero x (links_of_lem zero x) (λ y. one (not (eqb x y))) (λ y _. cases (eqb x y)
        (λ q. rw (q, ← eqb-true x y q, links_here n x))
        (λ q. rw (q, links_step n x y (eqb-false x y q))))
        ∙ around_others n pos x)
        ∙ around_const n zero u (n - 1)

    lengths : (l u : ℕ) → pairs n l u (links_of_lem l) ≡ t n l * loads n l
    lengths zero u = lengths_zero u ∙ unfold t loads cable load product sum in (omega arith)
    lengths (suc j) u =
        pairs_up n j (links_of_lem (suc j)) (links_of_lem j) 1 (links_inside j) (links_between j) u
        ∙ ap₂ (λ (a b : ℕ). (t n j + 1) * a + (t n j * b + t n (suc j) * (t n j * (t n j * 1))))
        (pairs_cells n j u (t n j * loads n j) (links_of_lem j) pos (lengths j))
        (pairs_cells n j u (t n j * loads n j) (λ y z. links_of_lem j z y) pos (λ x. around_swap n j x (λ y z. links_of_lem j z y) ∙ lengths j x))
        ∙ unfold t in (rw (loads_up n j) (counted (t n j) (loads n j)))

    pub all_lengths : (k : ℕ) → all_links n k ≡ t n k * loads n k
    unfolding all_links
    all_lengths k =
        pairs_hall n k 0 (λ x y. length (hops (route n k x y))) (links_of_lem k) (t_pos n pos k)
        (λ x y hx hy. ap length (sym (links_hops n k x y (hall_same n pos k x y hx hy))))
        ∙ lengths k 0
