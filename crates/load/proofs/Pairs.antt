-- Sums over all ordered pairs of a DCell of something that a route has. One level up, a route of a sub-cell is taken once for its own two
-- ends, as the way to a near end for each of the t servers behind it, and as the way from a far end for each of the t servers there.
use mathlib.Core.Path.{◌≡◌, sym, ◌∙◌, ap, ap₂}
use mathlib.Core.Bool.{true, false}
use Prim.Native.Nat.{ℕ, suc, ◌+◌, ◌*◌, ◌<◌}
use native.Mathlib.Omega.{arith}
use Rattle.combine.specs.Tests.{pick}
use Rattle.combine.proofs.Tests.{cases, never}
use Rattle.sums.specs.Sums.{sum}
use Rattle.sums.proofs.Sums.{sum_ext}
use Rattle.hall.specs.Cells.{t, same, sub, near, far}
use Rattle.hall.proofs.Cells.{Crossing, crossing, same_eq, same_sym, same_trans, end_cells}
use Rattle.load.proofs.Around.{around, around_hall, around_ext, around_const, around_left, around_times, around_add, around_swap, around_split, around_inside, around_cells}

-- the sum of f over all ordered pairs of the DCell of level l around u
abbrev pub pairs : ℕ → ℕ → ℕ → (ℕ → ℕ → ℕ) → ℕ
pairs n l u f = around n l u (λ x. around n l u (f x))

pub pairs_ext : (n l u : ℕ) (f h : ℕ → ℕ → ℕ) → ((x y : ℕ) → same n l u x ≡ true → same n l u y ≡ true → f x y ≡ h x y) → pairs n l u f ≡ pairs n l u h
pairs_ext n l u f h e = around_ext n l u (λ x. around n l u (f x)) (λ x. around n l u (h x)) (λ x s. around_ext n l u (f x) (h x) (λ y k. e x y s k))

pub pairs_add : (n l u : ℕ) (f h : ℕ → ℕ → ℕ) → pairs n l u (λ x y. f x y + h x y) ≡ pairs n l u f + pairs n l u h
pairs_add n l u f h =
    around_ext n l u (λ x. around n l u (λ y. f x y + h x y)) (λ x. around n l u (f x) + around n l u (h x)) (λ x _. around_add n l u (f x) (h x))
    ∙ around_add n l u (λ x. around n l u (f x)) (λ x. around n l u (h x))

-- a sum of products
pub pairs_grid : (n l u : ℕ) (f h : ℕ → ℕ) → pairs n l u (λ x y. f x * h y) ≡ around n l u f * around n l u h
pairs_grid n l u f h =
    around_ext n l u (λ x. around n l u (λ y. f x * h y)) (λ x. around n l u h * f x) (λ x _. around_times n l u (f x) h ∙ omega arith)
    ∙ around_times n l u (around n l u h) f
    ∙ omega arith

-- over the pairs inside each sub-cell: where only those in that of u count, and where each sub-cell has the same sum
pub pairs_inside : (n j u : ℕ) (f : ℕ → ℕ → ℕ) → ((x z : ℕ) → same n j x z ≡ true → same n j u x ≡ false → f x z ≡ 0)
    → around n (suc j) u (λ x. around n j x (f x)) ≡ pairs n j u f
pairs_inside n j u f h =
    around_inside n j u (λ x. around n j x (f x))
    (λ x _ a. around_ext n j x (f x) (λ _. 0) (λ z s. h x z s a) ∙ around_const n j x 0 ∙ omega arith)
    ∙ around_ext n j u (λ x. around n j x (f x)) (λ x. around n j u (f x)) (λ x s. around_left n j u x (f x) s)

pub pairs_cells : (n j u c : ℕ) (f : ℕ → ℕ → ℕ) → 0 < n → ((x : ℕ) → pairs n j x f ≡ c) → around n (suc j) u (λ x. around n j x (f x)) ≡ (t n j + 1) * c
pairs_cells n j u c f pos h = around_cells n pos j u c (λ x. around n j x (f x))
    (λ x. around_ext n j x (λ z. around n j z (f z)) (λ z. around n j x (f z)) (λ z s. around_left n j x z (f z) s) ∙ h x)

-- over all ordered pairs of servers: the hall is one DCell
pub pairs_hall : (n k u : ℕ) (f h : ℕ → ℕ → ℕ) → u < t n k → ((x y : ℕ) → x < t n k → y < t n k → f x y ≡ h x y)
    → sum (λ x. sum (f x) (t n k)) (t n k) ≡ pairs n k u h
pairs_hall n k u f h l e =
    sum_ext (λ x. sum (f x) (t n k)) (λ x. around n k u (h x)) (t n k)
    (λ x hx. sum_ext (f x) (h x) (t n k) (λ y hy. e x y hx hy) ∙ sym (around_hall n k u (h x) l))
    ∙ sym (around_hall n k u (λ x. around n k u (h x)) l)

module _ (n j : ℕ) where
  -- the far end for x and y is the near end for y and x
  far_near : (x y : ℕ) → same n (suc j) y x ≡ true → far n j x y ≡ near n j y x
  unfolding far near
  far_near x y s = end_cells n j x (sub n j y) (sub n j x) ∙ rw (← same_eq n (suc j) y x s) (sym (end_cells n j y (sub n j y) (sub n j x)))

  pub apart_sym : (x y : ℕ) → same n j y x ≡ false → same n j x y ≡ false
  apart_sym x y a = cases (same n j x y) (λ k. never (same_sym n j x y k) a) (λ k. k)

  -- f is of the routes at level suc j, h of those at level j, and the link between two sub-cells adds c
  module _ (f h : ℕ → ℕ → ℕ) (c : ℕ) (inside : (x y : ℕ) → same n j x y ≡ true → f x y ≡ h x y)
      (between : (x y : ℕ) → Crossing n j x y → f x y ≡ h x (near n j x y) + h (far n j x y) y + c) where
    -- what lies in the sub-cell of x: the whole route, or the way to the near end
    leaving : ℕ → ℕ → ℕ
    leaving x y = pick (same n j x y) (h x y) (h x (near n j x y))

    -- what lies in that of y, where it is another, and the link between them
    arriving : ℕ → ℕ → ℕ
    arriving x y = pick (same n j x y) 0 (h (far n j x y) y)

    linking : ℕ → ℕ → ℕ
    linking x y = pick (same n j x y) 0 c

    parts : (x y : ℕ) → same n (suc j) x y ≡ true → f x y ≡ leaving x y + (arriving x y + linking x y)
    unfolding leaving arriving linking
    parts x y s = cases (same n j x y)
        (λ k. rw k (inside x y k ∙ omega arith))
        (λ k. rw k (between x y (crossing n j x y s k) ∙ omega arith))

    -- from one x to all, and from all to one y
    leaving_all : (x : ℕ) → around n (suc j) x (leaving x) ≡ (t n j + 1) * around n j x (h x)
    unfolding leaving
    leaving_all x =
        around_split n j x (leaving x) (h x) (λ y _ a. rw a)
        ∙ ap (λ (m : ℕ). m + t n j * around n j x (h x)) (around_ext n j x (leaving x) (h x) (λ y s. rw s))
        ∙ omega arith

    arriving_all : (y : ℕ) → around n (suc j) y (λ x. arriving x y) ≡ t n j * around n j y (λ z. h z y)
    unfolding arriving
    arriving_all y =
        around_split n j y (λ x. arriving x y) (λ z. h z y) (λ x s a. rw (apart_sym x y a, far_near x y s))
        ∙ ap (λ (m : ℕ). m + t n j * around n j y (λ z. h z y))
        (around_ext n j y (λ x. arriving x y) (λ _. 0) (λ x s. rw (same_sym n j y x s)) ∙ around_const n j y 0)
        ∙ omega arith

    linking_all : (x : ℕ) → around n (suc j) x (linking x) ≡ t n j * (t n j * c)
    unfolding linking
    linking_all x =
        around_split n j x (linking x) (λ _. c) (λ y _ a. rw a)
        ∙ ap₂ (λ (m k : ℕ). m + t n j * k) (around_ext n j x (linking x) (λ _. 0) (λ y s. rw s) ∙ around_const n j x 0) (around_const n j x c)
        ∙ omega arith

    -- over all pairs
    module _ (u : ℕ) where
      pairs_leaving : pairs n (suc j) u leaving ≡ (t n j + 1) * around n (suc j) u (λ x. around n j x (h x))
      pairs_leaving =
          around_ext n (suc j) u (λ x. around n (suc j) u (leaving x)) (λ x. (t n j + 1) * around n j x (h x))
          (λ x s. sym (around_left n (suc j) u x (leaving x) s) ∙ leaving_all x)
          ∙ around_times n (suc j) u (t n j + 1) (λ x. around n j x (h x))

      pairs_arriving : pairs n (suc j) u arriving ≡ t n j * around n (suc j) u (λ y. around n j y (λ z. h z y))
      pairs_arriving =
          around_swap n (suc j) u arriving
          ∙ around_ext n (suc j) u (λ y. around n (suc j) u (λ x. arriving x y)) (λ y. t n j * around n j y (λ z. h z y))
          (λ y s. sym (around_left n (suc j) u y (λ x. arriving x y) s) ∙ arriving_all y)
          ∙ around_times n (suc j) u (t n j) (λ y. around n j y (λ z. h z y))

      pairs_linking : pairs n (suc j) u linking ≡ t n (suc j) * (t n j * (t n j * c))
      pairs_linking =
          around_ext n (suc j) u (λ x. around n (suc j) u (linking x)) (λ _. t n j * (t n j * c))
          (λ x s. sym (around_left n (suc j) u x (linking x) s) ∙ linking_all x)
          ∙ around_const n (suc j) u (t n j * (t n j * c))

      pub pairs_up : pairs n (suc j) u f ≡ (t n j + 1) * around n (suc j) u (λ x. around n j x (h x))
          + (t n j * around n (suc j) u (λ y. around n j y (λ z. h z y)) + t n (suc j) * (t n j * (t n j * c)))
      pairs_up =
          pairs_ext n (suc j) u f (λ x y. leaving x y + (arriving x y + linking x y))
          (λ x y s k. parts x y (same_trans n (suc j) x u y (same_sym n (suc j) u x s) k))
          ∙ pairs_add n (suc j) u leaving (λ x y. arriving x y + linking x y)
          ∙ ap₂ ◌+◌ pairs_leaving (pairs_add n (suc j) u arriving linking ∙ ap₂ ◌+◌ pairs_arriving pairs_linking)
