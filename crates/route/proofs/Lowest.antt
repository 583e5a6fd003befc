-- The lowest level that holds two servers: it holds both, none below it does, and it is above b exactly where their DCells of
-- level b differ.
use mathlib.Core.Path.{◌≡◌, refl, sym, ◌∙◌, ap}
use mathlib.Core.Bool.{true, false, not}
use Prim.Native.Nat.{ℕ, zero, suc, ◌<◌, ◌≤◌}
use native.Mathlib.Omega.{arith}
use lib.Dec.{leb, ltb}
use borrow.Author.Tests.{leb-true, leb-false, lt-ltb, le-ltb}
use Rattle.combine.proofs.Tests.{cases, never}
use Rattle.hall.specs.Cells.{same, lowest}
use Rattle.hall.proofs.Cells.{same_mono, apart_mono}

module _ (n : ℕ) where
  pub lowest_same : (j x y : ℕ) → same n j x y ≡ true → lowest n (suc j) x y ≡ lowest n j x y
  unfolding lowest
  lowest_same j x y e = rw (e, lowest)

  pub lowest_apart : (j x y : ℕ) → same n j x y ≡ false → lowest n (suc j) x y ≡ suc j
  unfolding lowest
  lowest_apart j x y e = rw (e, lowest)

  pub lowest_zero : (x y : ℕ) → lowest n zero x y ≡ 0
  unfolding lowest
  lowest_zero x y = refl

  pub lowest_fits : (l x y : ℕ) → lowest n l x y ≤ l
  lowest_fits zero x y = omega (arith, lowest_zero x y)
  lowest_fits (suc j) x y = cases (same n j x y)
      (λ k. omega (arith, lowest_same j x y k, lowest_fits j x y))
      (λ k. omega (arith, lowest_apart j x y k))

  pub lowest_holds : (l x y : ℕ) → same n l x y ≡ true → same n (lowest n l x y) x y ≡ true
  lowest_holds zero x y s = rw (lowest_zero x y) s
  lowest_holds (suc j) x y s = cases (same n j x y)
      (λ k. rw (lowest_same j x y k) (lowest_holds j x y k))
      (λ k. rw (lowest_apart j x y k) s)

  pub lowest_least : (l x y i : ℕ) → i < lowest n l x y → same n i x y ≡ false
  lowest_least zero x y i h = absurd (omega (arith, lowest_zero x y))
  lowest_least (suc j) x y i h = cases (same n j x y)
      (λ k. lowest_least j x y i (omega (arith, lowest_same j x y k)))
      (λ k. apart_mono n {i = i} {j = j} x y (omega (arith, lowest_apart j x y k)) k)

  -- a level at which they meet and below which they do not is the lowest
  pub lowest_only : (l x y j : ℕ) → j < l → same n j x y ≡ false → same n (suc j) x y ≡ true → lowest n l x y ≡ suc j
  lowest_only l x y j h a s =
      cases (leb (lowest n l x y) j)
      (λ q. never (same_mono n {i = lowest n l x y} {j = j} x y (leb-true (lowest n l x y) j q) (lowest_holds l x y (same_mono n {i = suc j} {j = l} x y h s))) a)
      (λ q. cases (leb (lowest n l x y) (suc j))
      (λ r. let g = leb-false (lowest n l x y) j q in let k = leb-true (lowest n l x y) (suc j) r in omega arith)
      (λ r. never s (lowest_least l x y (suc j) (leb-false (lowest n l x y) (suc j) r))))

  -- and that of two servers of one switch is 0
  pub lowest_switch : (l x y : ℕ) → same n 0 x y ≡ true → lowest n l x y ≡ 0
  lowest_switch l x y s =
      cases (leb (lowest n l x y) 0)
      (λ e. omega (arith, leb-true (lowest n l x y) 0 e))
      (λ e. never s (lowest_least l x y 0 (leb-false (lowest n l x y) 0 e)))

  -- the lowest level is above b exactly where they are in two DCells of level b
  pub lowest_above : (l x y b : ℕ) → same n l x y ≡ true → ltb b (lowest n l x y) ≡ not (same n b x y)
  lowest_above l x y b s = cases (leb (lowest n l x y) b)
      (λ q. let h = leb-true (lowest n l x y) b q in
      le-ltb b (lowest n l x y) h ∙ sym (ap not (same_mono n {i = lowest n l x y} {j = b} x y h (lowest_holds l x y s))))
      (λ q. let h = leb-false (lowest n l x y) b q in
      lt-ltb b (lowest n l x y) h ∙ sym (ap not (lowest_least l x y b h)))
