-- Reading the list that a loop has filled up to a place: what it wrote in front, the old list behind.
use mathlib.Core.Path.{◌≡◌, ◌∙◌, ap}
use mathlib.Core.List.{List, ◌++◌}
use Prim.Native.Nat.{ℕ, ◌+◌, ◌-◌, ◌≤◌, ◌<◌}
use native.Mathlib.Omega.{arith}
use lib.ListN.{length, get_or, drop, get_or-append}
use lib.Seq.{get_or-append-add, get_or-drop}
use Rattle.combine.specs.Lists.{up_to}
use Rattle.combine.proofs.Lists.{length-up_to, get_or-up_to}

module _ (f : ℕ → ℕ) (old : List ℕ) (x y : ℕ) where
  pub filled_front : y < x → get_or (up_to f x ++ drop x old) y 0 ≡ f y
  filled_front h = get_or-append (up_to f x) (drop x old) 0 y (omega (arith, length-up_to f x)) ∙ get_or-up_to f x y 0 h

  pub filled_behind : x ≤ y → get_or (up_to f x ++ drop x old) y 0 ≡ get_or old y 0
  filled_behind h =
      let e : y ≡ length (up_to f x) + (y - x) = omega (arith, length-up_to f x) in
      let k : x + (y - x) ≡ y = omega arith in
      ap (λ (i : ℕ). get_or (up_to f x ++ drop x old) i 0) e
      ∙ get_or-append-add (up_to f x) (drop x old) (y - x) 0
      ∙ get_or-drop x old (y - x) 0
      ∙ ap (λ (i : ℕ). get_or old i 0) k
