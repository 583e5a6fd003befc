-- What `all` over a range finds, said of the numbers in it and not of their list.
use mathlib.Core.Path.{◌≡◌, refl, ◌∙◌, ap}
use mathlib.Core.Bool.{Bool, true}
use Prim.Native.Nat.{ℕ, zero, suc, ◌+◌, ◌<◌}
use native.Mathlib.Omega.{arith}
use lib.ListN.{get_or}
use Rattle.std.specs.List.{list_all, range_with_len}
use Rattle.std.proofs.lemmas.List.Folds.{list_all_at}
use Rattle.std.proofs.lemmas.List.FromFn.{length-range_with_len, get_or-range_with_len}
use Rattle.combine.specs.Tests.{all_below}
use Rattle.combine.proofs.Tests.{cases, never, both_ways, all_each, each_all}

module _ (p : ℕ → Bool) where
  range_passes : (a n : ℕ) → ((i : ℕ) → i < a + n → p i ≡ true) → list_all p (range_with_len a n) ≡ true
  range_passes a zero h = refl
  range_passes a (suc n) h = rw (h a (omega arith)) (range_passes (a + 1) n (λ i l. h i (omega arith)))

  place_passes : (n i : ℕ) → i < n → list_all p (range_with_len 0 n) ≡ true → p i ≡ true
  place_passes n i l e =
      let at : get_or (range_with_len 0 n) i 0 ≡ i = get_or-range_with_len 0 n i 0 l ∙ omega arith in
      cases (p i) (λ q. q)
      (λ q. never e (list_all_at p (range_with_len 0 n) i 0 (omega (arith, length-range_with_len 0 n)) (ap p at ∙ q)))

  pub all_range : (n : ℕ) → list_all p (range_with_len 0 n) ≡ all_below p n
  all_range n = both_ways _ _ (λ e. each_all p n (λ i l. place_passes n i l e)) (λ e. range_passes 0 n (λ i l. all_each p n e i (omega arith)))
