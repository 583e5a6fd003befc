-- What a loop over the rounds cites: it holds the marks before each round with a tail behind them, and a round that reaches nobody ends it.
use mathlib.Core.Path.{◌≡◌, ◌∙◌, ap, sym}
use mathlib.Core.Bool.{Bool, false}
use mathlib.Core.List.{List, ◌++◌}
use Prim.Native.Nat.{ℕ, suc, ◌+◌, ◌<◌}
use native.Mathlib.Numerals.{add-one}
use native.Mathlib.Omega.{arith}
use Rattle.combine.specs.Tests.{any_below}
use Rattle.search.specs.Rounds.{new, round, marks, distances}
use Rattle.search.proofs.Rounds.{length-marks, marks_more, tail_round, tail_any}
use Rattle.search.proofs.Stops.{idle_same, idle_ends}

module _ (adj : ℕ → ℕ → Bool) (n none o : ℕ) (tail : List ℕ) (r : ℕ) (held then : List ℕ)
    (holds : held ≡ marks adj n none o r ++ tail) (goes : then ≡ round adj n none r held) where
  -- a round more
  pub loop_more : then ≡ marks adj n none o (r + 1) ++ tail
  loop_more =
      goes ∙ ap (λ (l : List ℕ). round adj n none r l) holds
      ∙ tail_round adj n none (marks adj n none o r) tail (length-marks adj n none o r) r
      ∙ ap (λ (l : List ℕ). l ++ tail) (sym (marks_more adj n none o r))

  -- nobody is new: these are the distances
  pub loop_idle : o < n → n < none → r < n → any_below (new adj n none r held) n ≡ false → then ≡ distances adj n none o ++ tail
  loop_idle inside small below idle =
      let still : any_below (new adj n none r (marks adj n none o r)) n ≡ false =
      sym (tail_any adj n none (marks adj n none o r) tail (length-marks adj n none o r) r)
      ∙ ap (λ (l : List ℕ). any_below (new adj n none r l) n) (sym holds) ∙ idle in
      let last : marks adj n none o (suc r) ≡ marks adj n none o n =
      idle_same adj n none o inside r still ∙ sym (idle_ends adj n none o inside r n (omega arith) small still) in
      loop_more ∙ ap (λ (k : ℕ). marks adj n none o k ++ tail) (add-one r) ∙ ap (λ (l : List ℕ). l ++ tail) last
