-- A round in which nobody is new is the last: the next one reads the same servers as reached, so nobody is new in it either.
use mathlib.Core.Path.{◌≡◌, refl, ◌∙◌, ap, sym}
use mathlib.Core.Bool.{Bool, false}
use Prim.Native.Nat.{ℕ, zero, suc, ◌+◌, ◌-◌, ◌≤◌, ◌<◌}
use native.Mathlib.Nat.{add-zero, add-suc}
use native.Mathlib.Omega.{arith}
use lib.Dec.{eqb, leb}
use lib.ListN.{get_or}
use borrow.Author.Tests.{le-leb, lt-leb}
use Rattle.combine.specs.Tests.{both, any_below}
use Rattle.combine.proofs.Tests.{any_cong}
use Rattle.search.specs.Rounds.{leads, new, marks}
use Rattle.search.proofs.Rounds.{length-marks, round_still}
use Rattle.search.proofs.Least.{SoFar, unreached, reached, marks_right}

module _ (adj : ℕ → ℕ → Bool) (n none o : ℕ) (inside : o < n) where
  -- nobody is new in round r
  abbrev pub Idle : ℕ → Type 0
  Idle r = any_below (new adj n none r (marks adj n none o r)) n ≡ false

  pub idle_same : (r : ℕ) → Idle r → marks adj n none o (suc r) ≡ marks adj n none o r
  unfolding marks
  idle_same r e = round_still adj n none r (marks adj n none o r) (omega (arith, length-marks adj n none o r)) e

  -- a mark is at most r before round r, so that round r + 1 reads it no otherwise
  reads_same : (r : ℕ) → suc r < none → (y : ℕ) → y < n → leb (get_or (marks adj n none o r) y 0) (suc r) ≡ leb (get_or (marks adj n none o r) y 0) r
  reads_same r s y h = go (marks_right adj n none o inside r (omega arith) y h)
    where
      go : SoFar adj n none o r y (get_or (marks adj n none o r) y 0) → leb (get_or (marks adj n none o r) y 0) (suc r) ≡ leb (get_or (marks adj n none o r) y 0) r
      go (unreached e f) = rw (e, lt-leb none (suc r) s, lt-leb none r (omega arith))
      go (reached k m) = rw (le-leb (get_or (marks adj n none o r) y 0) (suc r) (omega arith), le-leb (get_or (marks adj n none o r) y 0) r k)

  pub idle_again : (r : ℕ) → suc r < none → Idle r → Idle (suc r)
  unfolding new
  idle_again r s e = rw (idle_same r e) (any_cong (new adj n none (suc r) (marks adj n none o r)) (new adj n none r (marks adj n none o r)) n (λ x h. again x) ∙ e)
    where
      again : (x : ℕ) → new adj n none (suc r) (marks adj n none o r) x ≡ new adj n none r (marks adj n none o r) x
      again x =
          ap (λ (b : Bool). both (eqb (get_or (marks adj n none o r) x 0) none) b)
          (any_cong (leads adj (suc r) (marks adj n none o r) x) (leads adj r (marks adj n none o r) x) n (λ y h. ap (λ (b : Bool). both b (adj y x)) (reads_same r s y h)))

  -- so the marks are the same from then on
  pub idle_ends : (r s : ℕ) → r ≤ s → s < none → Idle r → marks adj n none o s ≡ marks adj n none o r
  idle_ends r s h i e = let q : r + (s - r) ≡ s = omega arith in rw (sym q) (go (s - r) (omega arith)).0
    where
      go : (d : ℕ) → r + d < none → (marks adj n none o (r + d) ≡ marks adj n none o r) × Idle (r + d)
      go zero k = rw add-zero (refl, e)
      go (suc d) k =
          let w = go d (omega arith) in
          rw add-suc (idle_same (r + d) w.1 ∙ w.0, idle_again (r + d) (omega arith) w.1)
