-- `plan::first_fitted` meets its contract: level 2, every level but 3, and level 3.
use mathlib.Core.Path.{◌≡◌}
use mathlib.Core.Bool.{true, false}
use Prim.Native.Nat.{ℕ, ◌+◌, ◌*◌}
use lib.Dec.{leb}
use borrow.Author.Tests.{eq-eqb, ne_eqb}
use Rattle.hall.proofs.Racks.{one_is}
use Rattle.plan.specs.Answers.{first_fitted}
use Rattle.plan.proofs.first_fitted.Goals as goal

level_two : (n k count : ℕ) → k ≡ 2 → true ≡ first_fitted n k count
unfolding first_fitted
level_two n k count e = rw (eq-eqb k 2 e)

other_level : (n k count : ℕ) → (k ≡ 2 → ⊥) → (k ≡ 3 → ⊥) → false ≡ first_fitted n k count
unfolding first_fitted
other_level n k count d e = rw (ne_eqb k 2 d, ne_eqb k 3 e)

level_three : (n k count : ℕ) → (k ≡ 2 → ⊥) → k ≡ 3 → leb (((n + 1) * n + 1) * ((n + 1) * n + 1)) count ≡ first_fitted n k count
unfolding first_fitted
level_three n k count d e = rw (ne_eqb k 2 d, eq-eqb k 3 e, one_is n)

pub returns-then-k-eq2 : goal.returns-then-k-eq2
returns-then-k-eq2 c = level_two _ _ _ c.if-k-eq2.true

pub returns-then-k-ne3 : goal.returns-then-k-ne3
returns-then-k-ne3 c = other_level _ _ _ c.if-k-eq2.false c.if-k-ne3.true

pub returns : goal.returns
returns c = level_three _ _ _ c.if-k-eq2.false c.if-k-ne3.false
