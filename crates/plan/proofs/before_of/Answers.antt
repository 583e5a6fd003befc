-- `plan::before_of` meets its contract.
use mathlib.Core.Path.{◌≡◌, sym, ap, ◌∙◌}
use Prim.Native.Nat.{ℕ, ◌+◌, ◌*◌, ◌-◌, ◌<◌}
use native.Mathlib.Omega.{arith}
use lib.Arith.{digits_lt}
use borrow.Author.Rules.{rules}
use Rattle.plan.specs.Plan.{before}
use Rattle.plan.proofs.Index.{grow, before_first, before_mid, before_high}
use Rattle.plan.proofs.before_of.Goals as goal

-- the largest of the second phase
top : (g r q i : ℕ) → 0 < r → 0 < i → i < r → q < g → g + (q * (r - 1) + (i - 1)) < g * r
top g r q i p z h k = let d : i - 1 < r - 1 = omega arith in omega (arith, grow g r p, digits_lt {q = q} {m = g} k d)

second : (g r q i : ℕ) → 0 < r → 0 < i → q < g → g + (q * (r - 1) + (i - 1)) ≡ before g r q i
second g r q i p z k = let e : i - 1 + 1 ≡ i = omega arith in sym (before_mid g r p q (i - 1) k) ∙ ap (before g r q) e

first : (g r q i : ℕ) → 0 < r → i ≡ 0 → q < g → q ≡ before g r q i
first g r q i p z k = rw z (sym (before_first g r p q k))

pub returns-then-i-eq0 : goal.returns-then-i-eq0
returns-then-i-eq0 c = let a = c.args in first a.g a.r a.q a.i (omega arith) (omega arith) (omega arith)

pub overflow_add-result-then-q-g : goal.overflow_add-result-then-q-g
overflow_add-result-then-q-g c = let a = c.args in let h = top a.g a.r a.q a.i (omega arith) (omega arith) (omega arith) (omega arith) in search rules

pub returns-then-q-g : goal.returns-then-q-g
returns-then-q-g c = let a = c.args in second a.g a.r a.q a.i (omega arith) (omega arith) (omega arith)

pub returns : goal.returns
returns c = let a = c.args in sym (before_high a.g a.r (omega arith) a.q a.i (omega arith))
