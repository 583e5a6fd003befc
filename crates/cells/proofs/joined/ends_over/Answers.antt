-- `cells::joined::ends_over` meets its contract: both ends lie in the cell around x, and of sub-cells of no server nothing is left.
use mathlib.Core.Path.{◌≡◌}
use Prim.Native.Nat.{ℕ}
use native.Mathlib.Nat.{div-zero}
use Rattle.hall.specs.Cells.{port}
use Rattle.cells.specs.Answers.{ends_over}
use Rattle.cells.proofs.joined.ends_over.Goals as goal

nothing : (T x y : ℕ) → T ≡ 0 → record { near = 0; far = 0 } ≡ ends_over T x y
unfolding port
nothing T x y e = rw e (simp div-zero)

pub returns-then-size-eq0 : goal.returns-then-size-eq0
returns-then-size-eq0 c = nothing _ _ _ c.if-size-eq0.true
