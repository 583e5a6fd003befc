-- `cells::joined::first_over` meets its contract: the cell of (T + 1) * T servers is read off the sub-cell's number by one division.
use mathlib.Core.Path.{◌≡◌, ap}
use Prim.Native.Nat.{ℕ, ◌+◌, ◌*◌, ◌/◌}
use Rattle.hall.specs.Cells.{first_over}
use Rattle.cells.proofs.Wide.{cell_over}
use Rattle.cells.proofs.joined.first_over.Goals as goal

first_is : (T u : ℕ) → u / T / (T + 1) * ((T + 1) * T) ≡ first_over T u
first_is T u = ap (λ (k : ℕ). k * ((T + 1) * T)) (cell_over T u)

pub returns : goal.returns
returns c = first_is c.args.size c.args.uid
