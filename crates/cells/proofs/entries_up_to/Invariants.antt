-- `cells::entries_up_to` meets its contract: the places up to i hold their entries, the number of the cell of level i is what is left, and
-- the next entry is its remainder.
use mathlib.Core.Path.{◌≡◌}
use mathlib.Core.List.{List, ◌++◌}
use Prim.Native.Nat.{ℕ, ◌+◌}
use lib.ListN.{drop, replicate}
use Rattle.combine.specs.Lists.{up_to}
use Rattle.hall.specs.Cells.{t, cell}
use Rattle.hall.specs.Halls.{places}
use Rattle.hall.specs.Tuples.{entry_at}
use Rattle.cells.proofs.entries_up_to.Given as goal

-- the places below i are filled
abbrev pub Filled : ℕ → ℕ → ℕ → ℕ → List ℕ → Type 0
Filled n k u i a = a ≡ up_to (entry_at n k u) i ++ drop i (replicate places 0)

abbrev pub invariant-loop-i : goal.invariant-loop-i
invariant-loop-i l = (l.s ≡ t l.n l.i) × (l.cell ≡ cell l.n l.i l.uid) × Filled l.n l.k l.uid (l.i + 1) l.entries
