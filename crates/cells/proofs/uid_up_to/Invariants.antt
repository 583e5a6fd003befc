-- `cells::uid_up_to` meets its contract: the sum so far is the uid up to level i, which is below t(i).
use mathlib.Core.Path.{◌≡◌}
use Rattle.hall.specs.Cells.{t}
use Rattle.hall.specs.Tuples.{uid_up_to}
use Rattle.cells.proofs.uid_up_to.Given as goal

abbrev pub invariant-loop-entry : goal.invariant-loop-entry
invariant-loop-entry l = (l.s ≡ t l.n l.entry-index) × (l.uid ≡ uid_up_to l.n l.entry-index l.fn.entries)
