-- `local::distances_from` meets its contract. The loop's invariant: the record holds the marks before round r, and none behind the cell.
use mathlib.Core.Path.{◌≡◌}
use mathlib.Core.List.{◌++◌}
use Prim.Native.Nat.{◌-◌}
use lib.ListN.{replicate}
use Rattle.search.specs.Rounds.{marks}
use Rattle.local.specs.Local.{places, none, cell_size, linked}
use Rattle.local.proofs.distances_from.Given as goal

abbrev pub invariant-loop-r : goal.invariant-loop-r
invariant-loop-r l = l.d ≡ marks (linked l.h l.table) (cell_size l.h) none l.o l.r ++ replicate (places - cell_size l.h) none
