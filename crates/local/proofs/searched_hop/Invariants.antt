-- `local::searched_hop` meets its contract. The loop's invariant: the record holds the marks before round r, none behind the cell, and round r
-- does not reach x.
use mathlib.Core.Path.{◌≡◌}
use mathlib.Core.Bool.{false}
use mathlib.Core.List.{◌++◌}
use Prim.Native.Nat.{suc, ◌-◌}
use lib.ListN.{replicate}
use Rattle.search.specs.Rounds.{marks}
use Rattle.search.specs.Reach.{reach}
use Rattle.local.specs.Local.{places, none, cell_size, linked}
use Rattle.local.proofs.searched_hop.Given as goal

abbrev pub invariant-loop-round : goal.invariant-loop-round
invariant-loop-round l = (l.d ≡ marks (linked l.h l.table) (cell_size l.h) none l.y l.round ++ replicate (places - cell_size l.h) none) × (reach (linked l.h l.table) (cell_size l.h) l.y (suc l.round) l.x ≡ false)
