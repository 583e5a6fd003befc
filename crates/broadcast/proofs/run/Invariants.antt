-- `broadcast::run` meets its contract: before round r the room begins with the marks before round r, and a round that reaches nobody is the last.
use mathlib.Core.Path.{◌≡◌}
use mathlib.Core.List.{◌++◌}
use lib.ListN.{drop}
use Rattle.ports.specs.Links.{joined}
use Rattle.search.specs.Rounds.{marks}
use Rattle.broadcast.specs.Broadcasts.{none}
use Rattle.broadcast.proofs.run.Given as goal

abbrev pub invariant-loop-r : goal.invariant-loop-r
invariant-loop-r l = l.room ≡ marks (joined l.h l.table l.scope) l.size none l.origin l.r ++ drop l.size l.initial.room
