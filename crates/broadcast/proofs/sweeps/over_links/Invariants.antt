-- `broadcast::sweeps::over_links` meets its contract: the loop has swept the servers that it has passed, and keeps the place of the next.
use mathlib.Core.Path.{◌≡◌}
use Rattle.broadcast.specs.Sweeps.{Sweep, reached_by, over_link, place_at}
use Rattle.broadcast.proofs.Marks.{below}
use Rattle.broadcast.proofs.sweeps.over_links.Given as goal

abbrev pub invariant-loop-x : goal.invariant-loop-x
invariant-loop-x l = (l.p ≡ place_at l.cell l.x) × Sweep (below (over_link l.h l.table (reached_by l.r l.initial.room) l.j) l.x) l.r l.initial.room l.room l.any
