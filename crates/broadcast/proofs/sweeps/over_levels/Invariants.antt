-- `broadcast::sweeps::over_levels` meets its contract: the loop has swept the links of the levels that it has passed.
use mathlib.Core.Path.{◌≡◌}
use Rattle.hall.specs.Cells.{t}
use Rattle.broadcast.specs.Sweeps.{Sweep, reached_by, on_levels}
use Rattle.broadcast.proofs.sweeps.over_levels.Given as goal

abbrev pub invariant-loop-j : goal.invariant-loop-j
invariant-loop-j l = (l.cell ≡ t l.h.n l.j) × Sweep (on_levels l.h l.table (reached_by l.r l.initial.room) l.size l.j) l.r l.initial.room l.room l.any
