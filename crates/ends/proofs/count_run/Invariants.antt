-- `ends::count_run` meets its contract: after d turns the codes of the first d ports are as they count and those of the others as lent, and all
-- together they are the run.
use mathlib.Core.Path.{◌≡◌}
use Rattle.local.specs.Local.{cell_size, first_of}
use Rattle.ends.specs.Filling.{layered}
use Rattle.ends.proofs.Counts.{code_above}
use Rattle.ends.proofs.count_run.Given as goal

abbrev pub invariant-loop-d : goal.invariant-loop-d
invariant-loop-d l = (l.room ≡ layered l.initial.room l.at l.ports (code_above l.h (first_of l.h l.uid) l.lowest l.ports l.initial.room l.at) (cell_size l.h) l.d)
