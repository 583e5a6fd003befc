-- `hall::size` meets its contract: after j rounds s is the size of level j.
use mathlib.Core.Path.{◌≡◌}
use Rattle.hall.specs.Cells.{t}
use Rattle.hall.proofs.size.Given as goal

abbrev pub invariant-loop-j : goal.invariant-loop-j
invariant-loop-j l = l.s ≡ t l.n l._j
