-- `broadcast::sweeps::fill_switch` meets its contract: the loop has swept the servers of the switch that it has passed.
use Rattle.broadcast.specs.Sweeps.{Sweep, open_on}
use Rattle.broadcast.proofs.Marks.{below}
use Rattle.broadcast.proofs.sweeps.fill_switch.Given as goal

abbrev pub invariant-loop-x : goal.invariant-loop-x
invariant-loop-x l = Sweep (below (open_on l.h l.table l.s) l.x) l.r l.initial.room l.room l.any
