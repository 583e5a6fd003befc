-- `broadcast::sweeps::over_switches` meets its contract: the loop has swept the switches that it has passed.
use Prim.Native.Nat.{◌*◌}
use Rattle.broadcast.specs.Sweeps.{Sweep, reached_by, on_switches}
use Rattle.broadcast.proofs.sweeps.over_switches.Given as goal

abbrev pub invariant-loop-s : goal.invariant-loop-s
invariant-loop-s l = Sweep (on_switches l.h l.table (reached_by l.r l.initial.room) (l.s * l.h.n)) l.r l.initial.room l.room l.any
