-- `broadcast::clear` meets its contract: what the loop has passed is cleared, and the rest is as it was.
use Rattle.std.proofs.Common.{◌≡◌, ◌++◌, drop, replicate}
use Rattle.broadcast.specs.Broadcasts.{none}
use Rattle.broadcast.proofs.clear.Given as goal

abbrev pub invariant-loop-x : goal.invariant-loop-x
invariant-loop-x l = l.x-items ≡ replicate l.x-index none ++ drop l.x-index l.initial.x-items
