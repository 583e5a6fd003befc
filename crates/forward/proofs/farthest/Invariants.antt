-- `forward::farthest` meets its contract: the most so far is at least each distance passed.
use Prim.Native.Nat.{ℕ, ◌≤◌, ◌<◌}
use lib.ListN.{get_or}
use Rattle.local.specs.Local.{none}
use Rattle.forward.proofs.farthest.Given as goal

abbrev pub invariant-loop-d : goal.invariant-loop-d
invariant-loop-d l = (l.most < none) × ((q : ℕ) → q < l.d-index → get_or l.distance q 0 < none → get_or l.distance q 0 ≤ l.most)
