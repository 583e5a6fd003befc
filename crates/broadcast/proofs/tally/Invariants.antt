-- `broadcast::tally` meets its contract: the loop has counted the numbers that it has passed.
use mathlib.Core.Path.{◌≡◌}
use Prim.Native.Nat.{◌≤◌}
use Rattle.search.specs.Rounds.{reached_count, last_round}
use Rattle.broadcast.specs.Broadcasts.{none}
use Rattle.broadcast.proofs.tally.Given as goal

abbrev pub invariant-loop-number : goal.invariant-loop-number
invariant-loop-number l = (l.reached ≤ l.number-index) × (l.reached ≡ reached_count none l.room l.number-index) × (l.last ≡ last_round none l.room l.number-index)
