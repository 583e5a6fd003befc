-- `broadcast::clear` meets its contract: what the loop has passed is cleared, and the rest is as it was.
use Rattle.std.proofs.lemmas.List.Edits.{fill_more}
use Rattle.broadcast.specs.Broadcasts.{none}
use Rattle.broadcast.proofs.clear.Goals as goal

pub loop-x-preserved : goal.loop-x-preserved
loop-x-preserved c = rw c.loop-x.invariant (fill_more c.loop-x.x-index none _ c.loop-x-test.true)
