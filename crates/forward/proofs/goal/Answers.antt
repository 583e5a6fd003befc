-- `forward::goal` meets its contract: its one test is the definition's.
use Rattle.forward.specs.Packets.{goal}
use Rattle.forward.proofs.goal.Goals as goal

pub returns-then-p : goal.returns-then-p
unfolding goal
returns-then-p c = rw c.if-p.true

pub returns : goal.returns
unfolding goal
returns c = rw c.if-p.false
