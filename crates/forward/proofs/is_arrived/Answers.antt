-- `forward::is_arrived` meets its contract, test by test.
use borrow.Author.Tests.{not-true, not-false}
use Rattle.forward.specs.Packets.{is_arrived}
use Rattle.forward.proofs.is_arrived.Goals as goal

pub returns-then-not-p : goal.returns-then-not-p
unfolding is_arrived
returns-then-not-p c = rw (not-true c.args.p.has_proxy c.if-not-p.true)

pub returns : goal.returns
unfolding is_arrived
returns c = rw (not-false c.args.p.has_proxy c.if-not-p.false)
