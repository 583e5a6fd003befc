-- `broadcast::sweeps::is_open` meets its contract: it asks the number and the port in turn.
use borrow.Author.Tests.{eq-eqb, ne_eqb}
use Rattle.broadcast.specs.Sweeps.{fresh}
use Rattle.broadcast.proofs.sweeps.is_open.Goals as goal

pub returns-then-room-at : goal.returns-then-room-at
unfolding fresh
returns-then-room-at c = rw (ne_eqb _ _ c.if-room-at.true)

pub returns : goal.returns
unfolding fresh
returns c = rw (eq-eqb _ _ c.if-room-at.false) c.is_up.ensures
