-- `broadcast::sweeps::is_reached` meets its contract: it asks both numbers and both ports in turn.
use borrow.Author.Tests.{eq-eqb, ne_eqb, le-leb, lt-leb}
use Rattle.ports.specs.Links.{both_up}
use Rattle.broadcast.specs.Sweeps.{fresh}
use Rattle.broadcast.proofs.sweeps.is_reached.Goals as goal

pub returns-then-room-at : goal.returns-then-room-at
unfolding fresh
returns-then-room-at c = rw (ne_eqb _ _ c.if-room-at.true)

pub returns-then-r-room : goal.returns-then-r-room
unfolding fresh
returns-then-r-room c = rw (eq-eqb _ _ c.if-room-at.false, lt-leb _ _ c.if-r-room.true)

pub returns-then-not-is_up : goal.returns-then-not-is_up
unfolding fresh both_up
returns-then-not-is_up c =
    let u = c.is_up in
    rw (eq-eqb _ _ c.if-room-at.false, le-leb _ _ c.if-r-room.false, ← u.ensures, c.if-not-is_up.true)

pub returns : goal.returns
unfolding fresh both_up
returns c =
    let u = c.is_up in
    rw (eq-eqb _ _ c.if-room-at.false, le-leb _ _ c.if-r-room.false, ← u.ensures, c.if-not-is_up.false) c.is_up-2.ensures
