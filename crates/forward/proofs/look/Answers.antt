-- `forward::look` meets its contract: it tells what the way on makes of the packet.
use Rattle.forward.specs.Inside.{outlook_of}
use Rattle.forward.proofs.look.Goals as goal

pub returns-then-share_cell : goal.returns-then-share_cell
unfolding outlook_of
returns-then-share_cell c =
    rw (← c.first_link-link.ensures, ← c.way_over.ensures, c.in-Unreached.is, ← c.share_cell.ensures, c.if-share_cell.true)

pub returns-in-To : goal.returns-in-To
unfolding outlook_of
returns-in-To c = rw (← c.first_link-link.ensures, ← c.way_over.ensures, c.in-To.is)

pub returns-in-Closed : goal.returns-in-Closed
unfolding outlook_of
returns-in-Closed c = rw (← c.first_link-link.ensures, ← c.way_over.ensures, c.in-Closed.is)

pub returns-else-share_cell : goal.returns-else-share_cell
unfolding outlook_of
returns-else-share_cell c =
    rw (← c.first_link-link.ensures, ← c.way_over.ensures, c.in-Unreached.is, ← c.share_cell.ensures, c.if-share_cell.false)
