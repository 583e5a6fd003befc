-- `frame::addresses::is_broadcast` meets its contract: each return has the test that decides.
use Rattle.std.proofs.Common.{le-leb}
use borrow.Author.Tests.{lt-leb}
use Rattle.frame.specs.Addresses.{broadcast}
use Rattle.frame.proofs.addresses.is_broadcast.Goals as goal

pub returns-then-address-lt-TOP_BIT : goal.returns-then-address-lt-TOP_BIT
unfolding broadcast
returns-then-address-lt-TOP_BIT c = rw (lt-leb 2147483648 _ c.if-address-lt-TOP_BIT.true)

pub returns : goal.returns
unfolding broadcast
returns c = rw (le-leb 2147483648 _ c.if-address-lt-TOP_BIT.false)
