-- `frame::addresses::is_server` meets its contract: it makes the definition's test.
use Rattle.std.proofs.Common.{refl}
use Rattle.frame.specs.Addresses.{server}
use Rattle.frame.proofs.addresses.is_server.Goals as goal

pub returns : goal.returns
unfolding server
returns c = refl
