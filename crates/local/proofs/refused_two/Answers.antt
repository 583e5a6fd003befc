-- `local::refused_two` meets its contract: what is refused of the first uid is refused, else the second decides.
use Rattle.hall.proofs.Stated.{number_not_zero, handed}
use Rattle.local.proofs.Asks.{refuses_first, refuses_second, refuses_neither}
use Rattle.local.proofs.refused_two.Goals as goal

pub returns-in_err-refused_among : goal.returns-in_err-refused_among
returns-in_err-refused_among c =
    rw (handed _ c.from_residual.ensures) (refuses_first _ _ _ _ _ c.in_err-refused_among.ensures (number_not_zero _))

pub returns-then-servers-target : goal.returns-then-servers-target
returns-then-servers-target c = refuses_second _ _ _ _ c.in_ok-refused_among.ensures _ c.servers_of-servers.ensures c.if-servers-target.true

pub returns : goal.returns
returns c = refuses_neither _ _ _ _ c.in_ok-refused_among.ensures _ c.servers_of-servers.ensures c.if-servers-target.false
