-- `local::both_up` meets its contract: one port that is not up is enough to refuse.
use Rattle.ports.specs.Links.{both_up}
use Rattle.local.proofs.both_up.Goals as goal

pub returns-then-not-is_up : goal.returns-then-not-is_up
unfolding both_up
returns-then-not-is_up c = let f = c.is_up in rw (← f.ensures, c.if-not-is_up.true)

pub returns : goal.returns
unfolding both_up
returns c = let f = c.is_up in rw (← f.ensures, c.if-not-is_up.false) c.is_up-2.ensures
