-- `local::on_switch` meets its contract: a server is not joined to itself, and two are on one switch where their DCell0s are one.
use Rattle.local.proofs.Linked.{switch_self, switch_cells}
use Rattle.local.proofs.on_switch.Goals as goal

pub returns-then-x-y : goal.returns-then-x-y
returns-then-x-y c = switch_self _ _ _ c.if-x-y.true

pub returns : goal.returns
returns c = let a = c.args in switch_cells a.n a.x a.y c.if-x-y.false
