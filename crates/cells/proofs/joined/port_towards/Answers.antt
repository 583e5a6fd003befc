-- `cells::joined::port_towards` meets its contract: the code is the definition.
use mathlib.Core.Path.{sym}
use Rattle.hall.proofs.Place.{port_lt, port_ge}
use Rattle.cells.proofs.joined.port_towards.Goals as goal

pub returns-then-p-q : goal.returns-then-p-q
returns-then-p-q c = sym (port_lt _ _ c.if-p-q.true)

pub returns : goal.returns
returns c = sym (port_ge _ _ c.if-p-q.false)
