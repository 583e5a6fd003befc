-- `ends::code_counted` meets its contract: its tests are those of a port's two servers, and a port of level 0 or 1 has them in one DCell1.
use mathlib.Core.Path.{◌≡◌, sym, ◌∙◌}
use native.Mathlib.Omega.{arith}
use Rattle.hall.proofs.Growth.{valid_known}
use Rattle.cells.proofs.Stated.{neighbour_known, neighbour_is}
use Rattle.counted.specs.Counted.{port_fitted}
use Rattle.counted.proofs.Counted.{port_none, port_near}
use Rattle.ends.proofs.Counts.{port_told}
use Rattle.ends.proofs.code_counted.Goals.{After-is_fitted}
use Rattle.ends.proofs.code_counted.Goals as goal

-- a port of a higher level counts where the call tells that its neighbour is fitted
told : (c : After-is_fitted) → let a = c.args in port_fitted a.h a.uid a.port ≡ c.is_fitted.result
told c = port_told c.args.h (omega (arith, (valid_known _ c.requires.0).n_low)) c.requires.0 c.args.uid c.args.port c.unwrap.result
    c.requires.1 c.if-port-lt2.false c.requires.2
    (neighbour_is _ _ _ c.requires.0 c.requires.1 (omega (arith, c.if-port-lt2.false)) c.requires.2 _ _ c.neighbour_of.ensures c.unwrap.ensures)
    c.is_fitted.result c.is_fitted.ensures (sym c.requires.3 ∙ c.if-not-here.false)

pub returns-then-not-here : goal.returns-then-not-here
returns-then-not-here c = rw (port_none c.args.h c.args.uid c.args.port (sym c.requires.3 ∙ c.if-not-here.true))

pub returns-then-port-lt2 : goal.returns-then-port-lt2
returns-then-port-lt2 c = rw (port_near c.args.h (omega (arith, (valid_known _ c.requires.0).n_low)) c.args.uid c.args.port c.if-port-lt2.true (sym c.requires.3 ∙ c.if-not-here.false))

pub unwrap-requires : goal.unwrap-requires
unwrap-requires c = neighbour_known _ _ _ c.requires.0 c.requires.1 (omega (arith, c.if-port-lt2.false)) c.requires.2 _ c.neighbour_of.ensures

pub returns-then-not-is_fitted : goal.returns-then-not-is_fitted
returns-then-not-is_fitted c = rw (told (goal.at.returns-then-not-is_fitted c).After-is_fitted, c.if-not-is_fitted.true)

pub returns : goal.returns
returns c = rw (told (goal.at.returns c).After-is_fitted, c.if-not-is_fitted.false)
