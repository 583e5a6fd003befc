-- `route::refused_servers` meets its contract: the size of level k is the servers of the hall.
use native.Mathlib.Omega.{arith}
use Rattle.route.proofs.Answers.{known, x_refused, y_refused, none_refused, whole_hall, per_switch_is}
use Rattle.route.proofs.refused_servers.Goals.{then-servers-x-via-then-servers-x, then-servers-x-via-else-servers-x+then-servers-y}
use Rattle.route.proofs.refused_servers.Goals as goal

pub bounds-sizes-h : goal.bounds-sizes-h
bounds-sizes-h c = omega (arith, (known c.args.h _ c.requires).k_high)

pub returns-then-servers-x-clause-refused : goal.returns-then-servers-x-clause-refused
returns-then-servers-x-clause-refused c =
    elim c.then-servers-x.branch [
      | then-servers-x-via-then-servers-x w ↦ x_refused _ _ c.requires _ _ w.if-servers-x.true
      | then-servers-x-via-else-servers-x+then-servers-y w ↦ y_refused _ _ c.requires _ _ w.if-servers-y.true
    ]

pub returns-clause-refused : goal.returns-clause-refused
returns-clause-refused c = none_refused _ _ c.requires _ _ c.if-servers-x.false c.if-servers-y.false

pub returns-clause-given : goal.returns-clause-given
returns-clause-given c = (whole_hall _ _ c.requires _ _ c.if-servers-x.false c.if-servers-y.false, per_switch_is _ _ c.requires)
