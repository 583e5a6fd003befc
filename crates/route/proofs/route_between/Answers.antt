-- `route::route_between` meets its contract: what the sizes refuse is the hall, and the places are filled in from the first on.
use native.Mathlib.Omega.{arith}
use Rattle.hall.proofs.Stated.{answered_refused, handed}
use Rattle.route.specs.Answers.{no_route}
use Rattle.route.proofs.Answers.{sizes_refuse, next_fits, route_filled}
use Rattle.route.proofs.route_between.Goals as goal

pub returns-in_err-sizes : goal.returns-in_err-sizes
returns-in_err-sizes c =
    let a = c.args in
    rw (handed _ c.from_residual.ensures) (answered_refused _ no_route _ _ (sizes_refuse a.h a.x a.y _ c.in_err-sizes.ensures))

pub overflow_sub-result : goal.overflow_sub-result
overflow_sub-result c = let g = c.in_ok-refused_servers.ensures.given in (next_fits c.args.h g.0 g.1 c.fill-next.ensures.next).0

pub overflow_cast-result : goal.overflow_cast-result
overflow_cast-result c = let g = c.in_ok-refused_servers.ensures.given in omega (arith, (next_fits c.args.h g.0 g.1 c.fill-next.ensures.next).1)

pub returns : goal.returns
returns c =
    let g = c.in_ok-refused_servers.ensures.given in route_filled c.args.h g.0 g.1 c.fill-next.ensures.next c.fill-next.ensures.filled c.in_ok-refused_servers.ensures.refused
