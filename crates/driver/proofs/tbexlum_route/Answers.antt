-- `driver::tbexlum_route` meets its contract: it tells the route's uids, the first links + 1 of the answer's places; a refusal by its number.
use mathlib.Core.Path.{◌∙◌, ap}
use Prim.Native.Nat.{◌<◌}
use native.Mathlib.Omega.{arith}
use Rattle.route.specs.Answers.{longest, RouteAnswer}
use Rattle.hall.proofs.Stated.{refusal_told, refusal_unwritten}
use Rattle.driver.proofs.Routes.{route_short}
use Rattle.driver.proofs.tbexlum_route.Goals as goal

pub shared_ref_as_front-tell : goal.shared_ref_as_front-tell
shared_ref_as_front-tell c =
    let short : c.in-Ok.route.links < longest = rw (ap (λ (a : RouteAnswer). a.links) c.in-Ok.ensures) (route_short _ _ _) in
    omega (arith, short)

pub returns-in-Err-clause-number : goal.returns-in-Err-clause-number
returns-in-Err-clause-number c = rw (← c.in-Err.ensures) (c.number.ensures ∙ refusal_told _ _ _)

pub returns-in-Err-clause-room : goal.returns-in-Err-clause-room
returns-in-Err-clause-room c = rw (← c.in-Err.ensures) (refusal_unwritten _ _ _)
