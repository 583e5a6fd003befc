-- `route::first_link` meets its contract: what the sizes refuse is the hall.
use Rattle.hall.proofs.Stated.{answered_refused, handed}
use Rattle.route.specs.Answers.{no_link}
use Rattle.route.proofs.Answers.{sizes_refuse}
use Rattle.route.proofs.first_link.Goals as goal

pub returns-in_err-sizes : goal.returns-in_err-sizes
returns-in_err-sizes c =
    let a = c.args in
    rw (handed _ c.from_residual.ensures) (answered_refused _ no_link _ _ (sizes_refuse a.h a.x a.y _ c.in_err-sizes.ensures))
