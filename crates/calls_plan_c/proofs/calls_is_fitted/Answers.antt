-- `calls_plan_c::calls_is_fitted` meets its contract: it is that of the function that it calls.
use Rattle.calls_plan_c.proofs.calls_is_fitted.Goals as goal

pub returns : goal.returns
returns c = c.calls_is_fitted.ensures
