-- `calls_plan::calls_is_fitted` meets its contract: it answers what it calls.
use Rattle.calls_plan.proofs.calls_is_fitted.Goals as goal

pub returns : goal.returns
returns c = cc
