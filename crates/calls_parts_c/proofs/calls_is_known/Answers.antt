-- `calls_parts_c::calls_is_known` meets its contract: it is that of the function that it calls.
use Rattle.calls_parts_c.proofs.calls_is_known.Goals as goal

pub returns : goal.returns
returns c = c.calls_is_known.ensures
