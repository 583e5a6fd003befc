-- `calls_parts_c::calls_addresses_fit` meets its contract: it is that of the function that it calls.
use Rattle.calls_parts_c.proofs.calls_addresses_fit.Goals as goal

pub returns : goal.returns
returns c = c.calls_addresses_fit.ensures
