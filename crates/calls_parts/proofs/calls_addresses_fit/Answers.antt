-- `calls_parts::calls_addresses_fit` meets its contract: it answers what it calls.
use Rattle.calls_parts.proofs.calls_addresses_fit.Goals as goal

pub returns : goal.returns
returns c = cc
