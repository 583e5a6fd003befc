-- `calls_parts::calls_k_fits` meets its contract: it answers what it calls.
use Rattle.calls_parts.proofs.calls_k_fits.Goals as goal

pub returns : goal.returns
returns c = cc
