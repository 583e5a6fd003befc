-- `calls_parts::calls_is_known` meets its contract: it answers what it calls.
use Rattle.calls_parts.proofs.calls_is_known.Goals as goal

pub returns : goal.returns
returns c = cc
