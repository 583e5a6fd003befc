-- `calls_parts::calls_first_unknown` meets its contract: it answers what it calls.
use Rattle.calls_parts.proofs.calls_first_unknown.Goals as goal

pub returns : goal.returns
returns c = cc
