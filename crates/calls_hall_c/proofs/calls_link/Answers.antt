-- `calls_hall_c::calls_link` meets its contract: it is that of the function that it calls.
use Rattle.calls_hall_c.proofs.calls_link.Goals as goal

pub returns : goal.returns
returns c = record { number = c.calls_link.ensures.number; room = c.calls_link.ensures.room }
