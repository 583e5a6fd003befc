-- `calls_hall_c::calls_uid` meets its contract: it is that of the function that it calls.
use Rattle.calls_hall_c.proofs.calls_uid.Goals as goal

pub returns : goal.returns
returns c = record { number = c.calls_uid.ensures.number; room = c.calls_uid.ensures.room }
