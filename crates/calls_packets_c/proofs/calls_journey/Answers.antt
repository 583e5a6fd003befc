-- `calls_packets_c::calls_journey` meets its contract: it is that of the function that it calls.
use Rattle.calls_packets_c.proofs.calls_journey.Goals as goal

pub returns : goal.returns
returns c = record { number = c.calls_journey.ensures.number; room = c.calls_journey.ensures.room }
