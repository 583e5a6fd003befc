-- `calls_packets_c::calls_journey_counts` meets its contract: it is that of the function that it calls.
use Rattle.calls_packets_c.proofs.calls_journey_counts.Goals as goal

pub returns : goal.returns
returns c = record { number = c.calls_journey_counts.ensures.number; room = c.calls_journey_counts.ensures.room }
