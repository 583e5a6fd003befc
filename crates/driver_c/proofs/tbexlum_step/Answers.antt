-- `driver_c::tbexlum_step` meets its contract: it is that of the function that it calls.
use Rattle.driver_c.proofs.tbexlum_step.Goals as goal

pub returns : goal.returns
returns c = record { number = c.tbexlum_step.ensures.number; room = c.tbexlum_step.ensures.room }
