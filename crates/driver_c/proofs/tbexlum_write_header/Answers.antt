-- `driver_c::tbexlum_write_header` meets its contract: it is that of the function that it calls.
use Rattle.driver_c.proofs.tbexlum_write_header.Goals as goal

pub returns : goal.returns
returns c = record { number = c.tbexlum_write_header.ensures.number; room = c.tbexlum_write_header.ensures.room }
