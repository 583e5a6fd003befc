-- `driver::tbexlum_write_header` meets its contract: the words are the fields, and the header is written from them.
use Rattle.driver.proofs.tbexlum_write_header.Goals as goal

pub returns-in-Ok-clause-room : goal.returns-in-Ok-clause-room
returns-in-Ok-clause-room c = c.write_header.ensures.room
