-- `calls_parts_c::calls_n_fits` meets its contract: it is that of the function that it calls.
use Rattle.calls_parts_c.proofs.calls_n_fits.Goals as goal

pub returns : goal.returns
returns c = c.calls_n_fits.ensures
