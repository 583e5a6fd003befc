-- `hall::k_fits` meets its contract: the code is the definition.
use mathlib.Core.Path.{refl}
use Rattle.hall.specs.Halls.{k_fits}
use Rattle.hall.proofs.k_fits.Goals as goal

pub returns : goal.returns
unfolding k_fits
returns c = refl
