-- `local::is_reached` meets its contract: it is the definition's test.
use mathlib.Core.Path.{refl}
use Rattle.local.proofs.is_reached.Goals as goal

pub returns : goal.returns
returns c = refl
