-- The measure of `route::fill` is the level.
use Rattle.route.proofs.+fill.Given as goal

abbrev pub decreases-fill : goal.decreases-fill
decreases-fill l = l.level
