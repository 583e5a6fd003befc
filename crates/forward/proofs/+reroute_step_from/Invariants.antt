-- The retry falls with each reroute, and step_from stands above the reroute that it asks for.
use Prim.Native.Nat.{◌+◌, ◌*◌}
use Rattle.forward.proofs.+reroute_step_from.Given as goal

abbrev pub decreases-reroute : goal.decreases-reroute
decreases-reroute l = 2 * l.p.retry

abbrev pub decreases-step_from : goal.decreases-step_from
decreases-step_from l = 2 * l.p.retry + 1
