-- A step reroutes at most twice: the law of a step for what it sees, at the table that it is lent.
use Rattle.hall.proofs.Growth.{valid_known}
use Rattle.forward.specs.Packets.{tidied}
use Rattle.forward.specs.Seen.{seen}
use Rattle.forward.proofs.Reroutes.{step_rerouted}
use Rattle.forward.proofs.Sight.{seen_turns}
use Rattle.promises.specs.Reroutes.{TwoReroutes}
use Rattle.forward.proofs.Trips.{tidied_fits}

pub two_reroutes : TwoReroutes
two_reroutes h table me p v here d x =
    step_rerouted h (seen h table) me (tidied p) v (seen_turns h table (valid_known h v)) here (tidied_fits h p (record { dst_in = d; proxy_in = x }))
