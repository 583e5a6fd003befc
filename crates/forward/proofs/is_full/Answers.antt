-- `forward::is_full` meets its contract: the call tells how many DCell1s the hall can have.
use Rattle.plan.proofs.Asks.{full_told}
use Rattle.forward.proofs.is_full.Goals as goal

pub returns : goal.returns
returns c = full_told _ _ c.requires c.racks_of.ensures
