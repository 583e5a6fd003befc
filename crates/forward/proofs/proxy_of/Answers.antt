-- `forward::proxy_of` meets its contract: the neighbour of the server at the place.
use Rattle.forward.proofs.CodeSteps.{proxy_known, proxy_is}
use Rattle.forward.proofs.proxy_of.Goals as goal

pub unwrap-requires : goal.unwrap-requires
unwrap-requires c = proxy_known _ _ _ _ c.requires _ c.uid_at.ensures _ c.neighbour_of.ensures

pub returns : goal.returns
returns c = proxy_is _ _ _ _ c.requires _ c.uid_at.ensures _ c.neighbour_of.ensures _ c.unwrap.ensures
