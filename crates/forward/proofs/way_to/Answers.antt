-- `forward::way_to` meets its contract: a next hop is found exactly where the target can be reached.
use Rattle.forward.proofs.CodeWays.{hop_there, way_found, way_missing}
use Rattle.forward.proofs.way_to.Goals as goal

pub unwrap-requires : goal.unwrap-requires
unwrap-requires c = hop_there _ _ _ _ c.requires _ c.own_part.ensures _ c.next_hop.ensures

pub returns-in-Some : goal.returns-in-Some
returns-in-Some c = way_found _ _ _ _ c.requires _ c.own_part.ensures _ c.next_hop.ensures _ _ c.unwrap.ensures c.in-Some.is

pub returns-in-None : goal.returns-in-None
returns-in-None c = way_missing _ _ _ _ c.requires _ c.own_part.ensures _ c.next_hop.ensures _ c.unwrap.ensures c.in-None.is
