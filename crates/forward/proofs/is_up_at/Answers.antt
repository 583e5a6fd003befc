-- `forward::is_up_at` meets its contract: what is lent has both codes, or the hall table has them at the server and at its neighbour.
use Rattle.forward.proofs.CodeSteps.{proxy_known, proxy_is}
use Rattle.forward.proofs.CodeTables.{place_closed, neighbour_decides}
use Rattle.forward.proofs.is_up_at.Goals as goal

pub returns-then-not-is_up : goal.returns-then-not-is_up
returns-then-not-is_up c =
    let a = c.requires in
    let f = c.is_up in
    place_closed _ _ _ _ _ _ a.0 a.1 c.if-not-whole.false _ c.uid_at-near.ensures _ f.ensures c.if-not-is_up.true

pub unwrap-other-requires : goal.unwrap-other-requires
unwrap-other-requires c = let a = c.requires in proxy_known _ _ _ _ (record { above = a.1; fits = a.0.fits }) _ c.uid_at-near.ensures _ c.neighbour_of.ensures

pub returns : goal.returns
returns c =
    let a = c.requires in
    let f = c.is_up in
    neighbour_decides _ _ _ _ _ _ a.0 a.1 c.if-not-whole.false _ c.uid_at-near.ensures _ f.ensures c.if-not-is_up.false
    _ (proxy_is _ _ _ _ (record { above = a.1; fits = a.0.fits }) _ c.uid_at-near.ensures _ c.neighbour_of.ensures _ c.unwrap-other.ensures) _ c.is_up-2.ensures
