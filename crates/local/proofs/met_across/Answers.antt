-- `local::met_across` meets its contract: the link of level 1 has one other end, which meets x or nobody there does.
use native.Mathlib.Omega.{arith}
use Rattle.hall.proofs.Growth.{valid_known}
use Rattle.local.proofs.Sizes.{size_fits}
use Rattle.local.proofs.Beside.{place_known, across_is, across_in, across_found, across_missing}
use Rattle.local.proofs.met_across.Goals as goal

pub neighbour_place-y-requires : goal.neighbour_place-y-requires
neighbour_place-y-requires c = place_known _ (valid_known _ c.requires.0) c.requires.1 _ c.requires.2

pub over_link-requires : goal.over_link-requires
over_link-requires c =
    let v = valid_known _ c.requires.0 in
    let is = across_is _ v c.requires.1 _ c.requires.2 c.neighbour_place-y.ensures in
    omega (arith, size_fits _ v, across_in _ v c.requires.1 _ c.requires.2 is)

pub returns-then-over_link : goal.returns-then-over_link
returns-then-over_link c =
    let v = valid_known _ c.requires.0 in
    let is = across_is _ v c.requires.1 _ c.requires.2 c.neighbour_place-y.ensures in
    across_found _ v c.requires.1 _ c.requires.2 _ _ _ c.requires.3 is c.over_link.ensures (across_in _ v c.requires.1 _ c.requires.2 is) c.if-over_link.true

pub returns : goal.returns
returns c =
    let v = valid_known _ c.requires.0 in
    let is = across_is _ v c.requires.1 _ c.requires.2 c.neighbour_place-y.ensures in
    across_missing _ v c.requires.1 _ c.requires.2 _ _ _ c.requires.3 is c.over_link.ensures c.if-over_link.false
