-- `local::is_new` meets its contract: a place that has its distance is not new, else its live switch and its neighbour of level 1 decide.
use Rattle.hall.proofs.Growth.{valid_known}
use Rattle.local.proofs.Sizes.{switch_fits, neighbour_fits}
use Rattle.local.proofs.Rounds.{new_marked, new_live, new_apart, new_linked}
use Rattle.local.proofs.is_new.Goals as goal

pub returns-then-d-at : goal.returns-then-d-at
returns-then-d-at c =
    new_marked _ _ (valid_known _ c.requires.0) _ _ c.requires.1 _ _ c.requires.2 c.requires.3 _ c.requires.4 c.if-d-at.true

pub returns-then-by_switch : goal.returns-then-by_switch
returns-then-by_switch c =
    new_live _ _ (valid_known _ c.requires.0) _ _ c.requires.1 _ _ c.requires.2 c.requires.3 _ c.requires.4 c.if-d-at.false
    c.by_switch.result c.by_switch.ensures c.if-by_switch.true

pub returns-then-h-eq0 : goal.returns-then-h-eq0
returns-then-h-eq0 c =
    new_apart _ _ (valid_known _ c.requires.0) _ _ c.requires.1 _ _ c.requires.2 c.requires.3 _ c.requires.4 c.if-d-at.false
    c.by_switch.result c.by_switch.ensures c.if-by_switch.false c.if-h-eq0.true

pub neighbour_place-requires : goal.neighbour_place-requires
neighbour_place-requires c =
    let v = valid_known c.args.h c.requires.0 in
    (v.n_high, c.requires.2, switch_fits c.args.h v _ _ c.requires.3 c.if-h-eq0.false)

pub over_link-requires : goal.over_link-requires
over_link-requires c =
    rw c.neighbour_place.ensures (neighbour_fits c.args.h (valid_known c.args.h c.requires.0) _ c.requires.3 c.if-h-eq0.false)

pub returns : goal.returns
returns c =
    new_linked _ _ (valid_known _ c.requires.0) _ _ c.requires.1 _ _ c.requires.2 c.requires.3 _ c.requires.4 c.if-d-at.false
    c.by_switch.result c.by_switch.ensures c.if-by_switch.false
    c.if-h-eq0.false _ _ c.neighbour_place.ensures c.over_link.ensures
