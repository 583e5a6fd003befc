-- `local::is_linked` meets its contract: on one switch its ports decide, else the link of level 1 where there is one.
use mathlib.Core.Path.{sym, ◌∙◌}
use Rattle.hall.proofs.Growth.{valid_known}
use Rattle.local.proofs.Linked.{linked_switch, linked_none, linked_other, linked_over}
use Rattle.local.proofs.Beside.{place_known, across_is}
use Rattle.local.proofs.is_linked.Goals as goal

pub returns-then-on_switch : goal.returns-then-on_switch
returns-then-on_switch c =
    c.both_up.ensures ∙ linked_switch _ _ (valid_known _ c.requires.0) _ _ (sym c.on_switch.ensures ∙ c.if-on_switch.true)

pub returns-then-h-eq0 : goal.returns-then-h-eq0
returns-then-h-eq0 c = linked_none _ _ (valid_known _ c.requires.0) _ _ (sym c.on_switch.ensures ∙ c.if-on_switch.false) c.if-h-eq0.true

pub neighbour_place-requires : goal.neighbour_place-requires
neighbour_place-requires c = place_known _ (valid_known _ c.requires.0) c.if-h-eq0.false _ c.requires.1

pub returns-then-neighbour_place-y : goal.returns-then-neighbour_place-y
returns-then-neighbour_place-y c =
    let v = valid_known _ c.requires.0 in
    let wide = c.if-h-eq0.false in
    linked_other _ c.args.table.now v _ _ (sym c.on_switch.ensures ∙ c.if-on_switch.false) _
    (across_is _ v wide _ c.requires.1 c.neighbour_place.ensures) wide c.if-neighbour_place-y.true

pub returns : goal.returns
returns c =
    let v = valid_known _ c.requires.0 in
    let wide = c.if-h-eq0.false in
    c.both_up-2.ensures
    ∙ linked_over _ _ v _ _ (sym c.on_switch.ensures ∙ c.if-on_switch.false) _
    (across_is _ v wide _ c.requires.1 c.neighbour_place.ensures) wide c.if-neighbour_place-y.false
