-- `forward::way_over` meets its contract: it goes by the first link as the definition does.
use borrow.Author.Tests.{eq-eqb, ne_eqb}
use Rattle.forward.specs.Inside.{way_over}
use Rattle.forward.proofs.CodeWays.{target_goal, target_near, crossed, usable_near}
use Rattle.forward.proofs.way_over.Goals as goal

pub way_to-requires : goal.way_to-requires
way_to-requires c = target_goal _ _ _ _ _ c.requires c.in-None.is

pub is_usable-requires : goal.is_usable-requires
is_usable-requires c = crossed _ _ _ _ _ c.requires _ _ _ c.in-Some.is

pub returns-then-not-is_usable : goal.returns-then-not-is_usable
unfolding way_over
returns-then-not-is_usable c =
    let f = c.is_usable in
    let e = c.in-Some.is in
    let u = usable_near _ _ _ _ _ c.requires _ _ _ e _ f.ensures in
    rw (e, u, c.if-not-is_usable.true)

pub returns-then-me-near : goal.returns-then-me-near
unfolding way_over
returns-then-me-near c =
    let f = c.is_usable in
    let e = c.in-Some.is in
    let u = usable_near _ _ _ _ _ c.requires _ _ _ e _ f.ensures in
    rw (e, u, c.if-not-is_usable.false, eq-eqb _ _ c.if-me-near.true)

pub way_to-requires-in-Some : goal.way_to-requires-in-Some
way_to-requires-in-Some c = target_near _ _ _ _ _ c.requires _ _ _ c.in-Some.is c.if-me-near.false

pub returns-in-None : goal.returns-in-None
unfolding way_over
returns-in-None c = rw c.in-None.is c.way_to.ensures

pub returns-else-me-near : goal.returns-else-me-near
unfolding way_over
returns-else-me-near c =
    let f = c.is_usable in
    let e = c.in-Some.is in
    let u = usable_near _ _ _ _ _ c.requires _ _ _ e _ f.ensures in
    rw (e, u, c.if-not-is_usable.false, ne_eqb _ _ c.if-me-near.false)
    c.way_to-in-Some.ensures
