-- `forward::step_at` meets its contract: lines 1 to 3 are its tests, and what goes on stands at the server.
use mathlib.Core.Path.{◌≡◌, sym, ◌∙◌, ap}
use Prim.Native.Nat.{ℕ}
use Rattle.forward.specs.Packets.{StepAnswer}
use Rattle.forward.specs.Packets.{drop_ttl, delivered, tidied, goal, ended}
use Rattle.forward.specs.Seen.{seen}
use Rattle.forward.specs.Steps.{step_from, step_on}
use Rattle.forward.specs.Inside.{Standing, cleared_if, lent, outlook_of}
use Rattle.forward.proofs.CodeSteps.{stands_ahead, looked, step_goes, goal_looked, stands_on_way, step_delivers, step_dies, step_goes_on}
use Rattle.forward.proofs.Trips.{tidied_dst}
use Rattle.forward.proofs.step_at.Goals.{After-cleared_if-2, After-cleared_if-in-Next, After-goal, After-is_arrived-arrived, After-look-outlook}
use Rattle.forward.proofs.step_at.Goals as goal

-- the packet as it goes on stands at the server
on_way_stands : (c : After-is_arrived-arrived)
    → let a = c.args in
    Standing a.h a.whole a.table.now a.me (cleared_if c.is_arrived-arrived.result (tidied a.packet))
on_way_stands c =
    stands_on_way _ c.args.packet _ _ c.requires.0 c.requires.1 c.if-me-packet.false c.if-packet-eq0.false _ c.is_arrived-arrived.ensures

-- and its goal is the one that is looked for
on_way_goal : (c : After-goal)
    → c.goal.result ≡ goal (cleared_if c.is_arrived-arrived.result (tidied c.args.packet))
on_way_goal c = goal_looked _ c.is_arrived-arrived.result _ _ c.cleared_if.ensures c.goal.ensures

-- what was looked at lies before it
seen_ahead : (c : After-look-outlook)
    → c.look-outlook.result ≡ outlook_of c.args.h (seen c.args.h (lent c.args.h c.args.whole c.args.table.now c.args.me)) c.args.me (tidied c.args.packet).dst
    (goal (cleared_if c.is_arrived-arrived.result (tidied c.args.packet)))
seen_ahead c =
    let a = c.args in
    let s = seen a.h (lent a.h a.whole a.table.now a.me) in
    looked _ _ _ _ _ _ _ (goal_looked _ c.is_arrived-arrived.result _ _ c.cleared_if.ensures c.goal.ensures) c.look-outlook.ensures ∙ ap (λ (x : ℕ). outlook_of a.h s a.me x (goal (cleared_if c.is_arrived-arrived.result (tidied a.packet)))) (sym (tidied_dst a.packet))

-- where it goes on, the step is what comes from 4 on
from_4 : (c : After-look-outlook) (o : StepAnswer)
    → let a = c.args in
    let s = seen a.h (lent a.h a.whole a.table.now a.me) in
    o ≡ step_from a.h s a.me (tidied a.packet) (cleared_if c.is_arrived-arrived.result (tidied a.packet)) c.is_arrived-arrived.result
    → o ≡ step_on a.h s a.me (tidied a.packet)
from_4 c o g =
    let a = c.args in
    step_goes_on _ a.packet _ _ _ c.if-me-packet.false c.if-packet-eq0.false _ c.is_arrived-arrived.ensures g

-- the packet that is sent on
goes_on : (c : After-cleared_if-in-Next)
    → c.cleared_if-in-Next.result ≡ cleared_if c.is_arrived-arrived.result (tidied c.args.packet)
goes_on c = c.cleared_if-in-Next.ensures ∙ ap (cleared_if c.is_arrived-arrived.result) c.tidied-in-Next.ensures

-- and the one that is stepped on with
turns_on : (c : After-cleared_if-2)
    → c.cleared_if-2.result ≡ cleared_if c.is_arrived-arrived.result (tidied c.args.packet)
turns_on c = c.cleared_if-2.ensures ∙ ap (cleared_if c.is_arrived-arrived.result) c.tidied-p.ensures

pub returns-then-me-packet : goal.returns-then-me-packet
returns-then-me-packet c =
    let a = c.args in
    step_delivers _ a.packet _ _ _ c.if-me-packet.true (c.ended.ensures ∙ ap (ended delivered) c.tidied.ensures)

pub returns-then-packet-eq0 : goal.returns-then-packet-eq0
returns-then-packet-eq0 c =
    let a = c.args in
    step_dies _ a.packet _ _ _ c.if-me-packet.false c.if-packet-eq0.true
    (c.ended-then-packet-eq0.ensures ∙ ap (ended drop_ttl) c.tidied-then-packet-eq0.ensures)

pub look-outlook-requires : goal.look-outlook-requires
look-outlook-requires c = stands_ahead _ _ _ _ (on_way_stands (goal.at.look-outlook-requires c).After-is_arrived-arrived) _ (on_way_goal (goal.at.look-outlook-requires c).After-goal)

pub returns-in-Next : goal.returns-in-Next
returns-in-Next c =
    from_4 (goal.at.returns-in-Next c).After-look-outlook _ (step_goes _ _ _ _ _ c.is_arrived-arrived.result _ (seen_ahead (goal.at.returns-in-Next c).After-look-outlook) _ _ c.in-Next.is (c.sent.ensures ∙ rw (goes_on (goal.at.returns-in-Next c).After-cleared_if-in-Next)))

pub step_from-requires : goal.step_from-requires
step_from-requires c = rw (turns_on (goal.at.step_from-requires c).After-cleared_if-2, c.tidied-p.ensures) (on_way_stands (goal.at.step_from-requires c).After-is_arrived-arrived, seen_ahead (goal.at.step_from-requires c).After-look-outlook)

pub returns : goal.returns
returns c = from_4 (goal.at.returns c).After-look-outlook _ (c.step_from.ensures ∙ rw (turns_on (goal.at.returns c).After-cleared_if-2, c.tidied-p.ensures))
