-- `forward::travel` meets its contract: what is passed so far before what is left is the whole journey, and the TTL falls with each step.
use native.Mathlib.Omega.{arith}
use borrow.Author.Rules.{rules}
use Rattle.counted.specs.Counted.{counted}
use mathlib.Core.Path.{◌≡◌, sym, ap, ◌∙◌}
use Prim.Native.Nat.{◌+◌}
use lib.ListN.{set}
use Rattle.forward.specs.declared.endings.Onward.{Onward}
use Rattle.forward.specs.Packets.{step_told, ending_in, next_in}
use Rattle.forward.proofs.CodeTrips.{ending_not_zero, journey_ending, departs_counted, sets_off, step_few, ttl_falls, ends_journey, goes_on_lem}
use Rattle.forward.proofs.travel.Goals as goal

pub loop-ending-init : goal.loop-ending-init
loop-ending-init c = sets_off c.args.h (counted c.args.h 0 c.args.table.now) c.args.source c.args.packet _ c.no_uids-uids.ensures (search rules) (departs_counted _ _ _ _ c.requires)

pub overflow_add-reroutes : goal.overflow_add-reroutes
overflow_add-reroutes c =
    let w = c.loop-ending in
    let a = c.args in
    let d = w.invariant.departing in
    let q = c.step_at-o.ensures in
    let f = step_few a.h (counted a.h 0 a.table.now) w.me w.p d (step_told c.step_at-o.result) q in
    let l = w.invariant.left in
    let r = w.invariant.few in
    omega arith

pub returns-in-Ends : goal.returns-in-Ends
returns-in-Ends c =
    let w = c.loop-ending in
    let a = c.args in
    let o = c.step_at-o.result in
    let e = c.in-Ends.is in
    ap (λ (x : Onward). journey_ending (ending_in x) w.at (w.reroutes + o.reroutes) (set w.uids w.at w.me)) (sym e)
    ∙ ends_journey a.h (counted a.h 0 a.table.now) a.source a.packet w.uids w.me w.p w.reroutes w.at w.invariant (step_told o) c.step_at-o.ensures
    (λ z. ending_not_zero c.in-Ends.ending (sym (ap ending_in e) ∙ z))

pub loop-ending-smaller : goal.loop-ending-smaller
loop-ending-smaller c =
    let w = c.loop-ending in
    let a = c.args in
    let d = w.invariant.departing in
    let f = ttl_falls a.h (counted a.h 0 a.table.now) w.me w.p d (step_told c.step_at-o.result) c.step_at-o.ensures (ap ending_in c.in-To.is) in
    omega (arith, f)

pub loop-ending-preserved : goal.loop-ending-preserved
loop-ending-preserved c =
    let w = c.loop-ending in
    let a = c.args in
    let n : next_in c.step_at-o.result.onward ≡ c.in-To.next = ap next_in c.in-To.is in
    rw (← n)
    (goes_on_lem a.h (counted a.h 0 a.table.now) a.source a.packet w.uids w.me w.p w.reroutes w.at w.invariant (step_told c.step_at-o.result) c.step_at-o.ensures
    (ap ending_in c.in-To.is))
