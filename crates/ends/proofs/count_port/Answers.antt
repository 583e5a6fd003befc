-- `ends::count_port` meets its contract: after p turns the codes for the first p places of the cell are as they count, and the rest is as it was.
use mathlib.Core.Path.{◌≡◌, refl, sym, ◌∙◌, ap}
use Prim.Native.Nat.{ℕ, suc, ◌+◌, ◌*◌, ◌/◌, ◌≤◌, ◌<◌}
use native.Mathlib.Nat.{mul-le-mul_right}
use native.Mathlib.Numerals.{add-one}
use native.Mathlib.Omega.{arith}
use lib.ListN.{length}
use Rattle.hall.specs.Halls.{servers}
use Rattle.hall.proofs.Growth.{valid_known, uid_fits}
use Rattle.plan.specs.Answers.{fitted}
use Rattle.local.specs.Local.{cell_size, first_of}
use Rattle.local.proofs.Sizes.{cell_size_lem, size_pos}
use Rattle.local.proofs.Uids.{uid_within}
use Rattle.ends.specs.Filling.{spread, port_code}
use Rattle.ends.proofs.Codes.{first_by}
use Rattle.ends.proofs.Counts.{fitted_place, port_more}
use Rattle.ends.proofs.count_port.Goals.{After-size_of-count, In-loop-p}
use Rattle.ends.proofs.count_port.Goals as goal

counted : (c : After-size_of-count) → c.size_of-count.result ≡ cell_size c.args.h
counted c = cell_size_lem _ _ c.requires.0 c.size_of-count.ensures

-- the next server is in the cell
place : (c : In-loop-p) → c.loop-p.p < cell_size c.args.h
place c = omega (arith, c.loop-p-test.true, cell_size_lem _ _ c.requires.0 c.size_of-count.ensures)

server : (c : In-loop-p) → let a = c.args in let m = c.size_of-count.result in
    a.uid / m * m + c.loop-p.p ≡ first_of a.h a.uid + c.loop-p.p
server c = ap (λ (f : ℕ). f + c.loop-p.p) (first_by c.args.h c.args.uid _ (cell_size_lem _ _ c.requires.0 c.size_of-count.ensures))

within : (c : In-loop-p) → let a = c.args in first_of a.h a.uid + c.loop-p.p < servers a.h
within c = uid_within c.args.h c.args.uid _ (valid_known _ c.requires.0) c.requires.1 (place c)

-- its code is in the room
stands_in : (c : In-loop-p) → c.loop-p.next < length c.args.room.now
stands_in c =
    let m : suc c.loop-p.p * c.args.step ≤ cell_size c.args.h * c.args.step = mul-le-mul_right c.args.step (place c) in
    omega (arith, m, c.loop-p.invariant.0, c.requires.6)

pub nonzero_div-first : goal.nonzero_div-first
nonzero_div-first c = omega (arith, counted (goal.at.nonzero_div-first c).After-size_of-count, size_pos _ (valid_known _ c.requires.0))

pub loop-p-init : goal.loop-p-init
unfolding spread
loop-p-init c = (omega arith, refl)

pub overflow_add-next : goal.overflow_add-next
overflow_add-next c = omega (arith, stands_in (goal.at.overflow_add-next c).In-loop-p, (valid_known _ c.requires.0).k_high, c.requires.5)

pub overflow_add-first : goal.overflow_add-first
overflow_add-first c = omega (arith, server (goal.at.overflow_add-first c).In-loop-p, uid_fits c.args.h (valid_known _ c.requires.0) _ (within (goal.at.overflow_add-first c).In-loop-p))

pub bounds-room-next : goal.bounds-room-next
bounds-room-next c = omega (arith, stands_in (goal.at.bounds-room-next c).In-loop-p, c.loop-p.auto.room)

pub code_counted-requires : goal.code_counted-requires
code_counted-requires c =
    let e = server (goal.at.code_counted-requires c).In-loop-p in (
      c.requires.0,
      omega (arith, e, within (goal.at.code_counted-requires c).In-loop-p),
      c.requires.2,
      c.requires.3 ∙ sym (ap (fitted c.args.h) e ∙ fitted_place c.args.h c.requires.0 c.args.uid _ (place (goal.at.code_counted-requires c).In-loop-p)),
    )

pub bounds-room-next-in-loop-p : goal.bounds-room-next-in-loop-p
bounds-room-next-in-loop-p c = omega (arith, stands_in (goal.at.bounds-room-next-in-loop-p c).In-loop-p, c.loop-p.auto.room)

pub loop-p-preserved : goal.loop-p-preserved
unfolding spread
loop-p-preserved c =
    let a = c.args in
    let l = c.loop-p in
    let r = port_more a.h (first_of a.h a.uid) a.port a.room.now a.at a.step l.p _ c.code_counted.result c.requires.4 (server (goal.at.loop-p-preserved c).In-loop-p)
    (rw (l.invariant.0, l.invariant.1) at c.code_counted.ensures) in
    (omega (arith, l.invariant.0), rw (l.invariant.0, l.invariant.1, r, add-one l.p))

pub returns : goal.returns
returns c =
    let a = c.args in
    let l = c.loop-p in
    let e : l.p ≡ cell_size a.h = omega (arith, l.auto.p-end, c.loop-p-test.false, counted (goal.at.returns c).After-size_of-count) in
    l.invariant.1 ∙ ap (spread a.room.now a.at a.step (port_code a.h (first_of a.h a.uid) a.port a.room.now a.at a.step)) e
