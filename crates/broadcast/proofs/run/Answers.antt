-- `broadcast::run` meets its contract: before round r the room begins with the marks before round r, and a round that reaches nobody is the last.
use native.Mathlib.Omega.{arith}
use lib.ListN.{drop}
use Rattle.broadcast.proofs.Reaches.{scope_fits_lem}
use Rattle.broadcast.proofs.Whole.{ready_fits, ready_marks, ready_behind, next_marks, idle_marks}
use Rattle.broadcast.proofs.run.Goals as goal

pub loop-r-init : goal.loop-r-init
loop-r-init c =
    let a = c.args in
    ready_marks a.h a.table.now a.scope a.size a.origin a.room.now c.requires

pub overflow_cast-r-end : goal.overflow_cast-r-end
overflow_cast-r-end c =
    let a = c.args in
    let k = c.requires in
    omega (arith, scope_fits_lem a.h a.scope a.size 0 a.room.now k.fits)

pub one_round-requires : goal.one_round-requires
one_round-requires c =
    let a = c.args in
    let k = c.requires in
    let w = c.loop-r in
    ready_fits a.h a.scope a.size a.origin w.r a.room.now w.room k w.auto.room c.loop-r-test.true

pub returns-then-not-one_round : goal.returns-then-not-one_round
returns-then-not-one_round c =
    let a = c.args in
    let k = c.requires in
    let w = c.loop-r in
    let f = c.one_round in
    let fits = ready_fits a.h a.scope a.size a.origin w.r a.room.now w.room k w.auto.room c.loop-r-test.true in
    let behind = ready_behind a.h a.table.now a.scope a.size a.origin w.r a.room.now w.room k w.invariant in
    idle_marks a.h a.table.now a.scope a.size a.origin w.r w.room _ (drop a.size a.room.now) f.result fits behind w.invariant f.ensures
    k.low c.loop-r-test.true c.if-not-one_round.true

pub loop-r-preserved : goal.loop-r-preserved
loop-r-preserved c =
    let a = c.args in
    let k = c.requires in
    let w = c.loop-r in
    let f = c.one_round in
    let fits = ready_fits a.h a.scope a.size a.origin w.r a.room.now w.room k w.auto.room c.loop-r-test.true in
    let behind = ready_behind a.h a.table.now a.scope a.size a.origin w.r a.room.now w.room k w.invariant in
    next_marks a.h a.table.now a.scope a.size a.origin w.r w.room _ (drop a.size a.room.now) f.result fits behind w.invariant f.ensures
