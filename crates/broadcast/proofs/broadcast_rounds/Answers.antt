-- `broadcast::broadcast_rounds` meets its contract: refused, it leaves the room as lent; from a source that is not fitted it leaves the room as begun; else
-- the run of the table for the source's DCell(s) lies within the table, and the rounds over it, among the fitted servers, are those of the hall table.
use mathlib.Core.Path.{◌≡◌, refl}
use native.Mathlib.Omega.{arith}
use Rattle.hall.proofs.Stated.{handed, answered_refused}
use Rattle.broadcast.specs.Broadcasts.{no_broadcast, scope_size}
use Rattle.broadcast.proofs.Calls.{scope_size_lem, Accepted, accepted, size_pos, scoped, origin_low, run_ends, run_is, room_alone, answer_alone, begun_ready, room_long, room_at_exit, answer_is}
use Rattle.broadcast.proofs.broadcast_rounds.Goals.{After-size_of-size}
use Rattle.broadcast.proofs.broadcast_rounds.Goals as goal

-- what is known once the size is
taken : (c : After-size_of-size) → let a = c.args in Accepted a.h a.table.now a.source a.scope a.room.now
taken c = accepted c.in_ok-refused.ensures

sized : (c : After-size_of-size) → let a = c.args in c.size_of-size.result ≡ scope_size a.h a.scope
sized c =
    let k = taken c in
    scope_size_lem c.args.h c.args.scope _ k.sound.is_valid k.scope c.size_of-size.ensures

pub returns-in_err-refused : goal.returns-in_err-refused
returns-in_err-refused c = record {
  answer = rw (handed _ c.from_residual.ensures) (answered_refused _ no_broadcast _ _ c.in_err-refused.ensures);
  room = answered_refused _ (λ _. c.args.room.now) _ _ c.in_err-refused.ensures;
}

pub nonzero_div-from : goal.nonzero_div-from
nonzero_div-from c = let here = (goal.at.nonzero_div-from c).After-size_of-size in size_pos (taken here) (sized here)

pub overflow_add-to : goal.overflow_add-to
overflow_add-to c = let here = (goal.at.overflow_add-to c).After-size_of-size in omega (arith, run_ends (taken here) (sized here) _ refl)

pub nonzero_rem-origin : goal.nonzero_rem-origin
nonzero_rem-origin c = let here = (goal.at.nonzero_rem-origin c).After-size_of-size in size_pos (taken here) (sized here)

pub fitted_places-count-requires : goal.fitted_places-count-requires
fitted_places-count-requires c = let here = (goal.at.fitted_places-count-requires c).After-size_of-size in scoped (taken here) (sized here)

pub begin-requires : goal.begin-requires
begin-requires c =
    let here = (goal.at.begin-requires c).After-size_of-size in
    let k = taken here in
    (rw (sized here) k.long, origin_low k (sized here))

pub returns-then-count-eq0 : goal.returns-then-count-eq0
returns-then-count-eq0 c =
    let here = (goal.at.returns-then-count-eq0 c).After-size_of-size in
    let f = c.fitted_places-count in record {
      answer = answer_alone (taken here) (sized here) f.ensures c.begin.ensures c.in_ok-refused.ensures c.if-count-eq0.true;
      room = room_alone (taken here) (sized here) f.ensures c.begin.ensures c.in_ok-refused.ensures c.if-count-eq0.true;
    }

pub slice_bounds-run-end : goal.slice_bounds-run-end
slice_bounds-run-end c = let here = (goal.at.slice_bounds-run-end c).After-size_of-size in omega (arith, run_ends (taken here) (sized here) _ refl)

pub run-requires : goal.run-requires
run-requires c =
    let here = (goal.at.run-requires c).After-size_of-size in
    begun_ready (taken here) (sized here) c.fitted_places-count.ensures c.begin.ensures c.in_ok-refused.ensures c.if-count-eq0.false

pub tally-requires : goal.tally-requires
tally-requires c =
    let here = (goal.at.tally-requires c).After-size_of-size in
    room_long (taken here) (sized here) c.fitted_places-count.ensures c.begin.ensures c.in_ok-refused.ensures c.if-count-eq0.false
    (run_is (taken here) (sized here) _ refl) c.run.ensures

pub returns : goal.returns
returns c =
    let here = (goal.at.returns c).After-size_of-size in
    let e = c.in_ok-refused.ensures in
    let f = c.fitted_places-count.ensures in
    let m = c.begin.ensures in
    let d = c.if-count-eq0.false in
    let part = run_is (taken here) (sized here) _ refl in record {
      answer = answer_is (taken here) (sized here) f m e d part c.run.ensures c.tally.result c.tally.ensures;
      room = room_at_exit (taken here) (sized here) f m e d part c.run.ensures;
    }
