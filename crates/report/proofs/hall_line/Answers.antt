-- `report::hall_line` meets its contract: each part stands behind the one before it, and the room is as long as they are together.
use mathlib.Core.List.{◌++◌}
use Prim.Native.Nat.{◌+◌, ◌≤◌}
use native.Mathlib.Omega.{arith}
use lib.ListN.{length}
use Rattle.report.specs.Texts.{space, newline, word_hall, number_with, hall_line}
use Rattle.report.proofs.Rooms.{put_next, by_length, line_short, line_written, line_fits}
use Rattle.report.proofs.Texts.{hall_parts}
use Rattle.report.proofs.hall_line.Goals.{Else-not-room_behind}
use Rattle.report.proofs.hall_line.Goals as goal

-- where the room is not short, it has the whole line behind its place
behind : (c : Else-not-room_behind) → c.args.at + length (hall_line c.args.h) ≤ length c.args.room.now
behind c =
    let a = c.args in
    let n = c.hall_length in
    let r = c.room_behind in
    line_fits a.room.now a.at (hall_line a.h) r.result (by_length a.at n.result (hall_line a.h) a.room.now r.result n.ensures r.ensures)
    c.if-not-room_behind.false

pub returns-then-not-room_behind : goal.returns-then-not-room_behind
returns-then-not-room_behind c =
    let it = let a = c.args in
    let n = c.hall_length in
    let r = c.room_behind in
    line_short a.room.now a.at (hall_line a.h) r.result (by_length a.at n.result (hall_line a.h) a.room.now r.result n.ensures r.ensures)
    c.if-not-room_behind.true in record { answer = it.0; room = it.1 }

pub put_bytes-n_at-requires : goal.put_bytes-n_at-requires
put_bytes-n_at-requires c =
    let a = c.args in
    omega (arith, behind (goal.at.put_bytes-n_at-requires c).Else-not-room_behind, hall_parts a.h)

pub put_with-k_at-requires : goal.put_with-k_at-requires
put_with-k_at-requires c =
    let a = c.args in
    omega (arith, behind (goal.at.put_with-k_at-requires c).Else-not-room_behind, hall_parts a.h, c.put_bytes-n_at.ensures.next, c.put_bytes-n_at.auto.room)

pub put_with-b_at-requires : goal.put_with-b_at-requires
put_with-b_at-requires c =
    let a = c.args in
    omega (arith, behind (goal.at.put_with-b_at-requires c).Else-not-room_behind, hall_parts a.h, c.put_bytes-n_at.ensures.next, c.put_bytes-n_at.auto.room, c.put_with-k_at.ensures.next, c.put_with-k_at.auto.room)

pub put_with-end-requires : goal.put_with-end-requires
put_with-end-requires c =
    let a = c.args in
    omega (arith, behind (goal.at.put_with-end-requires c).Else-not-room_behind, hall_parts a.h, c.put_bytes-n_at.ensures.next, c.put_bytes-n_at.auto.room, c.put_with-k_at.ensures.next, c.put_with-k_at.auto.room, c.put_with-b_at.ensures.next, c.put_with-b_at.auto.room)

pub returns : goal.returns
unfolding hall_line
returns c =
    let it = let a = c.args in
    let n = c.hall_length in
    let r = c.room_behind in
    let l = behind (goal.at.returns c).Else-not-room_behind in
    let f = hall_parts a.h in
    let b = c.put_bytes-n_at in
    let w0 = c.put_with-k_at in
    let w1 = c.put_with-b_at in
    let w2 = c.put_with-end in
    let s0 = put_next a.room.now a.at (word_hall) (number_with space a.h.n) b.result w0.result b.new.room w0.new.room (b.ensures.next, b.ensures.room) (w0.ensures.next, w0.ensures.room)
    (omega (arith, b.ensures.next)) in
    let s1 = put_next a.room.now a.at (word_hall ++ number_with space a.h.n) (number_with space a.h.k) w0.result w1.result w0.new.room w1.new.room s0 (w1.ensures.next, w1.ensures.room)
    (omega (arith, b.ensures.next, w0.ensures.next, s0.0)) in
    let s2 = put_next a.room.now a.at (word_hall ++ number_with space a.h.n ++ number_with space a.h.k) (number_with newline a.h.b) w1.result w2.result w1.new.room w2.new.room s1 (w2.ensures.next, w2.ensures.room)
    (omega (arith, b.ensures.next, w0.ensures.next, w1.ensures.next, s1.0)) in
    line_written a.room.now a.at (hall_line a.h) r.result (by_length a.at n.result (hall_line a.h) a.room.now r.result n.ensures r.ensures)
    c.if-not-room_behind.false w2.result w2.new.room s2 in record { answer = it.0; room = it.1 }
