-- `report::refused_line` meets its contract: each part stands behind the one before it, and the room is as long as they are together.
use mathlib.Core.List.{◌++◌}
use Prim.Native.Nat.{◌+◌, ◌≤◌}
use native.Mathlib.Omega.{arith}
use lib.ListN.{length}
use Rattle.report.specs.Texts.{space, newline, word_refused, number_with, refused_line}
use Rattle.report.proofs.Rooms.{put_next, by_length, line_short, line_written, line_fits}
use Rattle.report.proofs.Texts.{refused_parts}
use Rattle.report.proofs.refused_line.Goals.{Else-not-room_behind}
use Rattle.report.proofs.refused_line.Goals as goal

-- where the room is not short, it has the whole line behind its place
behind : (c : Else-not-room_behind) → c.args.at + length (refused_line c.args.number c.args.place) ≤ length c.args.room.now
behind c =
    let a = c.args in
    let n = c.refused_length in
    let r = c.room_behind in
    line_fits a.room.now a.at (refused_line a.number a.place) r.result (by_length a.at n.result (refused_line a.number a.place) a.room.now r.result n.ensures r.ensures)
    c.if-not-room_behind.false

pub returns-then-not-room_behind : goal.returns-then-not-room_behind
returns-then-not-room_behind c =
    let it = let a = c.args in
    let n = c.refused_length in
    let r = c.room_behind in
    line_short a.room.now a.at (refused_line a.number a.place) r.result (by_length a.at n.result (refused_line a.number a.place) a.room.now r.result n.ensures r.ensures)
    c.if-not-room_behind.true in record { answer = it.0; room = it.1 }

pub put_bytes-number_at-requires : goal.put_bytes-number_at-requires
put_bytes-number_at-requires c =
    let a = c.args in
    omega (arith, behind (goal.at.put_bytes-number_at-requires c).Else-not-room_behind, refused_parts a.number a.place)

pub put_with-place_at-requires : goal.put_with-place_at-requires
put_with-place_at-requires c =
    let a = c.args in
    omega (arith, behind (goal.at.put_with-place_at-requires c).Else-not-room_behind, refused_parts a.number a.place, c.put_bytes-number_at.ensures.next, c.put_bytes-number_at.auto.room)

pub put_with-end-requires : goal.put_with-end-requires
put_with-end-requires c =
    let a = c.args in
    omega (arith, behind (goal.at.put_with-end-requires c).Else-not-room_behind, refused_parts a.number a.place, c.put_bytes-number_at.ensures.next, c.put_bytes-number_at.auto.room, c.put_with-place_at.ensures.next, c.put_with-place_at.auto.room)

pub returns : goal.returns
unfolding refused_line
returns c =
    let it = let a = c.args in
    let n = c.refused_length in
    let r = c.room_behind in
    let l = behind (goal.at.returns c).Else-not-room_behind in
    let f = refused_parts a.number a.place in
    let b = c.put_bytes-number_at in
    let w0 = c.put_with-place_at in
    let w1 = c.put_with-end in
    let s0 = put_next a.room.now a.at (word_refused) (number_with space a.number) b.result w0.result b.new.room w0.new.room (b.ensures.next, b.ensures.room) (w0.ensures.next, w0.ensures.room)
    (omega (arith, b.ensures.next)) in
    let s1 = put_next a.room.now a.at (word_refused ++ number_with space a.number) (number_with newline a.place) w0.result w1.result w0.new.room w1.new.room s0 (w1.ensures.next, w1.ensures.room)
    (omega (arith, b.ensures.next, w0.ensures.next, s0.0)) in
    line_written a.room.now a.at (refused_line a.number a.place) r.result (by_length a.at n.result (refused_line a.number a.place) a.room.now r.result n.ensures r.ensures)
    c.if-not-room_behind.false w1.result w1.new.room s1 in record { answer = it.0; room = it.1 }
