-- `report::end_line` meets its contract: each part stands behind the one before it, and the room is as long as they are together.
use Prim.Native.Nat.{◌+◌, ◌≤◌}
use native.Mathlib.Omega.{arith}
use lib.ListN.{length}
use Rattle.report.specs.Texts.{newline, word_end, number_with, end_line}
use Rattle.report.proofs.Rooms.{put_next, by_length, line_short, line_written, line_fits}
use Rattle.report.proofs.Texts.{end_parts}
use Rattle.report.proofs.end_line.Goals.{Else-not-room_behind}
use Rattle.report.proofs.end_line.Goals as goal

-- where the room is not short, it has the whole line behind its place
behind : (c : Else-not-room_behind) → c.args.at + length (end_line c.args.packets) ≤ length c.args.room.now
behind c =
    let a = c.args in
    let n = c.end_length in
    let r = c.room_behind in
    line_fits a.room.now a.at (end_line a.packets) r.result (by_length a.at n.result (end_line a.packets) a.room.now r.result n.ensures r.ensures)
    c.if-not-room_behind.false

pub returns-then-not-room_behind : goal.returns-then-not-room_behind
returns-then-not-room_behind c =
    let it = let a = c.args in
    let n = c.end_length in
    let r = c.room_behind in
    line_short a.room.now a.at (end_line a.packets) r.result (by_length a.at n.result (end_line a.packets) a.room.now r.result n.ensures r.ensures)
    c.if-not-room_behind.true in record { answer = it.0; room = it.1 }

pub put_bytes-packets_at-requires : goal.put_bytes-packets_at-requires
put_bytes-packets_at-requires c =
    let a = c.args in
    omega (arith, behind (goal.at.put_bytes-packets_at-requires c).Else-not-room_behind, end_parts a.packets)

pub put_with-end-requires : goal.put_with-end-requires
put_with-end-requires c =
    let a = c.args in
    omega (arith, behind (goal.at.put_with-end-requires c).Else-not-room_behind, end_parts a.packets, c.put_bytes-packets_at.ensures.next, c.put_bytes-packets_at.auto.room)

pub returns : goal.returns
unfolding end_line
returns c =
    let it = let a = c.args in
    let n = c.end_length in
    let r = c.room_behind in
    let l = behind (goal.at.returns c).Else-not-room_behind in
    let f = end_parts a.packets in
    let b = c.put_bytes-packets_at in
    let w0 = c.put_with-end in
    let s0 = put_next a.room.now a.at (word_end) (number_with newline a.packets) b.result w0.result b.new.room w0.new.room (b.ensures.next, b.ensures.room) (w0.ensures.next, w0.ensures.room)
    (omega (arith, b.ensures.next)) in
    line_written a.room.now a.at (end_line a.packets) r.result (by_length a.at n.result (end_line a.packets) a.room.now r.result n.ensures r.ensures)
    c.if-not-room_behind.false w0.result w0.new.room s0 in record { answer = it.0; room = it.1 }
