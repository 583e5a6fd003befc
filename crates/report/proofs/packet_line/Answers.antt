-- `report::packet_line` meets its contract: the head, the uids and the newline stand one behind the other, and the room is as long as they are together.
use mathlib.Core.Path.{◌≡◌}
use mathlib.Core.List.{◌++◌}
use Prim.Native.Nat.{min, ◌+◌, ◌≤◌}
use native.Mathlib.Omega.{arith}
use lib.ListN.{length, take}
use Rattle.report.specs.Texts.{newline, packet_head, uids_text, packet_line}
use Rattle.report.proofs.Rooms.{put_next, byte_next, line_short, line_written, line_fits}
use Rattle.report.proofs.Texts.{line_parts, line_told, take_given}
use Rattle.report.proofs.packet_line.Goals.{After-put_uids-newline_at, Else-not-packet_fits}
use Rattle.report.proofs.packet_line.Goals as goal

-- where the room is not short, it has the whole line behind its place
behind : (c : Else-not-packet_fits) → c.args.at + length (packet_line c.args.p c.args.uids.now) ≤ length c.args.room.now
behind c =
    let a = c.args in
    let r = c.packet_fits in
    line_fits a.room.now a.at (packet_line a.p a.uids.now) r.result r.ensures c.if-not-packet_fits.false

-- the newline's place is the last of the line
newline_in : (c : After-put_uids-newline_at) → c.put_uids-newline_at.result + 1 ≤ length c.args.room.now
newline_in c =
    let a = c.args in
    let n = c.passed in
    let t = line_told a.p a.uids.now n.result n.ensures in
    omega (arith, line_fits a.room.now a.at (packet_line a.p a.uids.now) _ c.packet_fits.ensures c.if-not-packet_fits.false, c.put_packet-uids_at.ensures.next, c.put_uids-newline_at.ensures.next)

pub returns-then-not-packet_fits : goal.returns-then-not-packet_fits
returns-then-not-packet_fits c =
    let it = let a = c.args in
    let r = c.packet_fits in
    line_short a.room.now a.at _ r.result r.ensures c.if-not-packet_fits.true in record { answer = it.0; room = it.1 }

pub put_packet-uids_at-requires : goal.put_packet-uids_at-requires
put_packet-uids_at-requires c =
    let a = c.args in
    omega (arith, behind (goal.at.put_packet-uids_at-requires c).Else-not-packet_fits, line_parts a.p a.uids.now)

pub put_uids-newline_at-requires : goal.put_uids-newline_at-requires
put_uids-newline_at-requires c =
    let a = c.args in
    let p = c.put_packet-uids_at in
    let n = c.passed in
    let t = line_told a.p a.uids.now n.result n.ensures in
    omega (arith, behind (goal.at.put_uids-newline_at-requires c).Else-not-packet_fits, p.ensures.next, p.auto.room)

pub bounds-room-newline_at : goal.bounds-room-newline_at
bounds-room-newline_at c = omega (arith, newline_in (goal.at.bounds-room-newline_at c).After-put_uids-newline_at, c.put_packet-uids_at.auto.room, c.put_uids-newline_at.auto.room)

pub overflow_add-result : goal.overflow_add-result
overflow_add-result c = omega (arith, newline_in (goal.at.overflow_add-result c).After-put_uids-newline_at)

pub returns : goal.returns
unfolding packet_line
returns c =
    let it = let a = c.args in
    let r = c.packet_fits in
    let p = c.put_packet-uids_at in
    let n = c.passed in
    let u = c.put_uids-newline_at in
    let l = newline_in (goal.at.returns c).After-put_uids-newline_at in
    let e : take n.result a.uids.now ≡ take (min (a.p.links + 1) 256) a.uids.now =
    rw n.ensures (take_given a.uids.now (min (a.p.links + 1) 256)) in
    let s = put_next a.room.now a.at (packet_head a.p) (uids_text (take n.result a.uids.now)) p.result u.result p.new.room u.new.room
    (p.ensures.next, p.ensures.room) (u.ensures.next, u.ensures.room) (omega (arith, p.ensures.next, u.ensures.next)) in
    let w = byte_next a.room.now a.at (packet_head a.p ++ uids_text (take n.result a.uids.now)) u.result u.new.room newline s (omega arith) in
    line_written a.room.now a.at _ r.result r.ensures c.if-not-packet_fits.false (u.result + 1) _ (rw e at w) in record { answer = it.0; room = it.1 }
