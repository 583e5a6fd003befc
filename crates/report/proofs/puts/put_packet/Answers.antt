-- `report::puts::put_packet` meets its contract: each part stands behind the one before it, and the room is as long as they are together.
use mathlib.Core.List.{◌++◌}
use native.Mathlib.Omega.{arith}
use Rattle.report.specs.Texts.{space, colon, number_with, ending_text, packet_head}
use Rattle.report.proofs.Rooms.{put_next, byte_next}
use Rattle.report.proofs.Texts.{head_parts}
use Rattle.report.proofs.puts.put_packet.Goals as goal

pub put_with-dst_at-requires : goal.put_with-dst_at-requires
put_with-dst_at-requires c =
    omega (arith, head_parts c.args.p)

pub put_with-ending_at-requires : goal.put_with-ending_at-requires
put_with-ending_at-requires c =
    let w0 = c.put_with-dst_at in
    omega (arith, c.requires, head_parts c.args.p, w0.ensures.next, w0.auto.room)

pub put_ending-links_at-requires : goal.put_ending-links_at-requires
put_ending-links_at-requires c =
    let w0 = c.put_with-dst_at in
    let w1 = c.put_with-ending_at in
    omega (
      arith,
      c.requires,
      head_parts c.args.p,
      w0.ensures.next,
      w0.auto.room,
      w1.ensures.next,
      w1.auto.room,
    )

pub put_with-reroutes_at-requires : goal.put_with-reroutes_at-requires
put_with-reroutes_at-requires c =
    let w0 = c.put_with-dst_at in
    let w1 = c.put_with-ending_at in
    let w2 = c.put_ending-links_at in
    omega (
      arith,
      c.requires,
      head_parts c.args.p,
      w0.ensures.next,
      w0.auto.room,
      w1.ensures.next,
      w1.auto.room,
      w2.ensures.next,
      w2.auto.room,
    )

pub put_with-colon_at-requires : goal.put_with-colon_at-requires
put_with-colon_at-requires c =
    let w0 = c.put_with-dst_at in
    let w1 = c.put_with-ending_at in
    let w2 = c.put_ending-links_at in
    let w3 = c.put_with-reroutes_at in
    omega (
      arith,
      c.requires,
      head_parts c.args.p,
      w0.ensures.next,
      w0.auto.room,
      w1.ensures.next,
      w1.auto.room,
      w2.ensures.next,
      w2.auto.room,
      w3.ensures.next,
      w3.auto.room,
    )

pub bounds-room-colon_at : goal.bounds-room-colon_at
bounds-room-colon_at c =
    let w0 = c.put_with-dst_at in
    let w1 = c.put_with-ending_at in
    let w2 = c.put_ending-links_at in
    let w3 = c.put_with-reroutes_at in
    let w4 = c.put_with-colon_at in
    omega (
      arith,
      c.requires,
      head_parts c.args.p,
      w0.ensures.next,
      w0.auto.room,
      w1.ensures.next,
      w1.auto.room,
      w2.ensures.next,
      w2.auto.room,
      w3.ensures.next,
      w3.auto.room,
      w4.ensures.next,
      w4.auto.room,
    )

pub overflow_add-result : goal.overflow_add-result
overflow_add-result c =
    let w0 = c.put_with-dst_at in
    let w1 = c.put_with-ending_at in
    let w2 = c.put_ending-links_at in
    let w3 = c.put_with-reroutes_at in
    let w4 = c.put_with-colon_at in
    omega (
      arith,
      c.requires,
      head_parts c.args.p,
      w0.ensures.next,
      w0.auto.room,
      w1.ensures.next,
      w1.auto.room,
      w2.ensures.next,
      w2.auto.room,
      w3.ensures.next,
      w3.auto.room,
      w4.ensures.next,
      w4.auto.room,
    )

pub returns : goal.returns
unfolding packet_head
returns c =
    let it = let a = c.args in
    let l = c.requires in
    let f = head_parts c.args.p in
    let w0 = c.put_with-dst_at in
    let w1 = c.put_with-ending_at in
    let w2 = c.put_ending-links_at in
    let w3 = c.put_with-reroutes_at in
    let w4 = c.put_with-colon_at in
    let t1 = put_next a.room.now a.at (number_with space a.p.source) (number_with space a.p.dst)
    w0.result w1.result w0.new.room w1.new.room (w0.ensures.next, w0.ensures.room) (w1.ensures.next, w1.ensures.room) (omega (arith, w0.ensures.next)) in
    let t2 = put_next a.room.now a.at (number_with space a.p.source ++ number_with space a.p.dst) (ending_text a.p.ending)
    w1.result w2.result w1.new.room w2.new.room (t1) (w2.ensures.next, w2.ensures.room) (omega (arith, w0.ensures.next, w1.ensures.next, t1.0)) in
    let t3 = put_next a.room.now a.at (number_with space a.p.source ++ number_with space a.p.dst ++ ending_text a.p.ending) (number_with space a.p.links)
    w2.result w3.result w2.new.room w3.new.room (t2) (w3.ensures.next, w3.ensures.room) (omega (arith, w0.ensures.next, w1.ensures.next, w2.ensures.next, t2.0)) in
    let t4 = put_next a.room.now a.at (number_with space a.p.source ++ number_with space a.p.dst ++ ending_text a.p.ending ++ number_with space a.p.links) (number_with space a.p.reroutes)
    w3.result w4.result w3.new.room w4.new.room (t3) (w4.ensures.next, w4.ensures.room) (omega (arith, w0.ensures.next, w1.ensures.next, w2.ensures.next, w3.ensures.next, t3.0)) in
    byte_next a.room.now a.at (number_with space a.p.source ++ number_with space a.p.dst ++ ending_text a.p.ending ++ number_with space a.p.links ++ number_with space a.p.reroutes)
    w4.result w4.new.room colon t4 (omega (arith, w0.ensures.next, w1.ensures.next, w2.ensures.next, w3.ensures.next, w4.ensures.next)) in record { next = it.0; room = it.1 }
