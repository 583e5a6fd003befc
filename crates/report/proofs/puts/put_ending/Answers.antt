-- `report::puts::put_ending` meets its contract: the word for a delivery, or that for a drop with its number behind it.
use mathlib.Core.Path.{ap}
use native.Mathlib.Omega.{arith}
use lib.ListN.{length}
use Rattle.report.specs.Texts.{space, word_drop, number_with}
use Rattle.report.proofs.Rooms.{put_next}
use Rattle.report.proofs.Texts.{ending_delivered, ending_drop, drop-length}
use Rattle.report.proofs.puts.put_ending.Goals as goal

pub put_bytes-requires : goal.put_bytes-requires
put_bytes-requires c =
    omega (arith, ap length (ending_delivered c.args.ending c.if-ending-eq-DELIVERED.true))

pub returns-then-ending-eq-DELIVERED : goal.returns-then-ending-eq-DELIVERED
returns-then-ending-eq-DELIVERED c =
    let a = c.args in
    record { next = rw (ending_delivered a.ending c.if-ending-eq-DELIVERED.true) c.put_bytes.ensures.next; room = rw (ending_delivered a.ending c.if-ending-eq-DELIVERED.true) c.put_bytes.ensures.room }

pub put_bytes-number_at-requires : goal.put_bytes-number_at-requires
put_bytes-number_at-requires c =
    omega (arith, drop-length c.args.ending c.if-ending-eq-DELIVERED.false)

pub put_with-requires : goal.put_with-requires
put_with-requires c =
    let p = c.put_bytes-number_at in
    omega (arith, p.ensures.next, p.auto.room, c.requires, drop-length c.args.ending c.if-ending-eq-DELIVERED.false)

pub returns : goal.returns
returns c =
    let a = c.args in
    let p = c.put_bytes-number_at in
    let w = c.put_with in
    let e = ending_drop a.ending c.if-ending-eq-DELIVERED.false in
    let it = put_next a.room.now a.at word_drop (number_with space a.ending) p.result w.result p.new.room w.new.room (p.ensures.next, p.ensures.room) (w.ensures.next, w.ensures.room)
    (omega (arith, drop-length a.ending c.if-ending-eq-DELIVERED.false)) in
    record { next = rw e it.0; room = rw e it.1 }
