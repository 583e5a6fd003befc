-- `report::puts::put_with` meets its contract: the byte stands behind the number's digits, and the room has one byte more than they take.
use native.Mathlib.Omega.{arith}
use Rattle.report.specs.Texts.{decimal, number_with}
use Rattle.report.proofs.Rooms.{byte_next}
use Rattle.report.proofs.Texts.{with_length}
use Rattle.report.proofs.puts.put_with.Goals as goal

pub put_number-next-requires : goal.put_number-next-requires
put_number-next-requires c = omega (arith, with_length c.args.behind c.args.v)

pub bounds-room-next : goal.bounds-room-next
bounds-room-next c =
    let p = c.put_number-next in
    omega (arith, p.ensures.next, p.auto.room, with_length c.args.behind c.args.v)

pub overflow_add-result : goal.overflow_add-result
overflow_add-result c =
    let p = c.put_number-next in
    omega (arith, p.ensures.next, with_length c.args.behind c.args.v)

pub returns : goal.returns
unfolding number_with
returns c =
    let it = let p = c.put_number-next in
    let a = c.args in
    byte_next a.room.now a.at (decimal a.v) p.result p.new.room a.behind (p.ensures.next, p.ensures.room)
    (omega (arith, p.ensures.next, with_length a.behind a.v)) in record { next = it.0; room = it.1 }
