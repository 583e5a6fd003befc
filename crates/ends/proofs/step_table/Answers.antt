-- `ends::step_table` meets its contract: refused as the part is, by 6 where the room is short, else the part and the far codes behind it, which in a
-- full hall count as they stand and in another are counted then.
use mathlib.Core.Path.{refl, sym, ◌∙◌, ap}
use mathlib.Core.List.{List}
use Prim.Native.Nat.{ℕ, ◌-◌, ◌*◌, ◌≤◌}
use native.Mathlib.Omega.{arith}
use lib.ListN.{length}
use Rattle.hall.proofs.Growth.{valid_known}
use Rattle.hall.proofs.Stated.{handed, refusal_told, refusal_unwritten}
use Rattle.hall.specs.Halls.{top}
use Rattle.local.specs.Local.{places}
use Rattle.plan.proofs.Asks.{full_is}
use Rattle.counted.proofs.Counted.{counted_full}
use Rattle.ends.specs.Tables.{step_length, step_table}
use Rattle.ends.proofs.Codes.{far_few, cell_bytes}
use Rattle.ends.proofs.Answers.{Parted, parted, plain_room, table_short, table_told, table_written}
use Rattle.ends.proofs.Counts.{counted_table}
use Rattle.ends.proofs.step_table.Goals.{After-struct_known-1}
use Rattle.ends.proofs.step_table.Goals as goal

-- what is worked out where nothing is refused
known : (c : After-struct_known-1) → Parted c.args.h c.args.table.now c.args.uid c.part_of-part.result.now c.size_of.result
known c =
    parted c.args.h c.args.table.now c.args.uid c.in_ok-part_refusal.ensures _ _ c.part_of-part.ensures c.size_of.ensures

few : (c : After-struct_known-1) → c.size_of.result * (c.args.h.k - c.args.h.b) ≤ places * top
few c = omega (arith, (known c).far_is, far_few c.args.h (known c).sound.is_valid)

pub returns-in_err-part_refusal : goal.returns-in_err-part_refusal
returns-in_err-part_refusal c = record {
  number = rw (handed _ c.from_residual.ensures, ← c.in_err-part_refusal.ensures) (refusal_told _ _ _);
  room = rw (← c.in_err-part_refusal.ensures) (refusal_unwritten _ _ _);
}

pub overflow_sub-far : goal.overflow_sub-far
overflow_sub-far c = omega (arith, (valid_known _ (known (goal.at.overflow_sub-far c).After-struct_known-1).sound.is_valid).b_low)

pub overflow_mul-far : goal.overflow_mul-far
overflow_mul-far c = omega (arith, few (goal.at.overflow_mul-far c).After-struct_known-1)

pub overflow_add-near : goal.overflow_add-near
overflow_add-near c =
    let here = (goal.at.overflow_add-near c).After-struct_known-1 in
    let k = known here in
    omega (arith, few here, k.near_long, cell_bytes c.args.h k.sound.is_valid)

pub returns-then-room-near : goal.returns-then-room-near
returns-then-room-near c = let it = table_short c.args.h c.args.table.now c.args.uid c.in_ok-part_refusal.ensures c.args.room.now
    (omega (arith, c.if-room-near.true, (known (goal.at.returns-then-room-near c).After-struct_known-1).wanted)) in record { number = it.0; room = it.1 }

pub put_far-requires : goal.put_far-requires
put_far-requires c =
    let k = known (goal.at.put_far-requires c).After-struct_known-1 in
    (k.sound.is_valid, k.sound.below, omega (arith, k.wanted, c.if-room-near.false, k.far_is, c.put_bytes.auto.room))

pub returns-then-h-racks_of : goal.returns-then-h-racks_of
returns-then-h-racks_of c =
    let a = c.args in
    let z = c.in_ok-part_refusal.ensures in
    let k = known (goal.at.returns-then-h-racks_of c).After-struct_known-1 in
    let m : step_length a.h ≤ length a.room.now = omega (arith, k.wanted, c.if-room-near.false) in
    let f = full_is a.h c.racks_of.result k.sound.is_valid c.racks_of.ensures c.if-h-racks_of.true in
    let t = counted_full a.h 0 a.table.now f in record {
      number = table_told a.h a.table.now a.uid z a.room.now m;
      room = plain_room a.h a.table.now a.uid _ _ k a.room.now m _ _ c.put_bytes.ensures c.put_far.ensures
          ∙ table_written a.h a.table.now a.uid z a.room.now m _ (ap (λ (x : List ℕ). step_table a.h x a.uid) (sym t));
    }

pub count_codes-requires : goal.count_codes-requires
count_codes-requires c =
    let k = known (goal.at.count_codes-requires c).After-struct_known-1 in
    (k.sound.is_valid, k.sound.below, k.near_long, omega (arith, k.wanted, c.if-room-near.false, c.put_far.auto.room, c.put_bytes.auto.room))

pub returns : goal.returns
returns c =
    let a = c.args in
    let z = c.in_ok-part_refusal.ensures in
    let k = known (goal.at.returns c).After-struct_known-1 in
    let m : step_length a.h ≤ length a.room.now = omega (arith, k.wanted, c.if-room-near.false) in
    let p = plain_room a.h a.table.now a.uid _ _ k a.room.now m _ _ c.put_bytes.ensures c.put_far.ensures in record {
      number = table_told a.h a.table.now a.uid z a.room.now m;
      room = c.count_codes.ensures
          ∙ counted_table a.h a.table.now a.uid k.sound a.room.now m _ p
          ∙ table_written a.h a.table.now a.uid z a.room.now m _ refl;
    }
