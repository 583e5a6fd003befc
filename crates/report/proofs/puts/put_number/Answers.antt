-- `report::puts::put_number` meets its contract: a single digit stands at the place, and the digits that end at the next place begin at the first.
use mathlib.Core.Path.{◌≡◌, sym, ◌∙◌, ap}
use Prim.Native.Nat.{ℕ, ◌+◌, ◌^◌, ◌<◌}
use native.Mathlib.Omega.{arith}
use lib.ListN.{length}
use Rattle.std.specs.Fmt.{decimal as library_decimal}
use Rattle.words.proofs.Rooms.{put_one}
use Rattle.report.specs.Texts.{decimal}
use Rattle.report.proofs.Rooms.{digits_put}
use Rattle.report.proofs.Texts.{decimal_small, decimal_known}
use Rattle.report.proofs.puts.put_number.Goals as goal

known : (v wide : ℕ) → wide ≡ v → v < 2 ^ 64 → decimal v ≡ library_decimal wide
known v wide e h = decimal_known v h ∙ ap library_decimal (sym e)

pub bounds-room-at : goal.bounds-room-at
bounds-room-at c = omega (arith, ap length (decimal_small c.args.v c.if-v-lt10.true))

pub returns-then-v-lt10 : goal.returns-then-v-lt10
returns-then-v-lt10 c =
    let a = c.args in
    let d = decimal_small a.v c.if-v-lt10.true in
    record { next = rw d; room = rw d (put_one a.room.now a.at (48 + a.v) (omega (arith, ap length d))) }

pub write_digits-requires : goal.write_digits-requires
write_digits-requires c =
    let d = ap length (known c.args.v c.from.result c.from.ensures (omega arith)) in
    (omega arith, omega arith)

pub returns-clause-room : goal.returns-clause-room
returns-clause-room c =
    let a = c.args in
    let w = c.write_digits in
    let d = known a.v c.from.result c.from.ensures (omega arith) in
    let l = ap length d in
    rw d
    (digits_put a.room.now w.new.buf (library_decimal c.from.result) a.at w.result (a.at + c.digits.result)
    (omega (arith, w.ensures.start, c.digits.ensures.length)) (omega (arith, c.digits.ensures.length)) w.ensures.before w.ensures.written)
