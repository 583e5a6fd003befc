-- `report::lengths::ending_length` meets its contract: the word for a delivery, or that for a drop with its number.
use mathlib.Core.Path.{ap}
use native.Mathlib.Omega.{arith}
use lib.ListN.{length}
use Rattle.report.specs.Texts.{space}
use Rattle.report.proofs.Texts.{with_length, ending_delivered, drop-length}
use Rattle.report.proofs.lengths.ending_length.Goals as goal

pub returns-then-ending-eq-DELIVERED : goal.returns-then-ending-eq-DELIVERED
returns-then-ending-eq-DELIVERED c = let e = ap length (ending_delivered c.args.ending c.if-ending-eq-DELIVERED.true) in record { length = omega arith; most = omega arith }

pub returns : goal.returns
returns c =
    let a = c.args in
    let e = drop-length a.ending c.if-ending-eq-DELIVERED.false in
    record { length = omega (arith, c.digits.ensures.length, with_length space a.ending); most = omega (arith, c.digits.ensures.most) }
