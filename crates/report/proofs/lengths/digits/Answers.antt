-- `report::lengths::digits` meets its contract: a number below ten has one digit, and another has a digit more than the power of ten that it reaches.
use mathlib.Core.Path.{sym, ap}
use native.Mathlib.Omega.{arith}
use lib.ListN.{length}
use Rattle.report.proofs.Texts.{decimal_small, decimal_power_length}
use Rattle.report.proofs.lengths.digits.Goals as goal

pub returns-then-v-lt10-clause-length : goal.returns-then-v-lt10-clause-length
returns-then-v-lt10-clause-length c = sym (ap length (decimal_small c.args.v c.if-v-lt10.true))

pub returns-clause-length : goal.returns-clause-length
returns-clause-length c =
    let p = c.ilog10.ensures in
    omega (arith, decimal_power_length c.ilog10.result c.args.v p.power_le p.next_power_gt)
