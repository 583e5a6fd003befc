-- `report::lengths::hall_length` meets its contract: the word, and the digits of each number with a byte behind them.
use native.Mathlib.Omega.{arith}
use Rattle.report.specs.Texts.{space, newline}
use Rattle.report.proofs.Texts.{with_length, hall_parts}
use Rattle.report.proofs.lengths.hall_length.Goals as goal

pub returns : goal.returns
returns c =
    let h = c.args.h in
    omega (
      arith,
      c.digits.ensures.length,
      c.digits-2.ensures.length,
      c.digits-3.ensures.length,
      hall_parts h,
      with_length space h.n,
      with_length space h.k,
      with_length newline h.b,
    )
