-- `report::lengths::refused_length` meets its contract: the word, and the digits of each number with a byte behind them.
use native.Mathlib.Omega.{arith}
use Rattle.report.specs.Texts.{space, newline}
use Rattle.report.proofs.Texts.{with_length, refused_parts}
use Rattle.report.proofs.lengths.refused_length.Goals as goal

pub returns : goal.returns
returns c =
    let a = c.args in
    omega (
      arith,
      c.digits.ensures.length,
      c.digits-2.ensures.length,
      refused_parts a.number a.place,
      with_length space a.number,
      with_length newline a.place,
    )
