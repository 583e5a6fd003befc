-- `report::lengths::end_length` meets its contract: the word, the digits and the newline.
use native.Mathlib.Omega.{arith}
use Rattle.report.specs.Texts.{newline}
use Rattle.report.proofs.Texts.{with_length, end_parts}
use Rattle.report.proofs.lengths.end_length.Goals as goal

pub returns : goal.returns
returns c =
    omega (arith, c.digits.ensures.length, end_parts c.args.packets, with_length newline c.args.packets)
