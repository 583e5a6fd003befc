-- `frame::layout::word_at` meets its contract: the four bytes are those that the definition names.
use native.Mathlib.Omega.{arith}
use Rattle.frame.specs.Layout.{word_at}
use Rattle.frame.proofs.layout.word_at.Goals as goal

pub returns : goal.returns
unfolding word_at
returns c = omega (arith, c.from_be_bytes.ensures)
