-- `words::word_at` meets its contract: the four bytes are there and make the number, or one of them is not.
use native.Mathlib.Omega.{arith}
use Rattle.words.proofs.Words.{value_four, word_there}
use Rattle.words.proofs.word_at.Goals as goal

pub returns : goal.returns
returns c =
    let a = c.args in
    omega (arith, word_there a.bytes.now a.at (omega arith), value_four a.bytes.now a.at, c.from_be_bytes.ensures)
