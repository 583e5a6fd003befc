-- `sheet::fields::read_word` meets its contract: the four bytes are there or the sheet is cut.
use mathlib.Core.Path.{sym}
use native.Mathlib.Omega.{arith}
use Rattle.words.proofs.Words.{word_there}
use Rattle.sheet.proofs.Reading.{any_cut, any_there}
use Rattle.sheet.proofs.fields.read_word.Goals as goal

pub returns-then-length-at-lt4 : goal.returns-then-length-at-lt4
returns-then-length-at-lt4 c = sym (any_cut c.args.sheet.now 4 c.args.at (omega arith))

pub returns : goal.returns
returns c =
    let a = c.args in
    rw (c.word_at.ensures, word_there a.sheet.now a.at (omega arith)) (sym (any_there a.sheet.now 4 a.at (omega arith)))
