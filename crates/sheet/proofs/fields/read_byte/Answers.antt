-- `sheet::fields::read_byte` meets its contract: the byte is there or the sheet is cut.
use mathlib.Core.Path.{sym}
use native.Mathlib.Omega.{arith}
use Rattle.words.proofs.Words.{value_one}
use Rattle.sheet.proofs.Reading.{any_cut, any_there}
use Rattle.sheet.proofs.fields.read_byte.Goals as goal

pub returns-then-sheet-at : goal.returns-then-sheet-at
returns-then-sheet-at c = sym (any_cut c.args.sheet.now 1 c.args.at (omega arith))

pub returns : goal.returns
returns c =
    let a = c.args in
    rw (← value_one a.sheet.now a.at) (sym (any_there a.sheet.now 1 a.at (omega arith)))
