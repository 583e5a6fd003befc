-- `header::writing::first_word` meets its contract: each field is put where the layout has it, and there are at most six words.
use mathlib.Core.Path.{sym}
use Rattle.header.proofs.Written.{first_is}
use Rattle.header.proofs.writing.first_word.Goals as goal

pub returns : goal.returns
returns c = rw c.count_of-words.ensures (sym (first_is c.args.fields))
