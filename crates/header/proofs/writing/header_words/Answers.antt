-- `header::writing::header_words` meets its contract: the rows of one field are the field, and the other two are made by their functions.
use Rattle.header.proofs.Written.{words_are}
use Rattle.header.proofs.writing.header_words.Goals as goal

pub returns : goal.returns
returns c =
    rw (words_are c.args.fields, ← c.first_word-first.ensures, ← c.third_word-third.ensures)
