-- `frame::checksum::checksum_of` meets its contract: the ones' complement sum of the halves is the folded plain sum of the words, less the field.
use Rattle.std.proofs.Common.{sym, arith}
use Rattle.frame.specs.Layout.{word_at}
use Rattle.frame.proofs.Sums.{total_has, checksum_words}
use Rattle.frame.proofs.Words.{bytes_known, word_fits}
use Rattle.frame.proofs.checksum.checksum_of.Goals as goal

pub overflow_sub-sum_words : goal.overflow_sub-sum_words
overflow_sub-sum_words c =
    let a = c.args in
    omega (arith, c.sum_words.ensures, c.word_at-third.ensures, total_has (word_at a.frame.now) 2 a.count (omega arith))

pub returns : goal.returns
returns c =
    let a = c.args in
    let bytes = bytes_known _ c.type_inv.frame in
    rw (c.complement.ensures, c.sum_words.ensures, c.word_at-third.ensures)
    (sym (checksum_words (word_at a.frame.now) a.count (word_fits a.frame.now bytes) (omega arith)))
