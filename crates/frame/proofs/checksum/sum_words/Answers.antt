-- `frame::checksum::sum_words` meets its contract. Invariant: the sum is that of the words passed, each of which fits 32 bits.
use Rattle.std.proofs.Common.{sym, arith}
use Rattle.frame.specs.Layout.{word_at}
use Rattle.frame.proofs.Sums.{total_none, total_more}
use Rattle.frame.proofs.checksum.sum_words.Goals as goal

pub loop-i-init : goal.loop-i-init
loop-i-init c = (omega arith, sym (total_none _))

pub loop-i-preserved : goal.loop-i-preserved
loop-i-preserved c =
    let w = c.word_at in
    let l = c.loop-i in
    let f = c.args.frame.now in
    (omega arith, omega (arith, w.ensures, l.invariant.1, total_more (word_at f) l.i))
