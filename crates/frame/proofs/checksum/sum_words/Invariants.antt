-- `frame::checksum::sum_words` meets its contract. Invariant: the sum is that of the words passed, each of which fits 32 bits.
use Rattle.std.proofs.Common.{◌≡◌, ◌*◌, ◌≤◌}
use Rattle.frame.specs.Layout.{word_at}
use Rattle.frame.specs.Checksum.{total}
use Rattle.frame.proofs.checksum.sum_words.Given as goal

abbrev pub invariant-loop-i : goal.invariant-loop-i
invariant-loop-i l = (l.sum ≤ 4294967295 * l.i) × (l.sum ≡ total (word_at l.frame) l.i)
