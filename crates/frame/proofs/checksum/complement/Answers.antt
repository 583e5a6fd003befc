-- `frame::checksum::complement` meets its contract: the folded sum is 0 for 0 alone, and else one more than what is left by 65,535 of one less.
use Rattle.std.proofs.Common.{arith, eq-eqb, ne_eqb}
use Rattle.frame.specs.Checksum.{folded}
use Rattle.frame.proofs.checksum.complement.Goals as goal

pub returns-then-sum-eq0 : goal.returns-then-sum-eq0
unfolding folded
returns-then-sum-eq0 c = rw (eq-eqb _ 0 c.if-sum-eq0.true)

pub returns : goal.returns
unfolding folded
returns c = rw (ne_eqb _ 0 c.if-sum-eq0.false) (omega arith)
