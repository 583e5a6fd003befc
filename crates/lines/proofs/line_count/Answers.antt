-- `lines::line_count` meets its contract: the first alone, or the first, one for each packet, and the last.
use native.Mathlib.Omega.{arith}
use Rattle.lines.proofs.Lines.{count_refused, count_accepted}
use Rattle.lines.proofs.line_count.Goals as goal

pub returns-then-read-ne0 : goal.returns-then-read-ne0
returns-then-read-ne0 c = omega (arith, count_refused c.args.read c.if-read-ne0.true)

pub returns : goal.returns
returns c = omega (arith, count_accepted c.args.read c.if-read-ne0.false)
