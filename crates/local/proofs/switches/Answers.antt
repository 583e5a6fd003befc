-- `local::switches` meets its contract: a DCell0 is one switch, a DCell1 has n + 1.
use mathlib.Core.Path.{sym}
use native.Mathlib.Omega.{arith}
use Rattle.hall.proofs.Growth.{valid_known}
use Rattle.local.proofs.Sizes.{size_switch, size_cell, b_one}
use Rattle.local.proofs.switches.Goals as goal

pub returns-then-h-eq0 : goal.returns-then-h-eq0
returns-then-h-eq0 c = let h = c.args.h in let e = size_switch h c.if-h-eq0.true in omega arith

pub overflow_add-result : goal.overflow_add-result
overflow_add-result c = let v = valid_known _ c.requires in omega arith

pub returns : goal.returns
returns c = let h = c.args.h in sym (size_cell h (b_one h (valid_known h c.requires) c.if-h-eq0.false))
