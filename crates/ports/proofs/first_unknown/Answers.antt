-- `ports::first_unknown` meets its contract: what is passed is known, so the first unknown of what is left is the table's.
use mathlib.Core.Path.{◌≡◌, sym, ◌∙◌}
use native.Mathlib.Omega.{arith}
use lib.ListN.{length}
use Rattle.ports.proofs.Tables.{first_within, unknown_next, unknown_here, unknown_end}
use Rattle.ports.proofs.first_unknown.Goals as goal

pub returns-then-not-is_known : goal.returns-then-not-is_known
returns-then-not-is_known c =
    let k = c.is_known in
    sym (unknown_here _ _ c.loop-i-test.true (sym k.ensures ∙ c.if-not-is_known.true)) ∙ c.loop-i.invariant

pub loop-i-preserved : goal.loop-i-preserved
loop-i-preserved c =
    let k = c.is_known in
    sym (unknown_next _ _ c.loop-i-test.true (sym k.ensures ∙ c.if-not-is_known.false)) ∙ c.loop-i.invariant

pub returns : goal.returns
returns c =
    let w = c.loop-i in
    let e : w.i ≡ length c.args.table.now = omega (arith, first_within c.args.table.now, c.known_blocks-from.ensures) in
    sym e ∙ sym (unknown_end _ _ c.loop-i-test.false) ∙ w.invariant
