-- `local::lowest_giving` meets its contract. The loop's invariant: what is left of the look for the lowest is the whole look.
use mathlib.Core.Path.{◌≡◌, sym, ◌∙◌}
use native.Mathlib.Omega.{arith}
use Rattle.local.specs.Looks.{gives_by}
use Rattle.local.proofs.Lowest.{lowest_here, lowest_next, lowest_end}
use Rattle.local.proofs.lowest_giving.Goals as goal

pub returns-then-gives : goal.returns-then-gives
returns-then-gives c =
    let a = c.args in
    let w = c.loop-z in
    sym (lowest_here (gives_by a.h a.table.now a.d.now a.r a.s) _ w.z c.loop-z-test.true (sym c.gives.ensures ∙ c.if-gives.true)) ∙ w.invariant

pub loop-z-preserved : goal.loop-z-preserved
loop-z-preserved c =
    let a = c.args in
    let w = c.loop-z in
    lowest_next (gives_by a.h a.table.now a.d.now a.r a.s) _ w.z c.loop-z-test.true (sym c.gives.ensures ∙ c.if-gives.false) ∙ w.invariant

pub returns : goal.returns
returns c =
    let a = c.args in
    let w = c.loop-z in
    let e : w.z ≡ a.h.n = omega arith in
    sym e ∙ sym (lowest_end (gives_by a.h a.table.now a.d.now a.r a.s) _ w.z c.loop-z-test.false) ∙ w.invariant
