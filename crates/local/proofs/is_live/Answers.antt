-- `local::is_live` meets its contract. The loop's invariant: none of the servers passed gives.
use mathlib.Core.Path.{◌≡◌, ◌∙◌, sym}
use native.Mathlib.Omega.{arith}
use Rattle.combine.proofs.Tests.{any_none, any_more, any_in}
use Rattle.ports.specs.Links.{switch_has}
use Rattle.local.specs.Looks.{gives_by}
use Rattle.local.proofs.is_live.Goals as goal

pub loop-i-init : goal.loop-i-init
loop-i-init c = any_none _

pub returns-then-gives : goal.returns-then-gives
unfolding switch_has
returns-then-gives c =
    let a = c.args in
    sym (any_in (gives_by a.h a.table.now a.d.now a.r a.s) _ c.loop-i.i c.loop-i-test.true (sym c.gives.ensures ∙ c.if-gives.true))

pub loop-i-preserved : goal.loop-i-preserved
loop-i-preserved c =
    let a = c.args in
    rw (any_more (gives_by a.h a.table.now a.d.now a.r a.s), c.loop-i.invariant, ← c.gives.ensures) c.if-gives.false

pub returns : goal.returns
unfolding switch_has
returns c =
    let e : c.loop-i.i ≡ c.args.h.n = omega arith in
    sym (rw e at c.loop-i.invariant)
