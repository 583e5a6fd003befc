-- `broadcast::sweeps::is_live` meets its contract: none of the servers that the loop has passed is ready.
use mathlib.Core.Path.{◌≡◌, ◌∙◌, sym}
use native.Mathlib.Omega.{arith}
use Rattle.combine.proofs.Tests.{any_none, any_more, any_in}
use Rattle.ports.specs.Links.{switch_has}
use Rattle.broadcast.proofs.sweeps.is_live.Invariants.{ready}
use Rattle.broadcast.proofs.sweeps.is_live.Goals as goal

pub loop-i-init : goal.loop-i-init
loop-i-init c = any_none _

pub returns-then-is_ready : goal.returns-then-is_ready
unfolding switch_has
returns-then-is_ready c =
    let a = c.args in
    sym (any_in (ready a.h a.table.now a.room.now a.r a.s) _ c.loop-i.i c.loop-i-test.true (sym c.is_ready.ensures ∙ c.if-is_ready.true))

pub loop-i-preserved : goal.loop-i-preserved
loop-i-preserved c =
    let a = c.args in
    rw (any_more (ready a.h a.table.now a.room.now a.r a.s), c.loop-i.invariant, ← c.is_ready.ensures) c.if-is_ready.false

pub returns : goal.returns
unfolding switch_has
returns c =
    let e : c.loop-i.i ≡ c.args.h.n = omega arith in
    sym (rw e at c.loop-i.invariant)
