-- `broadcast::sweeps::fill_switch` meets its contract: the loop has swept the servers of the switch that it has passed.
use mathlib.Core.Path.{◌≡◌, ◌∙◌, sym}
use Prim.Native.Nat.{ℕ, ◌+◌, ◌*◌}
use native.Mathlib.Omega.{arith}
use Rattle.ports.specs.Codes.{up}
use Rattle.broadcast.specs.Sweeps.{open_on, fresh}
use Rattle.broadcast.proofs.Marks.{below, sweep_none, sweep_cong, sweep_skip, sweep_store, fresh_now}
use Rattle.broadcast.proofs.Reaches.{open_start, open_here, open_end}
use Rattle.broadcast.proofs.sweeps.fill_switch.Goals.{then-is_open, else-is_open}
use Rattle.broadcast.proofs.sweeps.fill_switch.Goals as goal

pub loop-x-init : goal.loop-x-init
loop-x-init c =
    let a = c.args in
    sweep_none (below (open_on a.h a.table.now a.s) (a.s * a.h.n)) a.r a.room.now (open_start a.h a.table.now a.s a.room.now)

pub loop-x-preserved : goal.loop-x-preserved
loop-x-preserved c =
    let a = c.args in
    let w = c.loop-x in
    let q : ℕ → _ = open_on a.h a.table.now a.s in
    let e : c.is_open.result ≡ fresh q a.room.now w.x =
    c.is_open.ensures
    ∙ fresh_now q a.r a.room.now w.room w.any w.x (λ y. up a.h a.table.now y 0) w.invariant
    ∙ open_here a.h a.table.now a.s a.room.now w.x (omega arith) (omega arith) in
    elim c.if-is_open.branch [
      | then-is_open b ↦ rw (b.room-is, b.any-is) (sweep_store q a.r a.room.now w.room w.any w.x w.invariant (sym e ∙ b.if-is_open.true))
      | else-is_open b ↦ rw (b.room-is, b.any-is) (sweep_skip q a.r a.room.now w.room w.any w.x w.invariant (sym e ∙ b.if-is_open.false))
    ]

pub returns : goal.returns
returns c =
    let a = c.args in
    let w = c.loop-x in
    let e : w.x ≡ a.s * a.h.n + a.h.n = omega arith in
    sweep_cong (below (open_on a.h a.table.now a.s) (a.s * a.h.n + a.h.n)) (open_on a.h a.table.now a.s) a.r a.room.now w.room w.any
    (open_end a.h a.table.now a.s a.room.now) (rw e at w.invariant)
