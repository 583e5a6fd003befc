-- `broadcast::sweeps::over_switch` meets its contract: a switch with nobody ready reaches nobody, any other those with port 0 up.
use mathlib.Core.Path.{◌∙◌, sym}
use Rattle.broadcast.specs.Sweeps.{reached_by, open_on, on_switch}
use Rattle.broadcast.proofs.Marks.{sweep_none, sweep_cong}
use Rattle.broadcast.proofs.Reaches.{dead_switch, live_switch}
use Rattle.broadcast.proofs.sweeps.over_switch.Goals as goal

pub returns-then-not-is_live : goal.returns-then-not-is_live
returns-then-not-is_live c =
    let a = c.args in
    let v = c.is_live in
    sweep_none (on_switch a.h a.table.now (reached_by a.r a.room.now) a.s) a.r a.room.now
    (λ x. dead_switch a.h a.table.now (reached_by a.r a.room.now) a.s a.room.now x (sym v.ensures ∙ c.if-not-is_live.true))

pub returns : goal.returns
returns c =
    let a = c.args in
    let v = c.is_live in
    let f = c.fill_switch in
    sweep_cong (open_on a.h a.table.now a.s) (on_switch a.h a.table.now (reached_by a.r a.room.now) a.s) a.r a.room.now _ f.result
    (λ x. live_switch a.h a.table.now (reached_by a.r a.room.now) a.s a.room.now x (sym v.ensures ∙ c.if-not-is_live.false))
    f.ensures
