-- `broadcast::sweeps::one_round` meets its contract: the sweep over the switches, then that over the levels, is one over the scope.
use native.Mathlib.Nat.{div-mul-le_self}
use native.Mathlib.Omega.{arith}
use Rattle.broadcast.proofs.Marks.{or_either}
use Rattle.broadcast.proofs.Reaches.{scope_fits_lem}
use Rattle.broadcast.proofs.Whole.{sweeps_make}
use Rattle.broadcast.proofs.sweeps.one_round.Goals as goal

pub over_switches-any-requires : goal.over_switches-any-requires
over_switches-any-requires c =
    let a = c.args in
    let k = c.requires in
    let d = div-mul-le_self a.size a.h.n in
    (omega (arith, k.n_low), omega (arith, k.most, k.inside), omega (arith, scope_fits_lem a.h a.scope a.size a.r a.room.now k), k.small)

pub returns : goal.returns
returns c =
    let a = c.args in
    let k = c.requires in
    let f = c.over_levels in
    let g = c.over_switches-any in
    rw or_either (sweeps_make a.h a.table.now a.scope a.size a.r a.room.now _ _ g.result f.result k g.ensures f.ensures)
