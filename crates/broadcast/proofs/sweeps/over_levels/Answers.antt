-- `broadcast::sweeps::over_levels` meets its contract: the loop has swept the links of the levels that it has passed.
use mathlib.Core.Path.{◌≡◌, refl}
use mathlib.Core.Bool.{Bool}
use mathlib.Core.List.{List}
use Prim.Native.Nat.{ℕ, ◌≤◌, ◌+◌}
use native.Mathlib.Omega.{arith}
use Rattle.combine.specs.Tests.{either}
use Rattle.hall.specs.Cells.{t}
use Rattle.hall.proofs.Growth.{t_next}
use Rattle.broadcast.specs.Sweeps.{Sweep, reached_by, on_links, on_levels}
use Rattle.broadcast.proofs.Grid.{scope_product}
use Rattle.broadcast.proofs.Marks.{or_either, sweep_none, sweep_cong, sweep_then}
use Rattle.broadcast.proofs.Reaches.{reads_same, levels_start, levels_next, cell_fits}
use Rattle.broadcast.proofs.sweeps.over_levels.Goals as goal

first_size : (n : ℕ) → n ≡ t n 0
unfolding t
first_size n = refl

pub loop-j-init : goal.loop-j-init
loop-j-init c =
    let a = c.args in
    (first_size a.h.n, sweep_none (on_levels a.h a.table.now (reached_by a.r a.room.now) a.size 0) a.r a.room.now (levels_start a.h a.table.now (reached_by a.r a.room.now) a.size a.room.now))

pub overflow_add-cell : goal.overflow_add-cell
overflow_add-cell c =
    let a = c.args in
    let k = c.requires in
    let w = c.loop-j in
    omega (arith, w.invariant.0, cell_fits a.h a.levels a.size a.r a.room.now k w.j c.loop-j-test.true)

pub overflow_mul-cell : goal.overflow_mul-cell
overflow_mul-cell c =
    let a = c.args in
    let k = c.requires in
    let w = c.loop-j in
    let b : w.cell ≤ 72 = omega (arith, w.invariant.0, cell_fits a.h a.levels a.size a.r a.room.now k w.j c.loop-j-test.true) in
    omega (arith, scope_product (w.cell + 1) w.cell (omega arith) b)

pub loop-j-preserved : goal.loop-j-preserved
loop-j-preserved c =
    let a = c.args in
    let k = c.requires in
    let w = c.loop-j in
    let f = c.over_links-any in
    let old : List ℕ = a.room.now in
    let p : ℕ → Bool = reached_by a.r old in
    let q : ℕ → Bool = on_levels a.h a.table.now p a.size w.j in
    let same = reads_same q a.r old w.room w.any (omega (arith, k.small)) w.invariant.1 in
    let mine : Sweep (on_links a.h a.table.now p a.size w.j) a.r w.room _ f.result = rw same at f.ensures in
    let swept = sweep_cong (λ y. either (q y) (on_links a.h a.table.now p a.size w.j y)) (on_levels a.h a.table.now p a.size (w.j + 1)) a.r old _ (either w.any f.result)
    (levels_next a.h a.table.now p a.size w.j old)
    (sweep_then q (on_links a.h a.table.now p a.size w.j) a.r old w.room _ w.any f.result (omega (arith, k.small)) w.invariant.1 mine) in
    (t_next a.h.n w.j w.cell w.invariant.0, rw or_either swept)
