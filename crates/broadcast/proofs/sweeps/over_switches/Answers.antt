-- `broadcast::sweeps::over_switches` meets its contract: the loop has swept the switches that it has passed.
use mathlib.Core.Bool.{Bool}
use mathlib.Core.List.{List}
use Prim.Native.Nat.{ℕ, ◌≤◌, ◌<◌, ◌+◌, ◌*◌}
use native.Mathlib.Nat.{mul-le-mul_right}
use native.Mathlib.Omega.{arith}
use Rattle.combine.specs.Tests.{either}
use Rattle.broadcast.specs.Sweeps.{Sweep, reached_by, on_switch, on_switches}
use Rattle.broadcast.proofs.Marks.{or_either, sweep_none, sweep_cong, sweep_then}
use Rattle.broadcast.proofs.Reaches.{reads_same, switches_start, switches_next}
use Rattle.broadcast.proofs.sweeps.over_switches.Goals as goal

-- a switch below so many lies among theirs
next_switch : (s count n : ℕ) → s < count → s * n + n ≤ count * n
next_switch s count n l =
    let b : s + 1 ≤ count = omega arith in
    omega (arith, mul-le-mul_right n b)

pub loop-s-init : goal.loop-s-init
loop-s-init c =
    let a = c.args in
    sweep_none (on_switches a.h a.table.now (reached_by a.r a.room.now) (0 * a.h.n)) a.r a.room.now (switches_start a.h a.table.now (reached_by a.r a.room.now) a.room.now)

pub loop-s-preserved : goal.loop-s-preserved
loop-s-preserved c =
    let a = c.args in
    let k = c.requires in
    let w = c.loop-s in
    let f = c.over_switch-any in
    let old : List ℕ = a.room.now in
    let p : ℕ → Bool = reached_by a.r old in
    let q : ℕ → Bool = on_switches a.h a.table.now p (w.s * a.h.n) in
    let same = reads_same q a.r old w.room w.any (omega (arith, k.3)) w.invariant in
    let mine : Sweep (on_switch a.h a.table.now p w.s) a.r w.room _ f.result = rw same at f.ensures in
    let swept = sweep_cong (λ y. either (q y) (on_switch a.h a.table.now p w.s y)) (on_switches a.h a.table.now p ((w.s + 1) * a.h.n)) a.r old _ (either w.any f.result)
    (switches_next a.h a.table.now p w.s old)
    (sweep_then q (on_switch a.h a.table.now p w.s) a.r old w.room _ w.any f.result (omega (arith, k.3)) w.invariant mine) in
    rw or_either swept
