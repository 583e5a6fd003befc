-- `plan::prefix_up_to` meets its contract: the entries, with what is left to fill, stay the whole.
use mathlib.Core.Path.{◌≡◌, ◌∙◌, ap}
use mathlib.Core.List.{List}
use Prim.Native.Nat.{ℕ, zero, suc, ◌+◌, ◌*◌, ◌-◌, ◌≤◌, ◌<◌}
use native.Mathlib.Omega.{arith}
use lib.ListN.{set, replicate, length-set}
use Rattle.combine.specs.Lists.{up_to}
use Rattle.hall.specs.Cells.{t}
use Rattle.hall.specs.Halls.{top, places, Sized, racks, capacity}
use Rattle.hall.specs.Answers.{racks_of}
use Rattle.hall.proofs.Growth.{sized_below}
use Rattle.plan.specs.Plan.{index, inside}
use Rattle.plan.specs.Answers.{prefix_at}
use Rattle.hall.proofs.Racks.{racks_known}
use Rattle.plan.proofs.Asks.{sized_known}
use Rattle.plan.proofs.Filled.{filled, filled_all}
use Rattle.hall.proofs.Racks.{fit, one_is}
use Rattle.plan.proofs.prefix_up_to.Goals as goal

-- the DCell1s of a sub-cell, as the code asks for them
racks_at : (n m j r : ℕ) → 2 ≤ n → Sized n (m + 1) → j ≤ m → r ≡ racks_of n j → r ≡ racks n (j - 1)
unfolding capacity
racks_at n m j r low s l e =
    let k = sized_known n j low (sized_below n (m + 1) j s (omega arith)) in
    racks_known n j r k.0 k.1 e

-- one level down
down : (n j d g r q e : ℕ) (a : List ℕ) → 0 < j → g ≡ t n 1 + 1 → r ≡ racks n (j - 1) → q ≡ index g r d → e ≡ inside g r d
    → filled n (j - 1) e (set a (j + 1) q) ≡ filled n j d a
unfolding filled
down n zero d g r q e a h eg er eq ee = absurd (omega arith)
down n (suc j) d g r q e a h eg er eq ee =
    let z : suc j - 1 ≡ j = omega arith in
    let r' : r ≡ racks n j = er ∙ ap (racks n) z in
    rw (z, eq, ee, eg, r')

ended : (n m c d j : ℕ) (a : List ℕ) → m + 1 ≤ top → j ≡ 0 → filled n j d a ≡ filled n m c (replicate places 0) → a ≡ up_to (prefix_at n (m + 1) c) places
unfolding filled
ended n m c d zero a h e w = w ∙ filled_all n m c h
ended n m c d (suc j) a h e w = absurd (omega arith)

-- the numbers of a turn
turn : (n m j g r : ℕ) → 2 ≤ n → Sized n (m + 1) → j ≤ m → 0 < j → g ≡ t n 1 + 1 → r ≡ racks_of n j → (0 < r) × (g * r < 4294967296)
turn n m j g r low s l z eg er =
    let f = fit n (m + 1) (j - 1) (omega arith) s (omega arith) in
    rw (eg, racks_at n m j r low s l er) (f.r_pos, omega (arith, f.g_fits))

pub sub_cell-requires : goal.sub_cell-requires
sub_cell-requires c =
    let a = c.args in
    let l = c.loop-j in
    turn a.n a.m l.j _ _ c.requires.low c.requires.sized (omega arith) (omega arith) (ap (λ (v : ℕ). v + 1) (one_is a.n)) c.racks_of-r.ensures

pub sub_count-d-requires : goal.sub_count-d-requires
sub_count-d-requires c =
    let a = c.args in
    let l = c.loop-j in
    turn a.n a.m l.j _ _ c.requires.low c.requires.sized (omega arith) (omega arith) (ap (λ (v : ℕ). v + 1) (one_is a.n)) c.racks_of-r.ensures

pub loop-j-preserved : goal.loop-j-preserved
loop-j-preserved c =
    let a = c.args in
    let l = c.loop-j in
    let e = down a.n l.j l.d _ _ _ _ l.entries (omega arith) (ap (λ (v : ℕ). v + 1) (one_is a.n)) (racks_at a.n a.m l.j _ c.requires.low c.requires.sized (omega arith) c.racks_of-r.ensures) c.sub_cell.ensures c.sub_count-d.ensures in
    record {
      four = length-set l.entries (l.j + 1) c.sub_cell.result ∙ l.invariant.four;
      whole = e ∙ l.invariant.whole;
    }

pub returns : goal.returns
returns c =
    let a = c.args in
    let l = c.loop-j in
    ended a.n a.m a.c l.d l.j l.entries c.requires.sized.k_high (omega arith) l.invariant.whole
