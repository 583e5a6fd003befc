-- `cells::entries_up_to` meets its contract: the places up to i hold their entries, the number of the cell of level i is what is left, and
-- the next entry is its remainder.
use mathlib.Core.Path.{◌≡◌, refl, ◌∙◌}
use mathlib.Core.List.{List}
use Prim.Native.Nat.{ℕ, ◌+◌, ◌/◌, ◌%◌, ◌≤◌, ◌<◌}
use native.Mathlib.Numerals.{add-one}
use native.Mathlib.Omega.{arith}
use lib.ListN.{replicate, set}
use borrow.Author.Tests.{le-leb, lt-leb}
use Rattle.combine.specs.Lists.{up_to}
use Rattle.combine.proofs.Lists.{up_more, up_zeros}
use Rattle.hall.specs.Cells.{t, cell}
use Rattle.hall.specs.Halls.{places, largest}
use Rattle.hall.specs.Tuples.{entry, entry_at}
use Rattle.hall.proofs.Cells.{cell_up, cell_sub}
use Rattle.hall.proofs.Growth.{t_fits, t_next, next_fits}
use Rattle.cells.proofs.entries_up_to.Invariants.{Filled}
use Rattle.cells.proofs.entries_up_to.Goals.{In-loop-i}
use Rattle.cells.proofs.entries_up_to.Goals as goal

entry_at_lem : (n k u i : ℕ) → i ≤ k → entry_at n k u i ≡ entry n i u
unfolding entry_at
entry_at_lem n k u i h = rw (le-leb i k h)

above : (n k u i : ℕ) → k < i → entry_at n k u i ≡ 0
unfolding entry_at
above n k u i h = rw (lt-leb i k h)

first : (n k u : ℕ) → Filled n k u 1 (set (replicate places 0) 0 (u % n))
unfolding up_to entry entry_at
first n k u = rw (le-leb 0 k (omega arith))

next : (n k u i s v : ℕ) → i < k → s ≡ t n i → v ≡ cell n i u → v % (s + 1) ≡ entry_at n k u (i + 1)
unfolding entry
next n k u i s v h e f = rw (e, f, cell_sub n i u, entry_at_lem n k u (i + 1) (omega arith), add-one i)

up : (n u i s v : ℕ) → s ≡ t n i → v ≡ cell n i u → v / (s + 1) ≡ cell n (i + 1) u
up n u i s v e f = rw (e, f, cell_up n i u, add-one i)

store : (n k u i v : ℕ) (a : List ℕ) → i < places → v ≡ entry_at n k u i → Filled n k u i a → Filled n k u (i + 1) (set a i v)
store n k u i v a h e f = rw (f, e) (up_more (entry_at n k u) (replicate places 0) i h)

size_fits : (c : In-loop-i) → c.loop-i.s ≤ largest
size_fits c = omega (arith, t_fits _ _ c.loop-i.i c.requires.1 (omega arith))

pub loop-i-init : goal.loop-i-init
unfolding t cell
loop-i-init c = (refl, refl, first _ _ _)

pub overflow_add-entries : goal.overflow_add-entries
overflow_add-entries c = omega (arith, size_fits (goal.at.overflow_add-entries c).In-loop-i)

pub overflow_add-cell : goal.overflow_add-cell
overflow_add-cell c = omega (arith, size_fits (goal.at.overflow_add-cell c).In-loop-i)

pub overflow_add-s : goal.overflow_add-s
overflow_add-s c = omega (arith, size_fits (goal.at.overflow_add-s c).In-loop-i)

pub overflow_mul-s : goal.overflow_mul-s
overflow_mul-s c = omega (arith, next_fits _ _ c.loop-i.i c.loop-i.s c.requires.1 (omega arith) c.loop-i.invariant.0)

pub loop-i-preserved : goal.loop-i-preserved
loop-i-preserved c =
    let w = c.loop-i in
    let a = c.args in (
      t_next _ _ _ w.invariant.0,
      up a.n a.uid w.i w.s w.cell w.invariant.0 w.invariant.1,
      store _ _ _ (w.i + 1) _ w.entries (omega arith) (next a.n a.k a.uid w.i w.s w.cell (omega arith) w.invariant.0 w.invariant.1) w.invariant.2,
    )

pub returns : goal.returns
returns c =
    let w = c.loop-i in
    let a = c.args in
    w.invariant.2 ∙ up_zeros (entry_at a.n a.k a.uid) (w.i + 1) places (omega arith) (λ i l _. above a.n a.k a.uid i (omega arith))
