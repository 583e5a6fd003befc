-- `cells::entry_fits` meets its contract: above k an entry is 0, at 0 it is below n, between it is below t(i - 1) + 1.
use mathlib.Core.Path.{◌≡◌}
use mathlib.Core.List.{List}
use Prim.Native.Nat.{ℕ, suc, ◌+◌, ◌-◌, ◌<◌, ◌≤◌}
use native.Mathlib.Omega.{arith}
use lib.Dec.{eqb, ltb}
use lib.ListN.{get_or}
use borrow.Author.Tests.{le-leb, lt-leb}
use Rattle.hall.specs.Cells.{t}
use Rattle.hall.specs.Tuples.{entry_fits, limit}
use Rattle.hall.proofs.Growth.{t_fits, size_read}
use Rattle.hall.proofs.Tuples.{limit_up}
use Rattle.cells.proofs.entry_fits.Goals.{Else-i-eq0}
use Rattle.cells.proofs.entry_fits.Goals as goal

above : (n k i : ℕ) (a : List ℕ) → k < i → eqb (get_or a i 0) 0 ≡ entry_fits n k a i
unfolding entry_fits
above n k i a h = rw (lt-leb i k h)

lowest : (n k i : ℕ) (a : List ℕ) → i ≤ k → i ≡ 0 → ltb (get_or a i 0) n ≡ entry_fits n k a i
unfolding entry_fits limit
lowest n k i a h z = rw (le-leb i k h, z)

between : (n k i s : ℕ) (a : List ℕ) → i ≤ k → (i ≡ 0 → ⊥) → s ≡ t n (i - 1) → ltb (get_or a i 0) (s + 1) ≡ entry_fits n k a i
unfolding entry_fits
between n k i s a h d e =
    let q : suc (i - 1) ≡ i = omega arith in
    let l : limit n i ≡ t n (i - 1) + 1 = rw q at (limit_up n (i - 1)) in
    rw (le-leb i k h, e, l)

sized : (c : Else-i-eq0) → let a = c.args in get_or a.sizes (a.i - 1) 0 ≡ t a.n (a.i - 1)
sized c = size_read c.args.n c.args.k (c.args.i - 1) c.args.sizes c.requires.0.k_high (omega arith) c.requires.1

pub returns-then-k-i : goal.returns-then-k-i
returns-then-k-i c = above _ _ _ _ c.if-k-i.true

pub returns-then-i-eq0 : goal.returns-then-i-eq0
returns-then-i-eq0 c = lowest _ _ _ _ c.if-k-i.false c.if-i-eq0.true

pub overflow_add-result : goal.overflow_add-result
overflow_add-result c = omega (arith, t_fits _ _ (c.args.i - 1) c.requires.0 (omega arith), sized (goal.at.overflow_add-result c).Else-i-eq0)

pub returns : goal.returns
returns c = between _ _ _ _ _ c.if-k-i.false c.if-i-eq0.false (sized (goal.at.returns c).Else-i-eq0)
