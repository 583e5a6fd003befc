-- `hall::sizes_up_to` meets its contract: the places below i hold their sizes, s is the next, and zeros stand behind.
use mathlib.Core.Path.{◌≡◌, refl, sym, ◌∙◌, ap}
use mathlib.Core.List.{List}
use Prim.Native.Nat.{ℕ, ◌+◌, ◌≤◌}
use native.Mathlib.Omega.{arith}
use lib.ListN.{length, replicate, set}
use Rattle.combine.specs.Lists.{up_to}
use Rattle.combine.proofs.Lists.{up_more, up_zeros, length_up}
use Rattle.hall.specs.Cells.{t}
use Rattle.hall.specs.Halls.{top, places}
use Rattle.hall.specs.Answers.{size_at}
use Rattle.hall.proofs.Growth.{t_fits, t_next, next_fits, size_at_lem, size_above}
use Rattle.hall.proofs.sizes_up_to.Invariants.{Filled}
use Rattle.hall.proofs.sizes_up_to.Goals as goal

long : (n k i : ℕ) (a : List ℕ) → i ≤ places → Filled n k i a → length a ≡ places
long n k i a h e = rw e (length_up (size_at n k) (replicate places 0) i h)

store : (n k i s : ℕ) (a : List ℕ) → i ≤ k → k ≤ top → s ≡ t n i → Filled n k i a → Filled n k (i + 1) (set a i s)
store n k i s a h l e f = rw (f, e, ← size_at_lem n k i h) (up_more (size_at n k) (replicate places 0) i (omega arith))

-- the last store fills all
last : (n k i s : ℕ) (a : List ℕ) → i ≡ k → k ≤ top → s ≡ t n i → Filled n k i a → set a k s ≡ up_to (size_at n k) places
last n k i s a q h e f =
    let m = store n k i s a (omega arith) h e f in
    ap (λ (j : ℕ). set a j s) (sym q) ∙ m ∙ up_zeros (size_at n k) (i + 1) places (omega arith) (λ j l _. size_above n k j (omega arith))

pub loop-i-init : goal.loop-i-init
unfolding t up_to
loop-i-init c = (refl, refl)

pub bounds-t-at : goal.bounds-t-at
bounds-t-at c = let w = c.loop-i in omega (arith, long _ _ w.i w.t (omega arith) w.invariant.1)

pub overflow_add-s : goal.overflow_add-s
overflow_add-s c = omega (arith, t_fits _ _ c.loop-i.i c.requires (omega arith))

pub overflow_mul-s : goal.overflow_mul-s
overflow_mul-s c = omega (arith, next_fits _ _ c.loop-i.i c.loop-i.s c.requires (omega arith) c.loop-i.invariant.0)

pub loop-i-preserved : goal.loop-i-preserved
loop-i-preserved c =
    let w = c.loop-i in
    (t_next _ _ _ w.invariant.0, store _ _ w.i w.s w.t (omega arith) (omega arith) w.invariant.0 w.invariant.1)

pub bounds-t-top : goal.bounds-t-top
bounds-t-top c = let w = c.loop-i in omega (arith, long _ _ w.i w.t (omega arith) w.invariant.1)

pub returns : goal.returns
returns c = let w = c.loop-i in last _ _ w.i w.s w.t (omega arith) (omega arith) w.invariant.0 w.invariant.1
