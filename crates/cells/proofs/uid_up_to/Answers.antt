-- `cells::uid_up_to` meets its contract: the sum so far is the uid up to level i, which is below t(i).
use borrow.Author.Rules.{rules}
use mathlib.Core.Path.{◌≡◌, refl, ◌∙◌}
use mathlib.Core.Bool.{true}
use mathlib.Core.List.{List}
use Prim.Native.Nat.{ℕ, ◌+◌, ◌-◌, ◌*◌, ◌<◌}
use native.Mathlib.Numerals.{add-one}
use native.Mathlib.Omega.{arith}
use lib.ListN.{get_or, length, take, drop}
use Rattle.std.proofs.lemmas.List.{get_or-take, get_or-drop, length-take-le, length-drop}
use Rattle.hall.specs.Cells.{t}
use Rattle.hall.specs.Halls.{places, largest, Sized}
use Rattle.hall.specs.Tuples.{uid_up_to, tuple_fits}
use Rattle.hall.proofs.Growth.{t_fits, t_next, next_fits}
use Rattle.hall.proofs.Tuples.{uid_below, fits_within}
use Rattle.cells.proofs.uid_up_to.Goals.{In-loop-entry, Start}
use Rattle.cells.proofs.uid_up_to.Goals as goal

-- the entries above the first, up to level k
abbrev above : ℕ → List ℕ → List ℕ
above k a = take (k + 1 - 1) (drop 1 a)

many : (k : ℕ) (a : List ℕ) → k < length a → length (above k a) ≡ k
many k a h = length-take-le (k + 1 - 1) (drop 1 a) (omega (arith, length-drop 1 a)) ∙ omega arith

entry_is : (k i : ℕ) (a : List ℕ) → i < k → get_or (above k a) i 0 ≡ get_or a (i + 1) 0
entry_is k i a h =
    let e : 1 + i ≡ i + 1 = omega arith in
    get_or-take (k + 1 - 1) (drop 1 a) i 0 (omega arith) ∙ rw (← e) (get_or-drop 1 a i 0)

-- the sum one level up
more : (n i s u : ℕ) (a : List ℕ) → s ≡ t n i → u ≡ uid_up_to n i a → u + get_or a (i + 1) 0 * s ≡ uid_up_to n (i + 1) a
unfolding uid_up_to
more n i s u a e f = rw (add-one i, e, f)

sum_fits : (n k i s u : ℕ) (a : List ℕ) → Sized n k → tuple_fits n k a ≡ true → i < k → s ≡ t n i → u ≡ uid_up_to n i a
    → u + get_or a (i + 1) 0 * s < largest
sum_fits n k i s u a z f m e q =
    let b = uid_below n a (i + 1) (λ j r. fits_within n k a (omega (arith, z.k_high)) f j (omega arith)) in
    omega (arith, more n i s u a e q, t_fits n k (i + 1) z (omega arith))

levels : (c : Start) → length (above c.args.k c.args.entries) ≡ c.args.k
levels c = let l : length c.args.entries ≡ places = search rules in many c.args.k c.args.entries (omega (arith, c.requires.0.k_high))

fits : (c : In-loop-entry) → let w = c.loop-entry in w.entry-index < c.args.k → w.uid + get_or (above c.args.k c.args.entries) w.entry-index 0 * w.s < largest
fits c m =
    let w = c.loop-entry in
    let p = c.requires in
    rw (entry_is _ _ c.args.entries m) (sum_fits _ _ w.entry-index w.s w.uid _ p.0 p.1 m w.invariant.0 w.invariant.1)

pub loop-entry-init : goal.loop-entry-init
unfolding t uid_up_to
loop-entry-init c = (refl, refl)

pub overflow_mul-uid : goal.overflow_mul-uid
overflow_mul-uid c = let l = levels (goal.at.overflow_mul-uid c).Start in omega (arith, fits (goal.at.overflow_mul-uid c).In-loop-entry (omega arith))

pub overflow_add-uid : goal.overflow_add-uid
overflow_add-uid c = let l = levels (goal.at.overflow_add-uid c).Start in omega (arith, fits (goal.at.overflow_add-uid c).In-loop-entry (omega arith))

pub overflow_add-s : goal.overflow_add-s
overflow_add-s c = let l = levels (goal.at.overflow_add-s c).Start in omega (arith, t_fits _ _ c.loop-entry.entry-index c.requires.0 (omega arith))

pub overflow_mul-s : goal.overflow_mul-s
overflow_mul-s c = let l = levels (goal.at.overflow_mul-s c).Start in omega (arith, next_fits _ _ c.loop-entry.entry-index c.loop-entry.s c.requires.0 (omega arith) c.loop-entry.invariant.0)

pub loop-entry-preserved : goal.loop-entry-preserved
loop-entry-preserved c =
    let w = c.loop-entry in
    let l = levels (goal.at.loop-entry-preserved c).Start in
    (t_next _ _ _ w.invariant.0, rw (entry_is c.args.k w.entry-index c.args.entries (omega arith)) (more _ _ _ _ _ w.invariant.0 w.invariant.1))

pub returns : goal.returns
returns c =
    let l = levels (goal.at.returns c).Start in
    let e : c.loop-entry.entry-index ≡ c.args.k = omega arith in rw (← e) c.loop-entry.invariant.1
