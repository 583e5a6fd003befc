-- Laws of the rounds as a whole: the two kinds of sweeps make a round, rounds make the marks, and the first round that reaches nobody
-- leaves the numbers that all rounds would.
use mathlib.Core.Path.{◌≡◌, sym, ◌∙◌, ap}
use mathlib.Core.Bool.{Bool, false}
use mathlib.Core.List.{List, ◌++◌}
use Prim.Native.Nat.{ℕ, ◌+◌, ◌-◌, ◌*◌, ◌/◌, ◌<◌}
use native.Mathlib.Numerals.{add-one}
use native.Mathlib.Omega.{arith}
use lib.ListN.{length, get_or, drop, set, replicate, length-replicate, take-append-drop}
use lib.Seq.{get_or-append-add, get_or-drop, set-append_left}
use Rattle.combine.specs.Tests.{either, any_below}
use Rattle.hall.specs.declared.Hall.{Hall}
use Rattle.ports.specs.Links.{joined}
use Rattle.search.specs.Rounds.{new, round, start, marks, distances}
use Rattle.search.proofs.Rounds.{length-marks, marks_start, marks_more, tail_round, tail_any}
use Rattle.search.proofs.Stops.{Idle, idle_same, idle_ends}
use Rattle.broadcast.specs.Broadcasts.{none}
use Rattle.broadcast.specs.Sweeps.{Sweep, reached_by, on_switches, on_levels, within, RoundFits, Behind, Ready}
use Rattle.broadcast.proofs.Marks.{sweep_cong, sweep_then}
use Rattle.broadcast.proofs.Reaches.{reads_same, within_split, round_made, any_made, scope_fits_lem, fits_next}

-- the sweep over the switches, then that over the levels
pub sweeps_make : (h : Hall) (table : List ℕ) (s size r : ℕ) (old mid room : List ℕ) (a b : Bool) → RoundFits h s size r old
    → Sweep (on_switches h table (reached_by r old) (size / h.n * h.n)) r old mid a → Sweep (on_levels h table (reached_by r mid) size s) r mid room b
    → Sweep (within h table (reached_by r old) size s) r old room (either a b)
sweeps_make h table s size r old mid room a b fits f g =
    let first : Sweep (on_switches h table (reached_by r old) size) r old mid a = rw fits.whole at f in
    let same = reads_same (on_switches h table (reached_by r old) size) r old mid a (omega (arith, fits.small)) first in
    let then : Sweep (on_levels h table (reached_by r old) size s) r mid room b = rw same at g in
    sweep_cong (λ y. either (on_switches h table (reached_by r old) size y) (on_levels h table (reached_by r old) size s y)) (within h table (reached_by r old) size s) r old room (either a b)
    (within_split h table (reached_by r old) size s old)
    (sweep_then (on_switches h table (reached_by r old) size) (on_levels h table (reached_by r old) size s) r old mid room a b (omega (arith, fits.small)) first then)

-- before the first round
pub begun : (size o : ℕ) (tail : List ℕ) → o < size → set (replicate size none ++ tail) o 0 ≡ start size none o ++ tail
begun size o tail h = set-append_left {A = ℕ} (replicate size none) tail o 0 (omega (arith, length-replicate {A = ℕ} size none))

pub ready_marks : (h : Hall) (table : List ℕ) (s size o : ℕ) (room : List ℕ) → Ready h s size o room → room ≡ marks (joined h table s) size none o 0 ++ drop size room
ready_marks h table s size o room k =
    sym (take-append-drop {A = ℕ} size room)
    ∙ ap (λ (l : List ℕ). l ++ drop size room) (k.begun ∙ sym (marks_start (joined h table s) size none o))

-- each round fits the room as it has become
pub ready_fits : (h : Hall) (s size o r : ℕ) (first room : List ℕ) → Ready h s size o first → length room ≡ length first → r < size → RoundFits h s size r room
ready_fits h s size o r first room k e l = fits_next h s size 0 first k.fits room r e (omega (arith, scope_fits_lem h s size 0 first k.fits))

-- and so nobody behind them is reached while the rounds go on
pub ready_behind : (h : Hall) (table : List ℕ) (s size o r : ℕ) (first room : List ℕ) → Ready h s size o first
    → room ≡ marks (joined h table s) size none o r ++ drop size first → Behind h s size room
ready_behind h table s size o r first room k now y l b =
    let m : List ℕ = marks (joined h table s) size none o r in
    let e : y ≡ length m + (y - size) = omega (arith, length-marks (joined h table s) size none o r) in
    let d : size + (y - size) ≡ y = omega arith in
    ap (λ (a : List ℕ). get_or a y 0) now
    ∙ ap (λ (i : ℕ). get_or (m ++ drop size first) i 0) e
    ∙ get_or-append-add m (drop size first) (y - size) 0
    ∙ get_or-drop size first (y - size) 0
    ∙ ap (λ (i : ℕ). get_or first i 0) d
    ∙ k.behind y l b

-- a round more, on a room that begins with the marks
module _ (h : Hall) (table : List ℕ) (s size o r : ℕ) (room next tail : List ℕ) (any : Bool) (fits : RoundFits h s size r room) (behind : Behind h s size room)
    (now : room ≡ marks (joined h table s) size none o r ++ tail) (made : Sweep (within h table (reached_by r room) size s) r room next any) where
  pub next_marks : next ≡ marks (joined h table s) size none o (r + 1) ++ tail
  next_marks =
      round_made h table s size r room next any fits behind made
      ∙ ap (λ (l : List ℕ). round (joined h table s) size none r l) now
      ∙ tail_round (joined h table s) size none (marks (joined h table s) size none o r) tail (length-marks (joined h table s) size none o r) r
      ∙ ap (λ (l : List ℕ). l ++ tail) (sym (marks_more (joined h table s) size none o r))

  idle_now : (inside : o < size) → any ≡ false → Idle (joined h table s) size none o inside r
  idle_now inside e =
      sym (tail_any (joined h table s) size none (marks (joined h table s) size none o r) tail (length-marks (joined h table s) size none o r) r)
      ∙ ap (λ (l : List ℕ). any_below (new (joined h table s) size none r l) size) (sym now)
      ∙ sym (any_made h table s size r room next any fits behind made)
      ∙ e

  -- a round that reaches nobody is the last
  pub idle_marks : o < size → r < size → any ≡ false → next ≡ distances (joined h table s) size none o ++ tail
  idle_marks inside l e =
      let i = idle_now inside e in
      let f = scope_fits_lem h s size r room fits in
      next_marks
      ∙ ap (λ (k : List ℕ). k ++ tail)
      (ap (λ (k : ℕ). marks (joined h table s) size none o k) (add-one r)
      ∙ idle_same (joined h table s) size none o inside r i
      ∙ sym (idle_ends (joined h table s) size none o inside r size (omega arith) (omega arith) i))
