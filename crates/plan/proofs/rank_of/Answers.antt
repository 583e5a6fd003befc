-- `plan::rank_of` meets its contract: after j turns s is t(j + 1), what is left of the uid is the number of its DCell of level j + 1, r the
-- DCell1s of such a DCell, and c the rank within it.
use mathlib.Core.Path.{◌≡◌, refl, ◌∙◌}
use Prim.Native.Nat.{ℕ, suc, ◌+◌, ◌*◌, ◌/◌, ◌%◌, ◌≤◌, ◌<◌}
use native.Mathlib.Numerals.{add-one}
use native.Mathlib.Omega.{arith}
use Rattle.hall.specs.Cells.{t, cell, sub}
use Rattle.hall.proofs.Cells.{cell_up, cell_sub}
use Rattle.hall.specs.Halls.{largest, Sized, racks}
use Rattle.plan.specs.Plan.{before, rank, prefix_of}
use Rattle.hall.proofs.Racks.{Fit, fit}
use Rattle.plan.proofs.Sizes.{sub_racks, rank_below}
use Rattle.plan.proofs.rank_of.Invariants.{Made}
use Rattle.plan.proofs.rank_of.Goals.{In-loop-j}
use Rattle.plan.proofs.rank_of.Goals as goal

module _ (n m u g s left r c j : ℕ) (v : Made n m u g s left r c j) where
  made_sub : left % (s + 1) ≡ sub n (suc j) u
  made_sub = rw (v.at, v.size) (cell_sub n (suc j) u)

  again : (d : ℕ) → d ≡ before g r (left % (s + 1)) c → Made n m u g ((s + 1) * s) (left / (s + 1)) ((s + 1) * r) d (j + 1)
  unfolding t rank prefix_of racks
  again d e = rw (add-one j) (record {
    first = v.first;
    size = rw v.size;
    at = rw (v.at, v.size) (cell_up n (suc j) u);
    racked = rw (v.size, v.racked);
    ranked = e ∙ rw (made_sub, v.first, v.racked, v.ranked);
  })

begin : (n m u g s : ℕ) → g ≡ (n + 1) * n + 1 → s ≡ (n + 1) * n → Made n m u g s (u / s) 1 0 0
unfolding t cell racks rank
begin n m u g s e f = record { first = e; size = f; at = rw f; racked = refl; ranked = refl }

-- the numbers of one more turn
record Turn (g s left r c : ℕ) : Type 0 where
  fits : Fit g s r
  below : c < r
  q_fits : left % (s + 1) * r + r ≤ largest

turn : (n m u g s left r c j : ℕ) → 0 < n → Sized n (m + 1) → Made n m u g s left r c j → j < m → Turn g s left r c
turn n m u g s left r c j pos z v l =
    let q = sub_racks n (m + 1) j pos z (omega arith) u in
    record {
      fits = rw (v.first, v.size, v.racked) (fit n (m + 1) j pos z (omega arith));
      below = rw (v.racked, v.ranked) (rank_below n j u);
      q_fits = rw (made_sub n m u g s left r c j v, v.racked) q;
    }

at_turn : (c : In-loop-j) → Turn ((c.args.n + 1) * c.args.n + 1) c.loop-j.s c.loop-j.cell c.loop-j.r c.loop-j.c
at_turn c =
    let a = c.args in
    let l = c.loop-j in
    turn a.n a.m a.uid _ l.s l.cell l.r l.c l._j c.requires.0 c.requires.1 l.invariant (omega arith)

pub loop-j-init : goal.loop-j-init
loop-j-init c = begin c.args.n c.args.m c.args.uid _ _ refl refl

pub overflow_add-s-in-loop-j : goal.overflow_add-s-in-loop-j
overflow_add-s-in-loop-j c = omega (arith, (at_turn (goal.at.overflow_add-s-in-loop-j c).In-loop-j).fits.s_fits)

pub before_of-c-requires : goal.before_of-c-requires
before_of-c-requires c =
    let f = at_turn (goal.at.before_of-c-requires c).In-loop-j in
    (f.fits.r_pos, f.below, omega (arith, f.fits.g_fits), omega (arith, f.q_fits))

pub overflow_add-cell : goal.overflow_add-cell
overflow_add-cell c = omega (arith, (at_turn (goal.at.overflow_add-cell c).In-loop-j).fits.s_fits)

pub overflow_add-r : goal.overflow_add-r
overflow_add-r c = omega (arith, (at_turn (goal.at.overflow_add-r c).In-loop-j).fits.s_fits)

pub overflow_mul-r : goal.overflow_mul-r
overflow_mul-r c = omega (arith, (at_turn (goal.at.overflow_mul-r c).In-loop-j).fits.r_fits)

pub overflow_add-s-in-loop-j-2 : goal.overflow_add-s-in-loop-j-2
overflow_add-s-in-loop-j-2 c = omega (arith, (at_turn (goal.at.overflow_add-s-in-loop-j-2 c).In-loop-j).fits.s_fits)

pub overflow_mul-s-in-loop-j : goal.overflow_mul-s-in-loop-j
overflow_mul-s-in-loop-j c = omega (arith, (at_turn (goal.at.overflow_mul-s-in-loop-j c).In-loop-j).fits.up_fits)

pub loop-j-preserved : goal.loop-j-preserved
loop-j-preserved c =
    let a = c.args in
    let l = c.loop-j in
    again a.n a.m a.uid _ l.s l.cell l.r l.c l._j l.invariant c.before_of-c.result c.before_of-c.ensures
