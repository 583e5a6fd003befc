-- `plan::rank_of` meets its contract: after j turns s is t(j + 1), what is left of the uid is the number of its DCell of level j + 1, r the
-- DCell1s of such a DCell, and c the rank within it.
use mathlib.Core.Path.{◌≡◌}
use Prim.Native.Nat.{ℕ, suc, ◌+◌}
use Rattle.hall.specs.Cells.{t, cell}
use Rattle.hall.specs.Halls.{racks}
use Rattle.plan.specs.Plan.{rank, prefix_of}
use Rattle.plan.proofs.rank_of.Given as goal

-- what j turns have made
pub record Made (n m u g s left r c j : ℕ) : Type 0 where
  pub first : g ≡ t n 1 + 1
  pub size : s ≡ t n (suc j)
  pub at : left ≡ cell n (suc j) u
  pub racked : r ≡ racks n j
  pub ranked : c ≡ rank n j (prefix_of n j u)

abbrev pub invariant-loop-j : goal.invariant-loop-j
invariant-loop-j l = Made l.n l.m l.uid l.g l.s l.cell l.r l.c l._j
