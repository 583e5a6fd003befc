-- `plan::prefix_up_to` meets its contract: the entries, with what is left to fill, stay the whole.
use mathlib.Core.Path.{◌≡◌}
use mathlib.Core.List.{List}
use Prim.Native.Nat.{ℕ}
use lib.ListN.{length, replicate}
use Rattle.hall.specs.Halls.{places}
use Rattle.plan.proofs.Filled.{filled}
use Rattle.plan.proofs.prefix_up_to.Given as goal

pub record Made (n m c : ℕ) (entries : List ℕ) (d j : ℕ) : Type 0 where
  pub four : length entries ≡ places
  pub whole : filled n j d entries ≡ filled n m c (replicate places 0)

abbrev pub invariant-loop-j : goal.invariant-loop-j
invariant-loop-j l = Made l.n l.m l.c l.entries l.d l.j
