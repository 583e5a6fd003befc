-- `local::lowest_giving` meets its contract. The loop's invariant: what is left of the look for the lowest is the whole look.
use mathlib.Core.Path.{◌≡◌}
use Prim.Native.Nat.{◌-◌}
use Rattle.local.specs.Lowest.{lowest_from}
use Rattle.local.specs.Looks.{gives_by}
use Rattle.local.proofs.lowest_giving.Given as goal

abbrev pub invariant-loop-z : goal.invariant-loop-z
invariant-loop-z l = lowest_from (gives_by l.h l.table l.d l.r l.s) (l.h.n - l.z) l.z ≡ lowest_from (gives_by l.h l.table l.d l.r l.s) l.h.n 0
