-- `ports::first_unknown` meets its contract: what is passed is known, so the first unknown of what is left is the table's.
use mathlib.Core.Path.{◌≡◌}
use Prim.Native.Nat.{◌+◌}
use lib.ListN.{drop}
use Rattle.ports.specs.Codes.{first_unknown}
use Rattle.ports.proofs.first_unknown.Given as goal

abbrev pub invariant-loop-i : goal.invariant-loop-i
invariant-loop-i l = l.i + first_unknown (drop l.i l.table) ≡ first_unknown l.table
