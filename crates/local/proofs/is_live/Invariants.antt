-- `local::is_live` meets its contract. The loop's invariant: none of the servers passed gives.
use mathlib.Core.Path.{◌≡◌}
use mathlib.Core.Bool.{false}
use Rattle.combine.specs.Tests.{any_below}
use Rattle.local.specs.Looks.{gives_by}
use Rattle.local.proofs.is_live.Given as goal

abbrev pub invariant-loop-i : goal.invariant-loop-i
invariant-loop-i l = any_below (gives_by l.h l.table l.d l.r l.s) l.i ≡ false
