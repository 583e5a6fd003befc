-- `broadcast::sweeps::is_live` meets its contract: none of the servers that the loop has passed is ready.
use mathlib.Core.Path.{◌≡◌}
use mathlib.Core.Bool.{Bool, false}
use mathlib.Core.List.{List}
use Prim.Native.Nat.{ℕ, ◌+◌, ◌*◌}
use Rattle.combine.specs.Tests.{both, any_below}
use Rattle.hall.specs.declared.Hall.{Hall}
use Rattle.ports.specs.Codes.{up}
use Rattle.broadcast.specs.Sweeps.{reached_by}
use Rattle.broadcast.proofs.sweeps.is_live.Given as goal

abbrev pub ready : Hall → List ℕ → List ℕ → ℕ → ℕ → ℕ → Bool
ready h table room r s i = both (reached_by r room (s * h.n + i)) (up h table (s * h.n + i) 0)

abbrev pub invariant-loop-i : goal.invariant-loop-i
invariant-loop-i l = any_below (ready l.h l.table l.room l.r l.s) l.i ≡ false
