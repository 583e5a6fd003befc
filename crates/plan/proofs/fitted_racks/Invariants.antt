-- `plan::fitted_racks` meets its contract: after q turns it has counted the first q DCell1s.
use mathlib.Core.Path.{◌≡◌}
use Prim.Native.Nat.{◌≤◌}
use Rattle.plan.specs.Answers.{front}
use Rattle.plan.proofs.fitted_racks.Given as goal

abbrev pub invariant-loop-q : goal.invariant-loop-q
invariant-loop-q l = (l.racks ≤ l.q) × (l.racks ≡ front l.h l.first l.q)
