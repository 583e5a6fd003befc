-- `hall::sizes_up_to` meets its contract: the places below i hold their sizes, s is the next, and zeros stand behind.
use mathlib.Core.Path.{◌≡◌}
use mathlib.Core.List.{List, ◌++◌}
use Prim.Native.Nat.{ℕ}
use lib.ListN.{drop, replicate}
use Rattle.combine.specs.Lists.{up_to}
use Rattle.hall.specs.Cells.{t}
use Rattle.hall.specs.Halls.{places}
use Rattle.hall.specs.Answers.{size_at}
use Rattle.hall.proofs.sizes_up_to.Given as goal

-- the places below i are filled
abbrev pub Filled : ℕ → ℕ → ℕ → List ℕ → Type 0
Filled n k i a = a ≡ up_to (size_at n k) i ++ drop i (replicate places 0)

abbrev pub invariant-loop-i : goal.invariant-loop-i
invariant-loop-i l = (l.s ≡ t l.n l.i) × Filled l.n l.k l.i l.t
