-- `broadcast::begin` meets its contract: of the cleared numbers that of the origin is set.
use mathlib.Core.Path.{◌∙◌, ap}
use mathlib.Core.List.{List}
use Prim.Native.Nat.{ℕ}
use lib.ListN.{set, drop}
use Rattle.broadcast.proofs.Whole.{begun}
use Rattle.broadcast.proofs.begin.Goals as goal

pub returns : goal.returns
returns c =
    let a = c.args in
    ap (λ (l : List ℕ). set l a.origin 0) c.clear.ensures
    ∙ begun a.size a.origin (drop a.size a.room.now) c.requires.1
