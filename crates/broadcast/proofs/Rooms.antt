-- Laws of the room behind the rounds: how its numbers are counted.
use mathlib.Core.Path.{◌≡◌}
use mathlib.Core.List.{List}
use Prim.Native.Nat.{ℕ, max, ◌+◌}
use native.Mathlib.Numerals.{add-one}
use lib.ListN.{get_or}
use borrow.Author.Tests.{ne_eqb}
use Rattle.search.specs.Rounds.{last_round}
use Rattle.broadcast.specs.Broadcasts.{none}

-- a number that is reached counts for the last round
pub last_next : (old : List ℕ) (n : ℕ) → (get_or old n 0 ≡ none → ⊥) → last_round none old (n + 1) ≡ max (last_round none old n) (get_or old n 0)
unfolding last_round
last_next old n ne = rw (add-one n, ne_eqb (get_or old n 0) none ne)
