-- A search worked out: five servers in a ring, and one that no link joins.
use Rattle.std.specs.Prelude.{ℕ, ◌+◌, ◌%◌, ◌≡◌, refl, Bool, true, false, [], ◌∷◌, eqb, ltb}
use Rattle.combine.specs.Tests.{both, either, any_below}
use Rattle.combine.specs.Lists.{up_to}
use Rattle.search.specs.Rounds.{new, mark, marks, distances, reached_count, last_round}
use Rattle.search.specs.Reach.{reach}

ring : ℕ → ℕ → Bool
ring y x = both (both (ltb y 5) (ltb x 5)) (either (eqb ((y + 1) % 5) x) (eqb ((x + 1) % 5) y))

ring_distances : distances ring 6 255 0 ≡ 0 ∷ 1 ∷ 2 ∷ 2 ∷ 1 ∷ 255 ∷ []
unfolding any_below up_to new mark marks ring
ring_distances = refl

ring_reached : reached_count 255 (distances ring 6 255 0) 6 ≡ 5
unfolding any_below up_to new mark marks reached_count ring
ring_reached = refl

ring_last : last_round 255 (distances ring 6 255 0) 6 ≡ 2
unfolding any_below up_to new mark marks last_round ring
ring_last = refl

ring_two : reach ring 6 0 2 3 ≡ true
unfolding any_below reach ring
ring_two = refl

ring_one : reach ring 6 0 1 3 ≡ false
unfolding any_below reach ring
ring_one = refl
