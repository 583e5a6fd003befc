-- Worked values, n = 2, k = 2, two of seven DCell1s fitted: the servers 0 to 11 are.
-- Request K5.
use Rattle.std.specs.Prelude.{◌≡◌, refl, [], ◌∷◌, replicate}
use Rattle.combine.specs.Lists.{up_to}
use Rattle.hall.specs.declared.Hall.{Hall}
use Rattle.hall.specs.Cells.{t, sub, neighbour}
use Rattle.hall.specs.Halls.{hall_of, racks}
use Rattle.plan.specs.Plan.{rank, before, prefix_of}
use Rattle.plan.specs.Answers.{fitted}
use Rattle.counted.specs.Counted.{far_fitted, port_fitted, counted_at, counted}

abbrev hall : Hall
hall = hall_of 2 2 0 2

-- the switch of the servers 0 and 1: the level-2 neighbour of 0 is 6, which is fitted, and that of 1 is 12, which is not
first_switch : counted hall 0 (replicate 6 1) ≡ 1 ∷ 1 ∷ 1 ∷ 1 ∷ 1 ∷ 0 ∷ []
unfolding counted counted_at port_fitted far_fitted fitted rank before prefix_of racks neighbour sub up_to t
first_switch = refl

-- the switch of the servers 12 and 13 is not fitted
third_rack : counted hall 12 (replicate 6 1) ≡ 0 ∷ 0 ∷ 0 ∷ 0 ∷ 0 ∷ 0 ∷ []
unfolding counted counted_at port_fitted far_fitted fitted rank before prefix_of racks neighbour sub up_to t
third_rack = refl
