-- Worked sizes of halls, computed from the definitions.
-- Section "The hall and its numbers".
use Rattle.std.specs.Prelude.{◌≡◌, refl, true, false, [], ◌∷◌}
use Rattle.combine.specs.Lists.{up_to}
use Rattle.hall.specs.Refusals.{refusal}
use Rattle.hall.specs.Cells.{t}
use Rattle.hall.specs.Halls.{hall_of, full_hall, racks, capacity, n_fits, k_fits, b_fits, count_fits, valid, servers}
use Rattle.hall.specs.Answers.{size_at, size_of, racks_of, sizes_of}

-- zeros above k
sizes_of_two : sizes_of (full_hall 2 2 1) ≡ record { refusal = 0; t = 2 ∷ 6 ∷ 42 ∷ 0 ∷ [] }
unfolding refusal valid n_fits k_fits b_fits count_fits capacity racks up_to size_at t
sizes_of_two = refl

-- b is at most k
no_such_hall : sizes_of (full_hall 2 0 1) ≡ record { refusal = 1; t = 0 ∷ 0 ∷ 0 ∷ 0 ∷ [] }
unfolding refusal valid n_fits k_fits b_fits count_fits capacity racks
no_such_hall = refl

-- one size, and none above k
size_of_one : size_of (full_hall 2 2 1) 1 ≡ 6
unfolding valid n_fits k_fits b_fits count_fits capacity racks size_of size_at t
size_of_one = refl

no_such_level : size_of (full_hall 2 2 1) 3 ≡ 0
unfolding valid n_fits k_fits b_fits count_fits capacity racks size_of size_at t
no_such_level = refl

largest_hall : servers (full_hall 8 3 0) ≡ 27630792
unfolding servers t
largest_hall = refl

-- a DCell3 of n = 2 has 43 DCell2s of 7 DCell1s each
racks_of_three : racks_of 2 3 ≡ 301
unfolding n_fits k_fits racks_of capacity racks t
racks_of_three = refl

racks_below_two : racks_of 4 1 ≡ 1
unfolding n_fits k_fits racks_of capacity racks
racks_below_two = refl

-- nothing fitted yet; one too many; with k below 2 another count than 1
nothing_fitted : valid (hall_of 2 2 0 0) ≡ true
unfolding valid n_fits k_fits b_fits count_fits capacity racks t
nothing_fitted = refl

one_too_many : valid (hall_of 2 2 0 8) ≡ false
unfolding valid n_fits k_fits b_fits count_fits capacity racks t
one_too_many = refl

no_count_below_two : valid (hall_of 4 1 0 0) ≡ false
unfolding valid n_fits k_fits b_fits count_fits
no_count_below_two = refl
