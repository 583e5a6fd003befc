-- Worked answers of the planner, n = 2: a DCell3 has 43 DCell2s of 7 DCell1s each.
-- Request K5.
use Rattle.std.specs.Prelude.{◌≡◌, refl, true, false, [], ◌∷◌, map, ℕ}
use Rattle.combine.specs.Lists.{up_to}
use Rattle.hall.specs.declared.Hall.{Hall}
use Rattle.hall.specs.Refusals.{refusal}
use Rattle.hall.specs.Cells.{t, cell, sub}
use Rattle.hall.specs.Halls.{hall_of, racks, capacity, n_fits, k_fits, b_fits, count_fits, valid, is_full, servers}
use Rattle.plan.specs.Plan.{index, inside, place, before, rank, prefix_of}
use Rattle.plan.specs.Adding.{total, all_of, first_not, put, size, full, get_index, add, after}
use Rattle.plan.specs.Answers.{fitted, is_fitted, front, fitted_servers, prefix_at, next_prefix}

-- a hall of so many DCell1s
abbrev hall : ℕ → ℕ → Hall
hall k count = hall_of 2 k 0 count

-- the ninth DCell1 of a DCell3 is [0, 2]: each of 7 DCell2s has one, and the first has a second
ninth : next_prefix (hall 3 8) ≡ record { refusal = 0; entries = 0 ∷ 0 ∷ 2 ∷ 0 ∷ [] }
unfolding refusal valid n_fits k_fits b_fits count_fits is_full capacity racks prefix_at place index inside up_to t
ninth = refl

-- in a DCell2 the next free index is used
third : next_prefix (hall 2 2) ≡ record { refusal = 0; entries = 0 ∷ 0 ∷ 2 ∷ 0 ∷ [] }
unfolding refusal valid n_fits k_fits b_fits count_fits is_full capacity racks prefix_at place index inside up_to t
third = refl

is_full_lem : next_prefix (hall 2 7) ≡ record { refusal = 12; entries = 0 ∷ 0 ∷ 0 ∷ 0 ∷ [] }
unfolding refusal valid n_fits k_fits b_fits count_fits is_full capacity racks t
is_full_lem = refl

too_high : next_prefix (hall 2 8) ≡ record { refusal = 1; entries = 0 ∷ 0 ∷ 0 ∷ 0 ∷ [] }
unfolding refusal valid n_fits k_fits b_fits count_fits is_full capacity racks t
too_high = refl

-- with k below 2 the hall is full, and there is no planner
asked_below : next_prefix (hall 1 1) ≡ record { refusal = 1; entries = 0 ∷ 0 ∷ 0 ∷ 0 ∷ [] }
unfolding refusal valid n_fits k_fits b_fits count_fits is_full capacity racks t
asked_below = refl

-- the first 7 go one to each of 7 DCell2s, then these are filled in turn, then one more is begun
places : map (place 2 2) (0 ∷ 1 ∷ 6 ∷ 7 ∷ 8 ∷ 12 ∷ 13 ∷ 48 ∷ 49 ∷ 50 ∷ 300 ∷ [])
    ≡ (0 ∷ 0 ∷ []) ∷ (1 ∷ 0 ∷ []) ∷ (6 ∷ 0 ∷ []) ∷ (0 ∷ 1 ∷ []) ∷ (0 ∷ 2 ∷ []) ∷ (0 ∷ 6 ∷ []) ∷ (1 ∷ 1 ∷ []) ∷ (6 ∷ 6 ∷ []) ∷ (7 ∷ 0 ∷ []) ∷ (7 ∷ 1 ∷ []) ∷ (42 ∷ 6 ∷ []) ∷ []
unfolding place index inside racks t
places = refl

-- the procedure itself, after 50 additions
procedure : (add 2 1 (after 2 1 50)).0 ≡ 7 ∷ 1 ∷ []
unfolding after add get_index full size put first_not all_of total racks t
procedure = refl

-- with 8 fitted, the servers 6 to 11 of [0, 1] are; 12 is not, nor is 1806, which is none of the hall
eleven : is_fitted (hall 3 8) 11 ≡ true
unfolding valid n_fits k_fits b_fits count_fits capacity servers fitted rank before prefix_of racks sub t
eleven = refl

twelve : is_fitted (hall 3 8) 12 ≡ false
unfolding valid n_fits k_fits b_fits count_fits capacity servers fitted rank before prefix_of racks sub t
twelve = refl

outside : is_fitted (hall 3 301) 1806 ≡ false
unfolding valid n_fits k_fits b_fits count_fits capacity servers fitted rank before prefix_of racks sub t
outside = refl

-- two DCell1s of the first DCell2 are fitted, and one of the second
first_two : fitted_servers (hall 3 8) 41 ≡ 12
unfolding valid n_fits k_fits b_fits count_fits capacity servers front fitted rank before prefix_of racks cell sub t
first_two = refl

second_two : fitted_servers (hall 3 8) 42 ≡ 6
unfolding valid n_fits k_fits b_fits count_fits capacity servers front fitted rank before prefix_of racks cell sub t
second_two = refl
