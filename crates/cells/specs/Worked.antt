-- Worked tuples, cells, neighbours and links, computed from the definitions.
-- Section "The hall and its numbers".
use Rattle.std.specs.Prelude.{◌≡◌, refl, [], ◌∷◌}
use Rattle.combine.specs.Tests.{all_below}
use Rattle.combine.specs.Lists.{up_to}
use Rattle.hall.specs.declared.Hall.{Hall}
use Rattle.hall.specs.Refusals.{refusal}
use Rattle.hall.specs.Cells.{t, g, cell, sub, port, end, neighbour}
use Rattle.hall.specs.Halls.{racks, capacity, full_hall, n_fits, k_fits, b_fits, count_fits, valid, servers}
use Rattle.hall.specs.Tuples.{entry, limit, uid_up_to, entry_fits, tuple_fits, entry_at}
use Rattle.cells.specs.Answers.{uid_of, tuple_of, cell_around, neighbour_of, link_between}

abbrev two : Hall
two = full_hall 2 2 0

abbrev four : Hall
four = full_hall 4 1 0

-- [1,1,0] is 8; place 0 holds a0
eight : uid_of two (0 ∷ 1 ∷ 1 ∷ 0 ∷ []) ≡ record { refusal = 0; uid = 8 }
unfolding refusal valid n_fits k_fits b_fits count_fits capacity racks tuple_fits entry_fits all_below limit g uid_up_to t
eight = refl

-- a place above k holds 0
above_k : uid_of two (0 ∷ 1 ∷ 1 ∷ 1 ∷ []) ≡ record { refusal = 3; uid = 0 }
unfolding refusal valid n_fits k_fits b_fits count_fits capacity racks tuple_fits entry_fits all_below limit g uid_up_to t
above_k = refl

-- 7 is [1,3]
seven : tuple_of four 7 ≡ record { refusal = 0; entries = 3 ∷ 1 ∷ 0 ∷ 0 ∷ [] }
unfolding refusal valid n_fits k_fits b_fits count_fits capacity racks servers up_to entry_at entry sub t
seven = refl

-- cells 1 and 2 meet at 5-9, asked from any server of the hall; a cell does not meet itself
meeting : link_between four 0 1 1 2 ≡ record { refusal = 0; from = 5; to = 9 }
unfolding refusal valid n_fits k_fits b_fits count_fits capacity racks servers g end port t
meeting = refl

same_cell : link_between four 0 1 2 2 ≡ record { refusal = 3; from = 0; to = 0 }
unfolding refusal valid n_fits k_fits b_fits count_fits capacity racks servers g end port t
same_cell = refl

neighbours : neighbour_of four 3 1 ≡ record { refusal = 0; uid = 16 }
unfolding refusal valid n_fits k_fits b_fits count_fits capacity racks servers neighbour t
neighbours = refl

around : cell_around four 17 0 ≡ record { refusal = 0; first = 16; count = 4 }
unfolding refusal valid n_fits k_fits b_fits count_fits capacity racks servers cell t
around = refl
