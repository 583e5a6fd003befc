-- Worked tables of a step, computed. Each byte of the hall table is its own place, so that a table shows where its bytes come from.
-- Requests K3 and K5.
use Rattle.std.specs.Prelude.{◌≡◌, refl, List, [], ◌∷◌, ℕ}
use Rattle.combine.specs.Lists.{up_to}
use Rattle.hall.specs.Cells.{t, cell, sub, neighbour}
use Rattle.hall.specs.Halls.{full_hall, hall_of, racks}
use Rattle.ports.specs.Codes.{code_of, cell_length, run}
use Rattle.plan.specs.Plan.{rank, before, prefix_of}
use Rattle.plan.specs.Answers.{fitted}
use Rattle.counted.specs.Counted.{far_fitted, port_fitted, counted_at, counted}
use Rattle.local.specs.Local.{cell_size, first_of}
use Rattle.ends.specs.Tables.{far_count, far_code, far_at, step_table}

abbrev placed : ℕ → List ℕ
placed bytes = up_to (λ i. i) bytes

-- n = 2, k = 1, b = 0, server 1: the ports of 0 and 1; port 1 of 2, which is joined to 0, and of 4, which is joined to 1
of_1 : step_table (full_hall 2 1 0) (placed 12) 1 ≡ 0 ∷ 1 ∷ 2 ∷ 3 ∷ 5 ∷ 9 ∷ []
unfolding step_table far_count far_at far_code code_of cell_length run cell_size first_of neighbour cell t up_to
of_1 = refl

-- n = 2, k = 2, b = 1, server 7: the ports of 6 to 11; port 2 of 0, 13, 19, 25, 31 and 37
of_7 : step_table (full_hall 2 2 1) (placed 126) 7
    ≡ 18 ∷ 19 ∷ 20 ∷ 21 ∷ 22 ∷ 23 ∷ 24 ∷ 25 ∷ 26 ∷ 27 ∷ 28 ∷ 29 ∷ 30 ∷ 31 ∷ 32 ∷ 33 ∷ 34 ∷ 35 ∷ 2 ∷ 41 ∷ 59 ∷ 77 ∷ 95 ∷ 113 ∷ []
unfolding step_table far_count far_at far_code code_of cell_length run cell_size first_of neighbour cell t up_to
of_7 = refl

-- n = 2, k = 2, b = 0, server 3: for each of 2 and 3 its far ports of level 1 and then of level 2
of_3 : step_table (full_hall 2 2 0) (placed 126) 3 ≡ 6 ∷ 7 ∷ 8 ∷ 9 ∷ 10 ∷ 11 ∷ 1 ∷ 56 ∷ 16 ∷ 74 ∷ []
unfolding step_table far_count far_at far_code code_of cell_length run cell_size first_of neighbour cell t up_to
of_3 = refl

-- with k = b there is no far code
of_0 : step_table (full_hall 2 0 0) (placed 2) 0 ≡ 0 ∷ 1 ∷ []
unfolding step_table far_count far_at far_code code_of cell_length run cell_size first_of neighbour cell t up_to
of_0 = refl

-- the table of server 7 again with two DCell1s fitted, the servers 0 to 11: 6 alone keeps its port 2 and its far port, for the others are joined to
-- servers that are not fitted
two_racks : step_table (hall_of 2 2 1 2) (counted (hall_of 2 2 1 2) 0 (placed 126)) 7
    ≡ 18 ∷ 19 ∷ 20 ∷ 21 ∷ 22 ∷ 0 ∷ 24 ∷ 25 ∷ 0 ∷ 27 ∷ 28 ∷ 0 ∷ 30 ∷ 31 ∷ 0 ∷ 33 ∷ 34 ∷ 0 ∷ 2 ∷ 0 ∷ 0 ∷ 0 ∷ 0 ∷ 0 ∷ []
unfolding step_table far_count far_at far_code code_of cell_length run cell_size first_of counted counted_at port_fitted far_fitted fitted rank before prefix_of racks neighbour cell sub t up_to
two_racks = refl
