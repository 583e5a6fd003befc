-- Local distances and next hops worked out: in a ring of six servers, and in the cell of the night sheet's example with b = 1.
use Rattle.std.specs.Prelude.{◌≡◌, refl, List, [], ◌∷◌, ℕ, set, replicate}
use Rattle.combine.specs.Tests.{any_below}
use Rattle.combine.specs.Lists.{up_to}
use Rattle.hall.specs.declared.Hall.{Hall}
use Rattle.hall.specs.Cells.{t, cell, same, neighbour}
use Rattle.hall.specs.Halls.{full_hall}
use Rattle.ports.specs.Codes.{code_of, up}
use Rattle.ports.specs.Links.{on_switch, both_up, joined}
use Rattle.search.specs.Rounds.{new, mark, marks}
use Rattle.local.specs.Lowest.{lowest_from}
use Rattle.local.specs.Local.{cell_size, linked, distances_from, distance, nearer, hop}

-- n = 2, k = 1, b = 1: the ring 0 1 4 5 3 2
ring : Hall
ring = full_hall 2 1 1

all_up : List ℕ
all_up = replicate 12 1

ring_distances : distances_from ring all_up 0 ≡ 0 ∷ 1 ∷ 1 ∷ 2 ∷ 2 ∷ 3 ∷ []
unfolding any_below up_to t cell same neighbour code_of up on_switch both_up joined new mark marks cell_size linked distances_from ring all_up
ring_distances = refl

ring_back : distances_from ring all_up 5 ≡ 3 ∷ 2 ∷ 2 ∷ 1 ∷ 1 ∷ 0 ∷ []
unfolding any_below up_to t cell same neighbour code_of up on_switch both_up joined new mark marks cell_size linked distances_from ring all_up
ring_back = refl

-- from 0 towards 5 both 1 and 2 are one link nearer, and 1 is lower
ring_hop : hop ring all_up 0 5 ≡ 1
unfolding t cell same neighbour code_of up on_switch both_up joined lowest_from cell_size linked distance nearer hop ring all_up
ring_hop = rw ring_back

-- port 1 of server 0 down: its link to 2 is not usable from either end
cut : List ℕ
cut = set all_up 1 2

cut_distances : distances_from ring cut 0 ≡ 0 ∷ 1 ∷ 5 ∷ 4 ∷ 2 ∷ 3 ∷ []
unfolding any_below up_to t cell same neighbour code_of up on_switch both_up joined new mark marks cell_size linked distances_from ring all_up cut
cut_distances = refl

-- all codes 0: a server is at a distance from itself alone
dead_distances : distances_from ring (replicate 12 0) 4 ≡ 255 ∷ 255 ∷ 255 ∷ 255 ∷ 0 ∷ 255 ∷ []
unfolding any_below up_to t cell same neighbour code_of up on_switch both_up joined new mark marks cell_size linked distances_from ring
dead_distances = refl

-- n = 4, k = 1, b = 1, codes all 1 but 2 at bytes 7 and 33: from 0 towards 19 both 2 and 4 are one link nearer, and 2 is lower
sheet : Hall
sheet = full_hall 4 1 1

codes : List ℕ
codes = set (set (replicate 40 1) 7 2) 33 2

sheet_distances : distances_from sheet codes 19 ≡ 4 ∷ 4 ∷ 3 ∷ 4 ∷ 3 ∷ 3 ∷ 3 ∷ 2 ∷ 3 ∷ 3 ∷ 3 ∷ 2 ∷ 2 ∷ 2 ∷ 2 ∷ 1 ∷ 1 ∷ 1 ∷ 1 ∷ 0 ∷ []
unfolding any_below up_to t cell same neighbour code_of up on_switch both_up joined new mark marks cell_size linked distances_from sheet codes
sheet_distances = refl

sheet_hop : hop sheet codes 0 19 ≡ 2
unfolding t cell same neighbour code_of up on_switch both_up joined lowest_from cell_size linked distance nearer hop sheet codes
sheet_hop = rw sheet_distances
