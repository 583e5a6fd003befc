-- Broadcasts worked out: n = 2, k = 1, six servers in a ring 0 1 4 5 3 2, within scope 1 and scope 0; then n = 2, k = 2 with two of seven DCell1s
-- fitted, within scope 1 and scope 2.
-- Section "Broadcast"; request K5.
use Rattle.std.specs.Prelude.{◌≡◌, refl, List, [], ◌∷◌, ◌++◌, ℕ, set, replicate}
use Rattle.combine.specs.Tests.{any_below}
use Rattle.combine.specs.Lists.{up_to}
use Rattle.hall.specs.declared.Hall.{Hall}
use Rattle.hall.specs.Cells.{t, cell, same, sub, neighbour}
use Rattle.hall.specs.Halls.{hall_of, racks, capacity, full_hall, n_fits, k_fits, b_fits, count_fits, valid, servers}
use Rattle.hall.specs.Refusals.{refusal}
use Rattle.ports.specs.Codes.{code_of, up, table_length}
use Rattle.ports.specs.Links.{on_switch, both_up, joined}
use Rattle.plan.specs.Plan.{rank, before, prefix_of}
use Rattle.plan.specs.Answers.{fitted}
use Rattle.counted.specs.Counted.{far_fitted, port_fitted, counted_at, counted}
use Rattle.search.specs.Rounds.{new, mark, marks, reached_count, last_round}
use Rattle.broadcast.specs.Broadcasts.{scope_fits, scope_size, first_in, linked, rounds, rounds_of, broadcast_refusal, broadcast_of, room_of}

ring : Hall
ring = full_hall 2 1 0

every : List ℕ
every = replicate 12 1

-- all up, from 0 within scope 1; the room's last two numbers stay
ring_room : room_of ring every 0 1 (replicate 8 7) ≡ 0 ∷ 1 ∷ 1 ∷ 2 ∷ 2 ∷ 3 ∷ 7 ∷ 7 ∷ []
unfolding counted counted_at port_fitted far_fitted fitted rank any_below up_to t cell same neighbour n_fits k_fits b_fits count_fits capacity racks valid servers refusal code_of up table_length on_switch both_up joined new mark marks scope_fits scope_size first_in linked rounds ring every
ring_room = refl

ring_answer : broadcast_of ring every 0 1 (replicate 6 0) ≡ record { refusal = 0; reached = 6; last = 3 }
unfolding counted counted_at port_fitted far_fitted fitted rank any_below up_to t cell same neighbour n_fits k_fits b_fits count_fits capacity racks valid servers refusal code_of up table_length on_switch both_up joined new mark marks reached_count last_round scope_fits scope_size first_in linked rounds ring every
ring_answer = refl

-- port 1 of server 0 down: the way to 2 is round
round_about : rounds ring (set every 1 2) 0 1 ≡ 0 ∷ 1 ∷ 5 ∷ 4 ∷ 2 ∷ 3 ∷ []
unfolding any_below up_to t cell same neighbour code_of up on_switch both_up joined new mark marks scope_size first_in linked rounds ring every
round_about = refl

-- an unknown code is not up either
unknown_about : rounds ring (set every 1 7) 0 1 ≡ 0 ∷ 1 ∷ 5 ∷ 4 ∷ 2 ∷ 3 ∷ []
unfolding any_below up_to t cell same neighbour code_of up on_switch both_up joined new mark marks scope_size first_in linked rounds ring every
unknown_about = refl

-- all down: the source alone, in round 0
alone : broadcast_of ring (replicate 12 0) 4 1 (replicate 6 0) ≡ record { refusal = 0; reached = 1; last = 0 }
unfolding counted counted_at port_fitted far_fitted fitted rank any_below up_to t cell same neighbour n_fits k_fits b_fits count_fits capacity racks valid servers refusal code_of up table_length on_switch both_up joined new mark marks reached_count last_round scope_fits scope_size first_in linked rounds ring
alone = refl

-- within scope 0 the source's switch, servers 4 and 5
switch_room : room_of ring every 5 0 (replicate 3 7) ≡ 1 ∷ 0 ∷ 7 ∷ []
unfolding counted counted_at port_fitted far_fitted fitted rank any_below up_to t cell same neighbour n_fits k_fits b_fits count_fits capacity racks valid servers refusal code_of up table_length on_switch both_up joined new mark marks scope_fits scope_size first_in linked rounds ring every
switch_room = refl

-- the scope is asked before the room, and a refused room stays as lent
scope_two : broadcast_refusal ring every 0 2 [] ≡ 11
unfolding n_fits k_fits b_fits count_fits capacity racks valid servers t refusal table_length scope_fits scope_size ring every
scope_two = refl

short_room : room_of ring every 0 1 (replicate 5 7) ≡ replicate 5 7
unfolding n_fits k_fits b_fits count_fits capacity racks valid servers t refusal table_length scope_fits scope_size rounds ring every
short_room = refl

-- n = 2, k = 2, two of seven DCell1s fitted: the servers 0 to 11 are
part : Hall
part = hall_of 2 2 0 2

codes : List ℕ
codes = replicate 126 1

-- from server 13, which is not fitted: itself in round 0
unfitted_room : room_of part codes 13 1 (replicate 7 7) ≡ 65535 ∷ 0 ∷ 65535 ∷ 65535 ∷ 65535 ∷ 65535 ∷ 7 ∷ []
unfolding counted counted_at port_fitted far_fitted fitted rank before prefix_of sub any_below up_to t cell same neighbour n_fits k_fits b_fits count_fits capacity racks valid servers refusal code_of up table_length on_switch both_up joined new mark marks scope_fits scope_size first_in linked rounds part codes
unfitted_room = refl

unfitted_answer : broadcast_of part codes 13 1 (replicate 6 0) ≡ record { refusal = 0; reached = 1; last = 0 }
unfolding counted counted_at port_fitted far_fitted fitted rank before prefix_of sub any_below up_to t cell same neighbour n_fits k_fits b_fits count_fits capacity racks valid servers refusal code_of up table_length on_switch both_up joined new mark marks reached_count last_round scope_fits scope_size first_in linked rounds part codes
unfitted_answer = refl

-- from server 0 within scope 2: the ring of its DCell1, over the link of 0 and 6 that of the next, and nobody behind them
part_rounds : rounds_of part codes 0 2 ≡ (0 ∷ 1 ∷ 1 ∷ 2 ∷ 2 ∷ 3 ∷ 1 ∷ 2 ∷ 2 ∷ 3 ∷ 3 ∷ 4 ∷ []) ++ replicate 30 65535
unfolding counted counted_at port_fitted far_fitted fitted rank before prefix_of sub any_below up_to t cell same neighbour racks code_of up on_switch both_up joined new mark marks scope_size first_in linked rounds part codes
part_rounds = refl
