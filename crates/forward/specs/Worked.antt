-- Worked steps, computed from the definitions: n = 4, k = 1, b = 0, at server 0. The bench's journeys stand in the table of `promises`.
-- Section "One forwarding step".
use Rattle.std.specs.Prelude.{◌≡◌, refl, List, [], ◌∷◌, ℕ}
use Rattle.combine.specs.Tests.{any_below}
use Rattle.combine.specs.Lists.{up_to}
use Rattle.hall.specs.declared.Hall.{Hall}
use Rattle.hall.specs.Cells.{t, cell, same, sub, port, end, near, far, neighbour, lowest}
use Rattle.hall.specs.Halls.{racks, capacity, full_hall, n_fits, k_fits, b_fits, count_fits, valid, servers}
use Rattle.ports.specs.Codes.{code_of, up, cell_length}
use Rattle.ports.specs.Links.{on_switch, both_up, joined}
use Rattle.search.specs.Rounds.{new, mark, marks}
use Rattle.route.specs.Routes.{route, hops}
use Rattle.route.specs.Answers.{first_among, first_above, first_link}
use Rattle.local.specs.Lowest.{lowest_from}
use Rattle.local.specs.Local.{cell_size, place_of, first_of, linked, distances_from, distance, nearer, hop}
use Rattle.ends.specs.Tables.{cell_part, far_place, far_in}
use Rattle.forward.specs.declared.Packet.{Packet}
use Rattle.forward.specs.Packets.{packet_of, forwarded, drop_route, delivered, is_arrived, goal}
use Rattle.forward.specs.Seen.{usable}
use Rattle.forward.specs.Proxies.{is_candidate, best_below, first_found, choice}
use Rattle.forward.specs.Steps.{reachable, first_level, reroute_on, step_from, step_on, step}

hall : Hall
hall = full_hall 4 1 0

-- the table of servers 0 to 3: port 0 of server 1 is down; and the far port of each one's link of level 1: that of server 3 is silent
table : List ℕ
table = 1 ∷ 1 ∷ 2 ∷ 1 ∷ 1 ∷ 1 ∷ 1 ∷ 1 ∷ 1 ∷ 1 ∷ 1 ∷ 3 ∷ []

-- dst, proxy, retry, TTL
packet : ℕ → ℕ → ℕ → ℕ → Packet
packet dst proxy retry ttl = packet_of dst 1 proxy retry ttl

-- at its destination a packet is delivered at TTL 0, as it came
at_dst : step hall table 0 (packet 0 1 5 0) ≡ record { refusal = 0; ending = delivered; next = 0; packet = packet 0 1 5 0; reroutes = 0 }
unfolding step_on hall table packet
at_dst = refl

-- to 19 by way of proxy 1, which can't be reached: it is cleared; the link 3-16 is out, so a new proxy is set, the neighbour of 0 itself
two_reroutes : step hall table 0 (packet 19 1 5 15) ≡ record { refusal = 0; ending = forwarded; next = 4; packet = packet 19 4 3 14; reroutes = 2 }
unfolding any_below up_to t cell same sub port end near far neighbour lowest n_fits k_fits b_fits count_fits capacity racks valid servers code_of up cell_length cell_part far_place far_in on_switch both_up joined new mark marks route hops first_among first_above first_link lowest_from cell_size place_of first_of linked distances_from distance nearer hop is_arrived goal usable is_candidate best_below first_found choice reachable first_level reroute_on step_from step_on hall table packet
two_reroutes = refl

-- dst in the own cell, and the proxy out of reach: drop 2, though dst could be reached
no_route_lem : step hall table 0 (packet 2 1 5 15) ≡ record { refusal = 0; ending = drop_route; next = 0; packet = packet 2 1 5 15; reroutes = 0 }
unfolding any_below up_to t cell same sub port end near far neighbour lowest n_fits k_fits b_fits count_fits capacity racks valid servers code_of up cell_length cell_part far_place far_in on_switch both_up joined new mark marks route hops first_among first_above first_link lowest_from cell_size place_of first_of linked distances_from distance nearer hop is_arrived goal usable is_candidate best_below first_found choice reachable first_level reroute_on step_from step_on hall table packet
no_route_lem = refl
