-- Worked values: known codes, and the ports of the night sheet's table, n = 4, k = 1, forty codes all 1 but 2 at the bytes 7 and 33.
-- Section "Port codes" and "The night sheet".
use Rattle.std.specs.Prelude.{◌≡◌, refl, true, false, List, [], ◌∷◌, ◌++◌, ℕ, replicate}
use Rattle.hall.specs.declared.Hall.{Hall}
use Rattle.hall.specs.Cells.{t, cell, same, neighbour}
use Rattle.hall.specs.Halls.{racks, capacity, full_hall, n_fits, k_fits, b_fits, count_fits, valid, servers}
use Rattle.hall.specs.Refusals.{refusal}
use Rattle.ports.specs.Codes.{known, all_known, first_unknown, code_of, up, table_length, cell_length, run}
use Rattle.ports.specs.Links.{on_switch, both_up, joined}
use Rattle.ports.specs.Answers.{check_of, part_refusal, part_of}

four_is_known : known 4 ≡ true
unfolding known
four_is_known = refl

seven_is_unknown : known 7 ≡ false
unfolding known
seven_is_unknown = refl

hall : Hall
hall = full_hall 4 1 0

table : ℕ → List ℕ
table code = replicate 7 1 ++ (code ∷ []) ++ replicate 25 1 ++ (code ∷ []) ++ replicate 6 1

-- byte 7 is port 1 of server 3, byte 33 port 1 of server 16
port_down : up hall (table 2) 3 1 ≡ false
unfolding up code_of hall table
port_down = refl

port_up : up hall (table 2) 3 0 ≡ true
unfolding up code_of hall table
port_up = refl

-- k is 1: a server has no port 2, though the byte there, port 0 of the next server, is 1
no_such_port : up hall (table 2) 0 2 ≡ false
unfolding up code_of hall table
no_such_port = refl

-- the one cable between the cells 0 and 4 is 3-16: not usable here; 0-4 is
cable_down : joined hall (table 2) 1 3 16 ≡ false
unfolding joined on_switch both_up same neighbour cell t up code_of hall table
cable_down = refl

cable_up : joined hall (table 2) 1 0 4 ≡ true
unfolding joined on_switch both_up same neighbour cell t up code_of hall table
cable_up = refl

-- the check takes 2
check_known : check_of hall (table 2) ≡ record { refusal = 0; place = 0 }
unfolding refusal valid n_fits k_fits b_fits count_fits capacity racks table_length servers t known all_known first_unknown hall table
check_known = refl

-- the part for server 17 is that of its switch: servers 16 to 19, the bytes 32 to 39
part_of_seventeen : part_of hall (table 2) 17 ≡ 1 ∷ 2 ∷ 1 ∷ 1 ∷ 1 ∷ 1 ∷ 1 ∷ 1 ∷ []
unfolding refusal valid n_fits k_fits b_fits count_fits capacity racks table_length servers cell_length run cell t hall table
part_of_seventeen = refl

-- server 20 is not of the hall
part_of_twenty : part_refusal hall (table 2) 20 ≡ 2
unfolding refusal valid n_fits k_fits b_fits count_fits capacity racks table_length servers t hall table
part_of_twenty = refl
