-- How a step's table is written: the far codes level by level, each level's to every so many places of the room; and then, where the hall is not
-- full, each code as it counts, port by port in the same way.
-- Requests K3 and K5.
use Rattle.std.specs.Prelude.{List, ℕ, zero, suc, ◌+◌, ◌*◌, ◌/◌, ◌%◌, leb, ltb, get_or, set}
use Rattle.combine.specs.Tests.{pick, both}
use Rattle.combine.specs.Lists.{up_to}
use Rattle.hall.specs.declared.Hall.{Hall}
use Rattle.words.specs.Rooms.{put}
use Rattle.ports.specs.Codes.{not_fitted, cell_length}
use Rattle.counted.specs.Counted.{port_fitted}
use Rattle.local.specs.Local.{cell_size, first_of}
use Rattle.ends.specs.Tables.{levels}

-- the neighbour of a server so many places behind another of its sub-cell: one sub-cell on for each place, and their own one stepped over
-- where it lies between
unfoldable pub far_behind : ℕ → ℕ → ℕ → ℕ → ℕ → ℕ
far_behind far size inside sub places = far + places * size + pick (both (ltb inside sub) (leb sub (inside + places))) (size + 1) 0

-- f 0, .., f (count - 1) at every m-th place from `at` on
unfoldable pub spread : List ℕ → ℕ → ℕ → (ℕ → ℕ) → ℕ → List ℕ
spread room at m f zero = room
spread room at m f (suc p) = set (spread room at m f p) (at + p * m) (f p)

-- the first so many of m lists, each of them spread from its own place
unfoldable pub layered : List ℕ → ℕ → ℕ → (ℕ → ℕ → ℕ) → ℕ → ℕ → List ℕ
layered room at m f count zero = room
layered room at m f count (suc d) = spread (layered room at m f count d) (at + d) m (f d) count

-- the code of one port of the server p places behind `first`, as it counts; such codes stand at every `step`-th place of the room from `at` on
unfoldable pub port_code : Hall → ℕ → ℕ → List ℕ → ℕ → ℕ → ℕ → ℕ
port_code h first port room at step p = pick (port_fitted h (first + p) port) (get_or room (at + p * step) not_fitted) not_fitted

-- code q of a run that stands in the room from `at` on, as it counts: of each server from `first` on so many ports from `lowest` on, or the far
-- ports of their links, which have the same two servers
unfoldable pub run_code : Hall → ℕ → ℕ → ℕ → List ℕ → ℕ → ℕ → ℕ
run_code h first lowest ports room at q = pick (port_fitted h (first + q / ports) (lowest + q % ports)) (get_or room (at + q) not_fitted) not_fitted

-- the room with such a run of a server's DCell(b) as it counts
unfoldable pub run_counted : Hall → ℕ → ℕ → ℕ → List ℕ → ℕ → List ℕ
run_counted h me lowest ports room at = put room at (up_to (run_code h (first_of h me) lowest ports room at) (cell_size h * ports))

-- the room with the whole of a step's table as it counts: the part, with every port, and behind it the far codes
unfoldable pub table_counted : Hall → ℕ → List ℕ → List ℕ
table_counted h me room = run_counted h me (h.b + 1) (levels h) (run_counted h me 0 (h.k + 1) room 0) (cell_length h h.b)
