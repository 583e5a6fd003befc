-- The table that a step is lent: the part of its server's DCell(b), and behind it the far port's code for each server of the cell in uid order
-- and each level from b+1 to k.
-- Section "Port codes"; requests K3 and K5.
use Rattle.std.specs.Prelude.{List, ◌++◌, ℕ, suc, ◌+◌, ◌-◌, ◌*◌, ◌/◌, ◌%◌, get_or, take, drop}
use Rattle.combine.specs.Lists.{up_to}
use Rattle.hall.specs.declared.Hall.{Hall}
use Rattle.hall.specs.Cells.{neighbour}
use Rattle.ports.specs.Codes.{not_fitted, code_of, cell_length, part}
use Rattle.local.specs.Local.{cell_size, first_of, counting}

-- the levels from b+1 to k
abbrev pub levels : Hall → ℕ
levels h = h.k - h.b

-- the far codes of a DCell(b)
unfoldable pub far_count : Hall → ℕ
far_count h = cell_size h * levels h

-- the bytes of a step's table
unfoldable pub step_length : Hall → ℕ
step_length h = cell_length h h.b + far_count h

-- the code at the far end of the link of level i at server u
unfoldable pub far_code : Hall → List ℕ → ℕ → ℕ → ℕ
far_code h table u i = code_of h table (neighbour h.n (i - 1) u) i

-- the far code at place q of those of a server's DCell(b): server by server, and for each from level b+1 to k
unfoldable pub far_at : Hall → List ℕ → ℕ → ℕ → ℕ
far_at h table me q = far_code h table (first_of h me + q / levels h) (suc h.b + q % levels h)

-- what a server of the hall is lent
unfoldable pub step_table : Hall → List ℕ → ℕ → List ℕ
step_table h table me = part h table me ++ up_to (far_at h table me) (far_count h)

-- what a step reads in the table that it is lent: the table of its DCell(b), and the far code for a place of the cell and a level
unfoldable pub cell_part : Hall → List ℕ → List ℕ
cell_part h lent = take (cell_length h h.b) lent

unfoldable pub far_place : Hall → ℕ → ℕ → ℕ
far_place h place i = cell_length h h.b + (place * levels h + (i - suc h.b))

unfoldable pub far_in : Hall → List ℕ → ℕ → ℕ → ℕ
far_in h lent place i = get_or lent (far_place h place i) not_fitted

-- the table that a step is lent, as its codes count: of the near codes alone, since the two ports of a link have the same two servers
unfoldable pub lent_counted : Hall → ℕ → List ℕ → List ℕ
lent_counted h me lent = counting h me (cell_part h lent) ++ drop (cell_length h h.b) lent
