-- The port codes by name, which of them are known, and where a port's code stands in a table: the one place where a byte becomes "up".
-- Section "Port codes".
use Rattle.std.specs.Prelude.{◌≡◌, Bool, true, List, [], ◌∷◌, ℕ, suc, ◌+◌, ◌*◌, ◌<◌, eqb, leb, length, get_or, take, drop}
use Rattle.combine.specs.Tests.{pick, both}
use Rattle.hall.specs.declared.Hall.{Hall}
use Rattle.hall.specs.Cells.{t, cell}
use Rattle.hall.specs.Halls.{places, largest, servers}

-- no port is fitted there
abbrev pub not_fitted : ℕ
not_fitted = 0

-- the one code that counts as up
abbrev pub code_up : ℕ
code_up = 1

abbrev pub is_up : ℕ → Bool
is_up code = eqb code code_up

abbrev pub code_down : ℕ
code_down = 2

-- silent past its timeout
abbrev pub code_silent : ℕ
code_silent = 3

-- held for tests
abbrev pub code_held : ℕ
code_held = 4

-- all other values are unknown
unfoldable pub known : ℕ → Bool
known code = leb code code_held

-- every code of a table is known
unfoldable pub all_known : List ℕ → Bool
all_known [] = true
all_known (code ∷ codes) = both (known code) (all_known codes)

-- where the first unknown code of a table stands
unfoldable pub first_unknown : List ℕ → ℕ
first_unknown [] = 0
first_unknown (code ∷ codes) = pick (known code) (suc (first_unknown codes)) 0

-- port i of server u is byte u(k+1) + i; a server has the ports 0 to k, and a byte that the table has not is no port. In the table of a
-- DCell the server is its place there
unfoldable pub code_of : Hall → List ℕ → ℕ → ℕ → ℕ
code_of h table server port = pick (leb port h.k) (get_or table (server * (h.k + 1) + port) not_fitted) not_fitted

-- only code 1 counts as up
unfoldable pub up : Hall → List ℕ → ℕ → ℕ → Bool
up h table server port = is_up (code_of h table server port)

-- the bytes of a hall table
unfoldable pub table_length : Hall → ℕ
table_length h = servers h * (h.k + 1)

-- the bytes of the largest hall table
abbrev pub largest_table : ℕ
largest_table = largest * places

-- the bytes of the table of a DCell of level i
unfoldable pub cell_length : Hall → ℕ → ℕ
cell_length h i = t h.n i * (h.k + 1)

-- the table of the DCell of level i around a server: that run of the hall table
unfoldable pub run : Hall → List ℕ → ℕ → ℕ → List ℕ
run h table i u = take (cell_length h i) (drop (cell h.n i u * cell_length h i) table)

-- the hall table's part for a server: the table of its DCell(b)
abbrev pub part : Hall → List ℕ → ℕ → List ℕ
part h table u = run h table h.b u

-- two tables with code 1 at the same places
unfoldable pub SameUps : List ℕ → List ℕ → Type 0
SameUps a b = (i : ℕ) → is_up (get_or a i not_fitted) ≡ is_up (get_or b i not_fitted)

-- every port of a table is up
unfoldable pub EveryUp : List ℕ → Type 0
EveryUp table = (i : ℕ) → i < length table → get_or table i not_fitted ≡ code_up
