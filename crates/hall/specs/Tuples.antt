-- A server as a tuple, and the uid of a tuple; place i of a tuple holds a(i).
-- Section "The hall and its numbers".
use Rattle.std.specs.Prelude.{Bool, List, ℕ, zero, suc, ◌+◌, ◌*◌, ◌%◌, eqb, leb, ltb, get_or}
use Rattle.combine.specs.Tests.{pick, all_below}
use Rattle.combine.specs.Lists.{up_to}
use Rattle.hall.specs.Halls.{places}
use Rattle.hall.specs.Cells.{t, g, sub}

-- a(i) of the server u
unfoldable pub entry : ℕ → ℕ → ℕ → ℕ
entry n zero u = u % n
entry n (suc j) u = sub n j u

-- a(i) < g(i) for i > 0 and a0 < n
unfoldable pub limit : ℕ → ℕ → ℕ
limit n zero = n
limit n (suc j) = g n (suc j)

-- uid = a0 + sum of a(j) × t(j-1), over the places up to i
unfoldable pub uid_up_to : ℕ → ℕ → List ℕ → ℕ
uid_up_to n zero a = get_or a 0 0
uid_up_to n (suc j) a = uid_up_to n j a + get_or a (suc j) 0 * t n j

-- an entry is within its limit, and 0 above k
unfoldable pub entry_fits : ℕ → ℕ → List ℕ → ℕ → Bool
entry_fits n k a i = pick (leb i k) (ltb (get_or a i 0) (limit n i)) (eqb (get_or a i 0) 0)

unfoldable pub tuple_fits : ℕ → ℕ → List ℕ → Bool
tuple_fits n k a = all_below (entry_fits n k a) places

-- the tuple of u: its entries up to k, 0 above
unfoldable pub entry_at : ℕ → ℕ → ℕ → ℕ → ℕ
entry_at n k u i = pick (leb i k) (entry n i u) 0

abbrev pub tuple : ℕ → ℕ → ℕ → List ℕ
tuple n k u = up_to (entry_at n k u) places
