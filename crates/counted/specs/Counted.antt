-- A table as its codes count: 0 where a port's own server or, above port 0, its far server is not fitted.
-- Request K5: "a port whose own server or far server isn't fitted counts as code 0".
use Rattle.std.specs.Prelude.{Bool, true, List, ℕ, zero, suc, ◌+◌, ◌/◌, ◌%◌, length, get_or}
use Rattle.combine.specs.Tests.{pick, both}
use Rattle.combine.specs.Lists.{up_to}
use Rattle.hall.specs.declared.Hall.{Hall}
use Rattle.hall.specs.Cells.{neighbour}
use Rattle.ports.specs.Codes.{not_fitted}
use Rattle.plan.specs.Answers.{fitted}

-- the far server of a port is fitted; port 0 leads to the switch and has none
unfoldable pub far_fitted : Hall → ℕ → ℕ → Bool
far_fitted h u zero = true
far_fitted h u (suc j) = fitted h (neighbour h.n j u)

-- a port's own server and its far server are fitted
unfoldable pub port_fitted : Hall → ℕ → ℕ → Bool
port_fitted h u port = both (fitted h u) (far_fitted h u port)

-- byte i of a table whose first server is `first`, as it counts
unfoldable pub counted_at : Hall → ℕ → List ℕ → ℕ → ℕ
counted_at h first table i = pick (port_fitted h (first + i / (h.k + 1)) (i % (h.k + 1))) (get_or table i not_fitted) not_fitted

-- the table as its codes count
unfoldable pub counted : Hall → ℕ → List ℕ → List ℕ
counted h first table = up_to (counted_at h first table) (length table)
