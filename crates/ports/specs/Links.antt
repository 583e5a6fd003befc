-- Which servers a link of level at most l joins, and which of those links are usable: both end ports up.
-- Sections "The hall and its numbers" and "Port codes".
use Rattle.std.specs.Prelude.{Bool, not, List, ℕ, zero, suc, ◌+◌, ◌*◌, eqb}
use Rattle.combine.specs.Tests.{both, either, any_below}
use Rattle.hall.specs.declared.Hall.{Hall}
use Rattle.hall.specs.Cells.{cell, same, neighbour}
use Rattle.ports.specs.Codes.{up}

-- two servers of one DCell0
unfoldable pub on_switch : ℕ → ℕ → ℕ → Bool
on_switch n x y = both (same n 0 x y) (not (eqb x y))

-- port i of both servers is up
unfoldable pub both_up : Hall → List ℕ → ℕ → ℕ → ℕ → Bool
both_up h table i x y = both (up h table x i) (up h table y i)

-- a link of level at most l joins x and y, whatever its ports
unfoldable pub wired : ℕ → ℕ → ℕ → ℕ → Bool
wired n zero x y = on_switch n x y
wired n (suc j) x y = either (wired n j x y) (eqb (neighbour n j x) y)

-- a usable link of level at most l joins x and y
unfoldable pub joined : Hall → List ℕ → ℕ → ℕ → ℕ → Bool
joined h table zero x y = both (on_switch h.n x y) (both_up h table 0 x y)
joined h table (suc j) x y =
    either (joined h table j x y) (both (eqb (neighbour h.n j x) y) (both_up h table (suc j) x y))

-- some server of the switch with this number passes p and has port 0 up: one flag for each switch
unfoldable pub switch_has : Hall → List ℕ → (ℕ → Bool) → ℕ → Bool
switch_has h table p s = any_below (λ i. both (p (s * h.n + i)) (up h table (s * h.n + i) 0)) h.n

-- a server that passes p is joined to x by a usable link of level at most l, where x itself does not pass
unfoldable pub touched : Hall → List ℕ → (ℕ → Bool) → ℕ → ℕ → Bool
touched h table p zero x = both (up h table x 0) (switch_has h table p (cell h.n 0 x))
touched h table p (suc j) x =
    either (touched h table p j x) (both (p (neighbour h.n j x)) (both_up h table (suc j) (neighbour h.n j x) x))
