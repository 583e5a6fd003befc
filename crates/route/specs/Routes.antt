-- The route without failures, its links and their levels, over the level; n is the number of servers on a mini-switch.
-- Section "Route without failures".
use Rattle.std.specs.Prelude.{Bool, not, List, [], ◌∷◌, ◌++◌, ℕ, zero, suc, eqb, ltb}
use Rattle.combine.specs.Tests.{pick, both}
use Rattle.hall.specs.Cells.{same, near, far, lowest}

-- From x to x: the server itself, no link. In the same DCell0: x, y. Else, at the lowest level that holds both, the route to the
-- near end of the one link between their sub-cells, that link, and the route from its far end. l is a level that holds both
unfoldable pub route : ℕ → ℕ → ℕ → ℕ → List ℕ
route n zero x y = pick (eqb x y) (x ∷ []) (x ∷ y ∷ [])
route n (suc j) x y = pick (same n j x y) (route n j x y) (route n j x (near n j x y) ++ route n j (far n j x y) y)

-- the links of a list of servers: the pairs of those that follow each other
unfoldable pub hops : List ℕ → List (ℕ × ℕ)
hops [] = []
hops (x ∷ []) = []
hops (x ∷ (y ∷ r)) = (x, y) ∷ hops (y ∷ r)

-- the level of a link: the lowest, up to l, that holds both of its ends
abbrev pub level_of : ℕ → ℕ → ℕ × ℕ → ℕ
level_of n l e = lowest n l e.0 e.1

-- a link from u to v is of level i
unfoldable pub of_level : ℕ → ℕ → ℕ → ℕ → Bool
of_level n zero u v = same n zero u v
of_level n (suc j) u v = both (not (same n j u v)) (same n (suc j) u v)

-- those of some links that pass a test
unfoldable pub select : (ℕ → ℕ → Bool) → List (ℕ × ℕ) → List (ℕ × ℕ)
select f [] = []
select f (e ∷ r) = pick (f e.0 e.1) (e ∷ select f r) (select f r)

-- the links of a route in order, by recursion on the level
unfoldable pub links : ℕ → ℕ → ℕ → ℕ → List (ℕ × ℕ)
links n zero x y = pick (eqb x y) [] ((x, y) ∷ [])
links n (suc j) x y =
    pick (same n j x y) (links n j x y) (links n j x (near n j x y) ++ ((near n j x y, far n j x y) ∷ links n j (far n j x y) y))

-- those of them above level b, by recursion on the level
unfoldable pub above : ℕ → ℕ → ℕ → ℕ → ℕ → List (ℕ × ℕ)
above n b zero x y = []
above n b (suc j) x y =
    pick (ltb j b) []
    (pick (same n j x y) (above n b j x y) (above n b j x (near n j x y) ++ ((near n j x y, far n j x y) ∷ above n b j (far n j x y) y)))
