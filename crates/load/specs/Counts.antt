-- What is counted of routes: how many go over a link, and how many of a server's routes begin at each of its ports.
-- Request K13; section "Route without failures".
use Rattle.std.specs.Prelude.{◌≡◌, Bool, true, false, List, [], ◌∷◌, ◌++◌, ℕ, eqb, length}
use Rattle.combine.specs.Tests.{both, either}
use Rattle.sums.specs.Sums.{sum, count}
use Rattle.hall.specs.Cells.{t, same}
use Rattle.route.specs.Routes.{route, hops, of_level}

-- one of some links passes the test
unfoldable pub has : (ℕ → ℕ → Bool) → List (ℕ × ℕ) → Bool
has p [] = false
has p (e ∷ r) = either (p e.0 e.1) (has p r)

-- what that means: a link that passes stands among them
abbrev pub Stands : (ℕ → ℕ → Bool) → List (ℕ × ℕ) → Type 0
Stands p r = (e : ℕ × ℕ) × (before behind : List (ℕ × ℕ)) × (r ≡ before ++ (e ∷ behind)) × (p e.0 e.1 ≡ true)

-- there is a first of some links, and it passes the test
unfoldable pub starts : (ℕ → ℕ → Bool) → List (ℕ × ℕ) → Bool
starts p [] = false
starts p (e ∷ r) = p e.0 e.1

-- over all ordered pairs of servers x, y: the number of pairs whose route has a link that passes the test
unfoldable pub over : ℕ → ℕ → (ℕ → ℕ → Bool) → ℕ
over n k p = sum (λ x. count (λ y. has p (hops (route n k x y))) (t n k)) (t n k)

-- tests of a link from a to b: it goes from u to v; from u over its cable to a server of its DCell0; from such a server to u
abbrev pub is_link : ℕ → ℕ → ℕ → ℕ → Bool
is_link u v a b = both (eqb u a) (eqb v b)

abbrev pub to_switch : ℕ → ℕ → ℕ → ℕ → Bool
to_switch n u a b = both (eqb u a) (same n 0 a b)

abbrev pub from_switch : ℕ → ℕ → ℕ → ℕ → Bool
from_switch n u a b = both (eqb u b) (same n 0 a b)

-- the link from u to v carries so many routes
abbrev pub carries : ℕ → ℕ → ℕ → ℕ → ℕ
carries n k u v = over n k (is_link u v)

-- the cable of u carries so many to its switch, and so many from it
abbrev pub sends : ℕ → ℕ → ℕ → ℕ
sends n k u = over n k (to_switch n u)

abbrev pub takes : ℕ → ℕ → ℕ → ℕ
takes n k u = over n k (from_switch n u)

-- the port of x at level i begins the routes to so many: their first link is of level i
unfoldable pub begins : ℕ → ℕ → ℕ → ℕ → ℕ
begins n k x i = count (λ y. starts (of_level n i) (hops (route n k x y))) (t n k)

-- the links of all routes, over all ordered pairs of servers
unfoldable pub all_links : ℕ → ℕ → ℕ
all_links n k = sum (λ x. sum (λ y. length (hops (route n k x y))) (t n k)) (t n k)
