-- What each public call about routes answers.
-- Sections "Route without failures", "One forwarding step" (4) and "Refusal numbers".
use Rattle.std.specs.Prelude.{List, [], ◌∷◌, ◌++◌, ℕ, ◌-◌, ltb, length, replicate, Option, Some, None, Result}
use Rattle.combine.specs.Tests.{pick, both}
use Rattle.hall.specs.declared.Hall.{Hall}
use Rattle.hall.specs.declared.refusals.Refusal.{Refusal}
use Rattle.hall.specs.Refusals.{refusal, answered, stated}
use Rattle.hall.specs.Halls.{valid, servers, asks_hall, asks_uid}
use Rattle.route.specs.declared.Route.{Route}
use Rattle.route.specs.declared.Crossing.{Crossing}
use Rattle.route.specs.Routes.{route, hops, level_of}

-- the servers of the longest route: 15 links, those of the highest level
abbrev pub longest : ℕ
longest = 16

-- the uids in order, zeros behind them
unfoldable pub padded : List ℕ → List ℕ
padded r = r ++ replicate (longest - length r) 0

-- the route from x to y in a hall
unfoldable pub in_hall : Hall → ℕ → ℕ → List ℕ
in_hall h x y = route h.n h.k x y

-- the route of two servers, and what a refusal answers
pub record RouteAnswer : Type 0 where
  pub refusal : ℕ
  pub links : ℕ
  pub uids : List ℕ

abbrev pub no_route : ℕ → RouteAnswer
no_route number = record { refusal = number; links = 0; uids = replicate longest 0 }

abbrev pub route_between : Hall → ℕ → ℕ → RouteAnswer
route_between h x y =
    answered (refusal (asks_hall h ∷ asks_uid h x ∷ asks_uid h y ∷ []))
    (record { refusal = 0; links = length (in_hall h x y) - 1; uids = padded (in_hall h x y) })
    no_route

-- the number and the route of an answer
abbrev pub route_stated : Result Route Refusal → RouteAnswer
route_stated = stated (λ r. record { refusal = 0; links = r.links; uids = r.uids }) no_route

-- a link by its near end, its far end and its level
abbrev pub link_of : ℕ → ℕ → ℕ → Option Crossing
link_of near far level = Some (record { near = near; far = far; level = level })

-- the first of some links whose level is above b, with its level
unfoldable pub first_among : ℕ → ℕ → ℕ → List (ℕ × ℕ) → Option Crossing
first_among n b l [] = None
first_among n b l (e ∷ r) = pick (ltb b (level_of n l e)) (link_of e.0 e.1 (level_of n l e)) (first_among n b l r)

-- take the route from x to y and its first link above level b
unfoldable pub first_above : ℕ → ℕ → ℕ → ℕ → ℕ → Option Crossing
first_above n b l x y = first_among n b l (hops (route n l x y))

-- the same in a hall, b being its local level, and what a refusal answers
pub record FirstLinkAnswer : Type 0 where
  pub refusal : ℕ
  pub link : Option Crossing

abbrev pub no_link : ℕ → FirstLinkAnswer
no_link number = record { refusal = number; link = None }

abbrev pub first_link_of : Hall → ℕ → ℕ → FirstLinkAnswer
first_link_of h x y =
    answered (refusal (asks_hall h ∷ asks_uid h x ∷ asks_uid h y ∷ []))
    (record { refusal = 0; link = first_above h.n h.b h.k x y })
    no_link

-- the number and the link of an answer
abbrev pub first_link_stated : Result (Option Crossing) Refusal → FirstLinkAnswer
first_link_stated = stated (λ link. record { refusal = 0; link = link }) no_link

-- and the link alone; none where there is no such hall or server
unfoldable pub first_link : Hall → ℕ → ℕ → Option Crossing
first_link h x y =
    pick (both (valid h) (both (ltb x (servers h)) (ltb y (servers h)))) (first_above h.n h.b h.k x y) None
