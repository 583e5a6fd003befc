-- Worked values of routes, computed.
-- Section "Route without failures".
use Rattle.std.specs.Prelude.{◌≡◌, refl, List, [], ◌∷◌, map, ℕ, Some}
use Rattle.hall.specs.Cells.{t, cell, same, sub, port, end, near, far, lowest}
use Rattle.hall.specs.Halls.{racks, capacity, full_hall, n_fits, k_fits, b_fits, count_fits, valid, servers}
use Rattle.hall.specs.Refusals.{refusal}
use Rattle.route.specs.Routes.{route, hops}
use Rattle.route.specs.Answers.{padded, in_hall, route_between, first_among, first_above, first_link}

-- routes asked as (n, k, x, y): one with a single link above the switch, a server to itself, the two ends of the largest hall
abbrev pub asked : List (ℕ × ℕ × ℕ × ℕ)
asked = (4, 1, 0, 19) ∷ (4, 1, 7, 7) ∷ (8, 3, 0, 27630791) ∷ []

abbrev pub answers : List (List ℕ)
answers =
    (0 ∷ 3 ∷ 16 ∷ 19 ∷ [])
    ∷ (7 ∷ [])
    ∷ (0 ∷ 7 ∷ 64 ∷ 71 ∷ 5184 ∷ 5191 ∷ 5248 ∷ 5255 ∷ 27625536 ∷ 27625543 ∷ 27625600 ∷ 27625607 ∷ 27630720 ∷ 27630727 ∷ 27630784 ∷ 27630791 ∷ [])
    ∷ []

pub routes : map (λ (q : ℕ × ℕ × ℕ × ℕ). route q.0 q.1 q.2 q.3) asked ≡ answers
unfolding route same near far end port sub cell t
routes = refl

-- the answer of the call, zeros behind the uids
pub route_between_0_19 : route_between (full_hall 4 1 0) 0 19
    ≡ record { refusal = 0; links = 3; uids = 0 ∷ 3 ∷ 16 ∷ 19 ∷ 0 ∷ 0 ∷ 0 ∷ 0 ∷ 0 ∷ 0 ∷ 0 ∷ 0 ∷ 0 ∷ 0 ∷ 0 ∷ 0 ∷ [] }
unfolding padded in_hall route same near far end port sub cell t valid n_fits k_fits b_fits count_fits capacity racks servers refusal
route_between_0_19 = refl

-- 20 is no server of the hall of n = 4, k = 1
pub route_between_20 : route_between (full_hall 4 1 0) 0 20
    ≡ record { refusal = 2; links = 0; uids = 0 ∷ 0 ∷ 0 ∷ 0 ∷ 0 ∷ 0 ∷ 0 ∷ 0 ∷ 0 ∷ 0 ∷ 0 ∷ 0 ∷ 0 ∷ 0 ∷ 0 ∷ 0 ∷ [] }
unfolding padded in_hall route same near far end port sub cell t valid n_fits k_fits b_fits count_fits capacity racks servers refusal
route_between_20 = refl

-- the first link above level 0 and above level 1, in the hall of n = 2, k = 2
pub first_5_11 : (first_link (full_hall 2 2 0) 5 11 ≡ Some (record { near = 4; far = 1; level = 1 }))
    × (first_link (full_hall 2 2 1) 5 11 ≡ Some (record { near = 0; far = 6; level = 2 }))
unfolding first_link first_above first_among hops lowest route same near far end port sub cell t valid n_fits k_fits b_fits count_fits capacity racks servers
first_5_11 = (refl, refl)
