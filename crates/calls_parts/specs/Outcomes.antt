-- The first link of a route above a level as a refusal's number and its other values in order.
-- Section "Route without failures".
use Rattle.std.specs.Prelude.{[], ◌∷◌, ℕ, Option, Some, None}
use Rattle.hall.specs.Rooms.{Outcome}
use Rattle.route.specs.declared.Crossing.{Crossing}
use Rattle.route.specs.Answers.{FirstLinkAnswer}

-- the level of a link, which is above 0; 0 for nothing
abbrev pub level_of : Option Crossing → ℕ
level_of None = 0
level_of (Some link) = link.level

-- its end on the side of the route's start, and the other
abbrev pub near_of : Option Crossing → ℕ
near_of None = 0
near_of (Some link) = link.near

abbrev pub far_of : Option Crossing → ℕ
far_of None = 0
far_of (Some link) = link.far

-- level, near end and far end; zeros where there is no such link
abbrev pub of_first_link : FirstLinkAnswer → Outcome
of_first_link a = (a.refusal, level_of a.link ∷ near_of a.link ∷ far_of a.link ∷ [])
