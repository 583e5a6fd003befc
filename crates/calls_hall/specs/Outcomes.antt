-- Each answer about a hall, its routes and tables as a refusal's number and its other values in order.
-- Sections "The hall and its numbers", "Route without failures" and "Port codes".
use Rattle.std.specs.Prelude.{List, [], ◌∷◌, ℕ}
use Rattle.hall.specs.declared.Hall.{Hall}
use Rattle.hall.specs.Answers.{SizesAnswer}
use Rattle.cells.specs.Answers.{UidAnswer, TupleAnswer, CellAnswer, NeighbourAnswer, LinkAnswer}
use Rattle.route.specs.Answers.{RouteAnswer}
use Rattle.ports.specs.Answers.{part_refusal, part_of}
use Rattle.hall.specs.Rooms.{Outcome}

abbrev pub of_sizes : SizesAnswer → Outcome
of_sizes a = (a.refusal, a.t)

abbrev pub of_uid : UidAnswer → Outcome
of_uid a = (a.refusal, a.uid ∷ [])

abbrev pub of_tuple : TupleAnswer → Outcome
of_tuple a = (a.refusal, a.entries)

abbrev pub of_cell : CellAnswer → Outcome
of_cell a = (a.refusal, a.first ∷ a.count ∷ [])

abbrev pub of_neighbour : NeighbourAnswer → Outcome
of_neighbour a = (a.refusal, a.uid ∷ [])

abbrev pub of_link : LinkAnswer → Outcome
of_link a = (a.refusal, a.from ∷ a.to ∷ [])

-- a route's uids; its links are told by a number of their own
abbrev pub of_route : RouteAnswer → Outcome
of_route a = (a.refusal, a.uids)

-- the part of a hall table for a server
abbrev pub of_part : Hall → List ℕ → ℕ → Outcome
of_part h table u = (part_refusal h table u, part_of h table u)
