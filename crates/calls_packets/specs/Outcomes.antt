-- Each answer about a packet as a refusal's number and its other values in order.
-- Sections "Local distance", "One forwarding step", "Broadcast" and "Frame header".
use Rattle.std.specs.Prelude.{List, [], ◌∷◌, ℕ, eqb}
use Rattle.combine.specs.Tests.{pick}
use Rattle.hall.specs.declared.Hall.{Hall}
use Rattle.local.specs.Answers.{DistancesAnswer, NextHopAnswer}
use Rattle.forward.specs.Answers.{JourneyAnswer}
use Rattle.broadcast.specs.Broadcasts.{BroadcastAnswer, broadcast_of, room_of}
use Rattle.frame.specs.Reading.{read_frame, payload_of}
use Rattle.hall.specs.Rooms.{Outcome, told}

-- the 72 distances, and what they are kept with
abbrev pub of_distances : DistancesAnswer → Outcome
of_distances a = (a.refusal, a.distance)

abbrev pub of_origin : DistancesAnswer → Outcome
of_origin a = (a.refusal, a.origin ∷ a.count ∷ [])

abbrev pub of_next_hop : NextHopAnswer → Outcome
of_next_hop a = (a.refusal, a.found ∷ a.uid ∷ [])

-- the servers reached and the last round
abbrev pub of_broadcast : BroadcastAnswer → Outcome
of_broadcast a = (a.refusal, a.reached ∷ a.last ∷ [])

-- the room for the rounds at exit: they are written where the counts are told, so where either room is short both are as lent
abbrev pub rounds_told : Hall → List ℕ → ℕ → ℕ → List ℕ → List ℕ → List ℕ
rounds_told h table source scope rounds room =
    pick (eqb (told (of_broadcast (broadcast_of h table source scope rounds)) room) 0) (room_of h table source scope rounds) rounds

-- a frame's payload, or the frame's refusal
abbrev pub of_payload : List ℕ → Outcome
of_payload frame = ((read_frame frame).refusal, payload_of frame)

-- the uids that a journey passed, and its counts
abbrev pub of_passed : JourneyAnswer → Outcome
of_passed a = (a.refusal, a.uids)

abbrev pub of_counts : JourneyAnswer → Outcome
of_counts a = (a.refusal, a.ending ∷ a.links ∷ a.reroutes ∷ [])
