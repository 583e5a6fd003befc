-- A journey: the step repeated over the hall table, each step seeing only the table that its server is lent, recursive on the TTL.
-- Section "One forwarding step", its last sentence; request K3.
use Rattle.std.specs.Prelude.{List, [], ◌∷◌, ℕ, zero, suc, ◌+◌, eqb}
use Rattle.combine.specs.Tests.{pick}
use Rattle.hall.specs.declared.Hall.{Hall}
use Rattle.ends.specs.Tables.{step_table}
use Rattle.forward.specs.declared.Packet.{Packet}
use Rattle.forward.specs.Packets.{StepAnswer}
use Rattle.forward.specs.Packets.{forwarded, tidied}
use Rattle.forward.specs.Seen.{Seen, seen}
use Rattle.forward.specs.Steps.{step_on}

-- the ending, the links crossed, the reroutes, the uids passed
pub record Trip : Type 0 where
  pub ending : ℕ
  pub links : ℕ
  pub reroutes : ℕ
  pub uids : List ℕ

-- what the step of a server sees of the hall table: the table that it is lent
abbrev pub sight : Hall → List ℕ → ℕ → Seen
sight h table me = seen h (step_table h table me)

-- the step of a server of the hall
abbrev pub step_at : Hall → List ℕ → ℕ → Packet → StepAnswer
step_at h table me p = step_on h (sight h table me) me (tidied p)

-- the last step
abbrev pub ends_at : ℕ → StepAnswer → Trip
ends_at me o = record { ending = o.ending; links = 0; reroutes = o.reroutes; uids = me ∷ [] }

-- a step before a trip
abbrev pub goes_on : ℕ → StepAnswer → Trip → Trip
goes_on me o rest = record { ending = rest.ending; links = rest.links + 1; reroutes = o.reroutes + rest.reroutes; uids = me ∷ rest.uids }

-- the journey that a step makes, from a server with a packet of this TTL: a step that forwards lowers it
unfoldable pub trip_on : ℕ → (ℕ → Packet → StepAnswer) → ℕ → Packet → Trip
trip_on zero step me p = ends_at me (step me p)
trip_on (suc f) step me p =
    let o = step me p in
    let rest = trip_on f step o.next o.packet in
    pick (eqb o.ending forwarded) (goes_on me o rest) (ends_at me o)

abbrev pub trip : Hall → List ℕ → ℕ → Packet → Trip
trip h table me p = trip_on p.ttl (λ u q. step_at h table u q) me p
