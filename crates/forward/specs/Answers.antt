-- What the calls for a step and a journey answer.
-- Sections "One forwarding step" and "Refusal numbers"; requests K3 and K5.
use Rattle.std.specs.Prelude.{not, List, [], ◌∷◌, ◌++◌, ℕ, ◌-◌, eqb, leb, ltb, length, replicate, Result}
use Rattle.combine.specs.Tests.{either}
use Rattle.hall.specs.declared.Hall.{Hall}
use Rattle.hall.specs.declared.refusals.Refusal.{Refusal}
use Rattle.hall.specs.Refusals.{Ask, refusal, answered, stated, bad_uid, bad_length, bad_retry, most_retry}
use Rattle.hall.specs.Halls.{servers, asks_hall, asks_uid}
use Rattle.ports.specs.Answers.{asks_table}
use Rattle.counted.specs.Counted.{counted}
use Rattle.ends.specs.Tables.{step_length, lent_counted}
use Rattle.forward.specs.declared.Packet.{Packet}
use Rattle.forward.specs.declared.Step.{Step}
use Rattle.forward.specs.declared.Journey.{Journey}
use Rattle.forward.specs.Steps.{step}
use Rattle.forward.specs.Packets.{unproxied, ending_number, StepAnswer, step_told}
use Rattle.forward.specs.Journeys.{Trip, trip}

-- the most uids that a journey passes
abbrev pub most_passed : ℕ
most_passed = 256

-- the table that a step is lent has its length
abbrev pub asks_lent : Hall → List ℕ → Ask
asks_lent h lent = (bad_length, eqb (length lent) (step_length h))

-- a proxy, if there is one, is a server of the hall
abbrev pub asks_proxy : Hall → Packet → Ask
asks_proxy h p = (bad_uid, either (not p.has_proxy) (ltb p.proxy (servers h)))

abbrev pub asks_retry : Packet → Ask
asks_retry p = (bad_retry, leb p.retry most_retry)

-- what a packet at a server is asked, behind the hall and the table
abbrev pub asks_packet : Hall → ℕ → Packet → List Ask
asks_packet h me p = asks_uid h me ∷ asks_uid h p.dst ∷ asks_proxy h p ∷ asks_retry p ∷ []

-- no packet
abbrev pub no_packet : Packet
no_packet = unproxied 0 0 0

-- a step that is refused: zeros behind the number
abbrev pub refused_step : ℕ → StepAnswer
refused_step number = record { refusal = number; ending = 0; next = 0; packet = no_packet; reroutes = 0 }

-- one step at a server, over the table that it is lent, as its codes count
abbrev pub step_of : Hall → ℕ → Packet → List ℕ → StepAnswer
step_of h me p lent =
    answered (refusal (asks_hall h ∷ asks_lent h lent ∷ asks_packet h me p))
    (step h (lent_counted h me lent) me p)
    refused_step

-- the number and the values of a step
abbrev pub step_stated : Result Step Refusal → StepAnswer
step_stated = stated step_told refused_step

-- what a journey answers, by its numbers and values
pub record JourneyAnswer : Type 0 where
  pub refusal : ℕ
  pub ending : ℕ
  pub links : ℕ
  pub reroutes : ℕ
  pub uids : List ℕ

-- the numbers and values of a journey that is not refused
abbrev pub journey_told : Journey → JourneyAnswer
journey_told j = record { refusal = 0; ending = ending_number j.ending; links = j.links; reroutes = j.reroutes; uids = j.uids }

-- the uids passed, zeros behind them
unfoldable pub passed : List ℕ → List ℕ
passed uids = uids ++ replicate (most_passed - length uids) 0

abbrev pub journey_from : Trip → JourneyAnswer
journey_from j = record { refusal = 0; ending = j.ending; links = j.links; reroutes = j.reroutes; uids = passed j.uids }

-- a journey that is refused: zeros behind the number
abbrev pub refused_journey : ℕ → JourneyAnswer
refused_journey number = record { refusal = number; ending = 0; links = 0; reroutes = 0; uids = replicate most_passed 0 }

-- a journey from a source, over the hall table as its codes count
abbrev pub journey_of : Hall → ℕ → Packet → List ℕ → JourneyAnswer
journey_of h source p table =
    answered (refusal (asks_hall h ∷ asks_table h table ∷ asks_packet h source p))
    (journey_from (trip h (counted h 0 table) source p))
    refused_journey

-- the number and the values of a journey
abbrev pub journey_stated : Result Journey Refusal → JourneyAnswer
journey_stated = stated journey_told refused_journey
