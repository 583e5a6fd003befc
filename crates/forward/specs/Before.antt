-- The rule of before request K3, kept for one law alone, that nothing changes with every port up: a step saw the part of its own DCell(b), and
-- a link above b was usable when its near port had code 1.
-- Sections "Port codes" and "One forwarding step".
use Rattle.std.specs.Prelude.{List, ℕ}
use Rattle.hall.specs.declared.Hall.{Hall}
use Rattle.ports.specs.Codes.{up, part}
use Rattle.local.specs.Local.{distance, hop}
use Rattle.forward.specs.declared.Packet.{Packet}
use Rattle.forward.specs.Packets.{StepAnswer}
use Rattle.forward.specs.Packets.{tidied}
use Rattle.forward.specs.Seen.{Seen}
use Rattle.forward.specs.Steps.{step_on}
use Rattle.forward.specs.Journeys.{Trip, trip_on}

abbrev pub sight_before : Hall → List ℕ → ℕ → Seen
sight_before h table me = record {
  distance = distance h (part h table me);
  hop = hop h (part h table me);
  usable = λ i place. up h (part h table me) place i;
}

abbrev pub step_before : Hall → List ℕ → ℕ → Packet → StepAnswer
step_before h table me p = step_on h (sight_before h table me) me (tidied p)

abbrev pub trip_before : Hall → List ℕ → ℕ → Packet → Trip
trip_before h table me p = trip_on p.ttl (λ u q. step_before h table u q) me p
