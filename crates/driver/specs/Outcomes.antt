-- Each answer that the driver is told: a refusal's number, and its other values in order as bytes.
-- Sections "Frame header", "Route without failures" and "One forwarding step".
use Rattle.std.specs.Prelude.{Bool, not, [], ◌∷◌, ℕ, ◌+◌, take, eqb}
use Rattle.combine.specs.Tests.{pick}
use Rattle.route.specs.Answers.{RouteAnswer}
use Rattle.frame.specs.Reading.{HeaderAnswer}
use Rattle.header.specs.declared.Fields.{Fields}
use Rattle.forward.specs.Packets.{StepAnswer}
use Rattle.hall.specs.Rooms.{Outcome}
use Rattle.words.specs.Words.{words_bytes}

-- 1 for true, 0 for false
abbrev pub flag_of : Bool → ℕ
flag_of b = pick b 1 0

-- a route: its links + 1 uids, without the zeros
abbrev pub of_route : RouteAnswer → Outcome
of_route a = (a.refusal, words_bytes (take (a.links + 1) a.uids))

-- a header: its length in bytes, then its fields in order
abbrev pub of_header : HeaderAnswer → Outcome
of_header a = (
  a.refusal,
  words_bytes (
      a.header_length ∷ a.protocol ∷ a.payload_length ∷ a.identification ∷ a.retry ∷ a.ttl ∷ a.source ∷ a.destination
      ∷ flag_of a.has_proxy ∷ a.proxy ∷ []
      ),
)

-- the fields to write; there is a proxy where its flag is not 0
abbrev pub fields_of : ℕ → ℕ → ℕ → ℕ → ℕ → ℕ → ℕ → ℕ → ℕ → Fields
fields_of protocol length identification retry ttl source destination flag proxy = record {
  protocol = protocol;
  payload_length = length;
  identification = identification;
  retry = retry;
  ttl = ttl;
  source = source;
  destination = destination;
  has_proxy = not (eqb flag 0);
  proxy = proxy;
}

-- a step: its ending, the next uid, the packet to send on, its reroutes
abbrev pub of_step : StepAnswer → Outcome
of_step a = (
  a.refusal,
  words_bytes (
      a.ending ∷ a.next ∷ a.packet.dst ∷ flag_of a.packet.has_proxy ∷ a.packet.proxy ∷ a.packet.retry ∷ a.packet.ttl
      ∷ a.reroutes ∷ []
      ),
)
