-- What reading a frame answers: the header's fields, and the payload.
-- Section "Frame header".
use Rattle.std.specs.Prelude.{◌≡◌, ℕ, ◌+◌, ◌*◌, ◌%◌, Bool, false, List, [], take, drop, ◌==◌, Result, is_some, unwrap_or}
use Rattle.combine.specs.Tests.{pick}
use Rattle.hall.specs.declared.refusals.Fault.{Fault}
use Rattle.hall.specs.Refusals.{answered, stated_at}
use Rattle.frame.specs.declared.Header.{Header}
use Rattle.frame.specs.Layout.{DHL, protocol, payload_length, identification, retry, flags, TTL, source, destination, proxy, is_pf, value_in, word_at}
use Rattle.frame.specs.Asks.{frame_refusal}
use Rattle.frame.specs.Places.{place_of}

-- a frame read, by its number and its values
pub record HeaderAnswer : Type 0 where
  pub refusal : ℕ
  pub place : ℕ
  pub protocol : ℕ
  pub payload_length : ℕ
  pub identification : ℕ
  pub retry : ℕ
  pub ttl : ℕ
  pub source : ℕ
  pub destination : ℕ
  pub has_proxy : Bool
  pub proxy : ℕ
  pub header_length : ℕ

-- the header that values say
abbrev pub header_of : (ℕ → ℕ) → HeaderAnswer
header_of values =
    record {
      refusal = 0;
      place = 0;
      protocol = values protocol;
      payload_length = values payload_length;
      identification = values identification;
      retry = values retry;
      ttl = values TTL;
      source = values source;
      destination = values destination;
      has_proxy = is_pf (values flags);
      proxy = values proxy;
      header_length = 4 * values DHL;
    }

-- a refusal: its number and its place, and zero in every other field
abbrev pub refused_at : ℕ → ℕ → HeaderAnswer
refused_at number place =
    record {
      refusal = number;
      place = place;
      protocol = 0;
      payload_length = 0;
      identification = 0;
      retry = 0;
      ttl = 0;
      source = 0;
      destination = 0;
      has_proxy = false;
      proxy = 0;
      header_length = 0;
    }

abbrev pub refused_header : ℕ → HeaderAnswer
refused_header number = refused_at number (place_of number)

-- a frame read
abbrev pub read_frame : List ℕ → HeaderAnswer
read_frame frame = answered (frame_refusal frame) (header_of (value_in (word_at frame))) refused_header

-- the values of a header that is accepted: without a proxy it has 0 there
abbrev pub header_read : Header → HeaderAnswer
header_read h =
    record {
      refusal = 0;
      place = 0;
      protocol = h.protocol;
      payload_length = h.payload_length;
      identification = h.identification;
      retry = h.retry;
      ttl = h.ttl;
      source = h.source;
      destination = h.destination;
      has_proxy = is_some h.proxy;
      proxy = unwrap_or h.proxy 0;
      header_length = h.header_length;
    }

-- the number, the place and the values of an answer
abbrev pub header_stated : Result Header Fault → HeaderAnswer
header_stated = stated_at header_read refused_at

-- a read tells the place of its own number
abbrev pub PlaceTold : Type 0
PlaceTold = (frame : List ℕ) → (read_frame frame).place ≡ place_of (read_frame frame).refusal

-- the part behind the header, payload length bytes long; later bytes are padding
abbrev pub behind_header : List ℕ → List ℕ
behind_header frame = take (value_in (word_at frame) payload_length) (drop (4 * value_in (word_at frame) DHL) frame)

-- a frame's payload; a refused frame shows an empty part
abbrev pub payload_of : List ℕ → List ℕ
payload_of frame = pick (frame_refusal frame == 0) (behind_header frame) []

-- the identification after a given one: that after 4,294,967,295 is 0
abbrev pub next_identification : ℕ → ℕ
next_identification id = (id + 1) % 4294967296
