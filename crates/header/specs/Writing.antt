-- What writing a header answers, and what the lent room then holds.
-- Section "Frame header".
use Rattle.std.specs.Prelude.{ℕ, ◌*◌, ◌<◌, List, [], ◌∷◌, ◌++◌, eqb, leb, length, get_or, drop}
use Rattle.combine.specs.Tests.{pick}
use Rattle.hall.specs.Refusals.{refusal, bad_retry, bad_address, short_room, most_retry}
use Rattle.rows.specs.Rows.{Row, laid}
use Rattle.frame.specs.Reading.{HeaderAnswer}
use Rattle.frame.specs.Layout.{checksum, the_version, rows_of, words_with, bytes_of}
use Rattle.frame.specs.Checksum.{header_checksum}
use Rattle.frame.specs.Addresses.{addresses_fit}
use Rattle.header.specs.declared.Fields.{Fields}

-- numbers of their types: bytes, a 16-bit length, 32-bit words
pub record Typed (fields : Fields) : Type 0 where
  pub protocol : fields.protocol < 256
  pub payload_length : fields.payload_length < 65536
  pub identification : fields.identification < 4294967296
  pub retry : fields.retry < 256
  pub ttl : fields.ttl < 256
  pub source : fields.source < 4294967296
  pub destination : fields.destination < 4294967296
  pub proxy : fields.proxy < 4294967296

-- the rows that fields are laid by, and their number
abbrev pub rows_for : Fields → List Row
rows_for fields = rows_of fields.has_proxy

abbrev pub count_of : Fields → ℕ
count_of fields = words_with fields.has_proxy

-- the values in the order of the fields' numbers, the checksum as zero
unfoldable pub values_of : Fields → ℕ → ℕ
values_of fields field =
    get_or
    (the_version
    ∷ count_of fields
    ∷ fields.protocol
    ∷ fields.payload_length
    ∷ fields.identification
    ∷ fields.retry
    ∷ pick fields.has_proxy 1 0
    ∷ fields.ttl
    ∷ 0
    ∷ fields.source
    ∷ fields.destination
    ∷ fields.proxy
    ∷ [])
    field 0

-- the checksum, worked out with its field as zero
unfoldable pub sum_of : Fields → ℕ
sum_of fields = header_checksum (laid (rows_for fields) (values_of fields)) (count_of fields)

-- the values with their checksum
unfoldable pub sealed : Fields → ℕ → ℕ
sealed fields field = pick (eqb field checksum) (sum_of fields) (values_of fields field)

-- the words that are written
unfoldable pub header_words : Fields → ℕ → ℕ
header_words fields = laid (rows_for fields) (sealed fields)

-- the 20 or 24 bytes that are written
unfoldable pub header_bytes : Fields → List ℕ
header_bytes fields = bytes_of (header_words fields) (count_of fields)

unfoldable pub write_refusal : Fields → List ℕ → ℕ
write_refusal fields room =
    refusal
    ((bad_retry, leb fields.retry most_retry)
    ∷ (bad_address, addresses_fit fields.source fields.destination fields.has_proxy fields.proxy)
    ∷ (short_room, leb (4 * count_of fields) (length room))
    ∷ [])

-- the room once the header is written: as lent where it is refused, and behind the header
unfoldable pub room_written : Fields → List ℕ → List ℕ
room_written fields room =
    pick (eqb (write_refusal fields room) 0) (header_bytes fields ++ drop (4 * count_of fields) room) room

-- what reading answers of a header that is written
abbrev pub header_for : Fields → HeaderAnswer
header_for fields =
    record {
      refusal = 0;
      place = 0;
      protocol = fields.protocol;
      payload_length = fields.payload_length;
      identification = fields.identification;
      retry = fields.retry;
      ttl = fields.ttl;
      source = fields.source;
      destination = fields.destination;
      has_proxy = fields.has_proxy;
      proxy = pick fields.has_proxy fields.proxy 0;
      header_length = 4 * count_of fields;
    }

-- what writing is given for a header that was read
abbrev pub fields_of : HeaderAnswer → Fields
fields_of header =
    record {
      protocol = header.protocol;
      payload_length = header.payload_length;
      identification = header.identification;
      retry = header.retry;
      ttl = header.ttl;
      source = header.source;
      destination = header.destination;
      has_proxy = header.has_proxy;
      proxy = header.proxy;
    }
