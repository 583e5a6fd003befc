-- The night sheet that is written from a hall, its table and a list of packets, and what the writer answers.
-- Requests K1 and K5.
use Rattle.std.specs.Prelude.{Bool, true, false, List, [], ◌∷◌, ℕ, zero, suc, ◌^◌, ◌≤◌, ◌<◌, eqb, ltb, length, get_or}
use Rattle.combine.specs.Tests.{pick}
use Rattle.hall.specs.declared.Hall.{Hall}
use Rattle.hall.specs.Halls.{hall_of, is_full, servers}
use Rattle.hall.specs.Refusals.{bad_sheet, short_room, most_retry}
use Rattle.sheet.specs.declared.Field.{Field}
use Rattle.sheet.specs.declared.Field.TheVariants.{Value, Refused}
use Rattle.sheet.specs.declared.Sheet.{Sheet}
use Rattle.sheet.specs.Formats.{done, and_then}
use Rattle.sheet.specs.Sheets.{behind_codes, longest, full_section, part_section, section_of, fitted, code, packet, packets, tables_of, night_sheet}
use Rattle.sheet.specs.Answers.{refused_at, accepted_as, sheet_of}
use Rattle.sheetparts.specs.declared.SheetPacket.{SheetPacket}
use Rattle.sheetparts.specs.Parts.{packet_refused, packet_at}
use Rattle.laying.specs.Filled.{Filled, ended, put, result, laid, judged, fill_then, each, Every}

abbrev pub filled_code : ℕ → Filled code
filled_code c = put c ended

unfoldable pub filled_packet : (limit : ℕ) → SheetPacket → Filled (packet limit)
unfolding packet and_then
filled_packet limit p = put p.source (put p.dst (put p.retry (put p.ttl ended)))

-- the count of the DCell1s, where not all are fitted
unfoldable pub filled_count : (full : Bool) (n k count : ℕ) → Filled (fitted (pick full full_section part_section) n k)
unfolding fitted
filled_count true n k count = ended
filled_count false n k count = put count ended

unfoldable pub filled_fitted : (h : Hall) → Filled (fitted (section_of h) h.n h.k)
unfolding section_of
filled_fitted h = filled_count (is_full h) h.n h.k h.count

-- each count is what is there: the codes', and the packets'
unfoldable pub filled_tables : (h : Hall) → List ℕ → List SheetPacket → Filled (tables_of h)
unfolding tables_of and_then
filled_tables h codes list =
    put (length codes)
    (fill_then (behind_codes (servers h)) (each filled_code codes)
    (put (length list) (fill_then (λ v. done (length list)) (each (filled_packet (servers h)) list) ended)))

-- the first section, of 3 bytes where the hall is full and else of 7, and what stands behind it
unfoldable pub filled_sheet : Hall → List ℕ → List SheetPacket → Filled night_sheet
unfolding night_sheet and_then
filled_sheet h codes list =
    put (section_of h) (put h.n (put h.k (put h.b
    (fill_then (λ count. tables_of (hall_of h.n h.k h.b count)) (filled_fitted h)
    (filled_tables (hall_of h.n h.k h.b (result (filled_fitted h))) codes list)))))

-- the bytes
abbrev pub sheet_for : Hall → List ℕ → List SheetPacket → List ℕ
sheet_for h codes list = laid (filled_sheet h codes list)

abbrev pub told_for : Hall → Field → Sheet
told_for h (Refused number place) = refused_at number place
told_for h (Value packetCount end) = accepted_as h packetCount

-- what the reader would refuse is not written: 10 where it is too long, else the number of the earliest field that is not sound
unfoldable pub writer_says : Hall → List ℕ → List SheetPacket → Sheet
writer_says h codes list =
    pick (ltb longest (length (sheet_for h codes list))) (refused_at bad_sheet longest) (told_for h (judged (filled_sheet h codes list) 0))

-- then 6
unfoldable pub writer_in : ℕ → Hall → List ℕ → List SheetPacket → Sheet
writer_in room h codes list =
    pick (eqb (writer_says h codes list).refusal 0)
    (pick (ltb room (length (sheet_for h codes list))) (refused_at short_room 0) (writer_says h codes list))
    (writer_says h codes list)

-- so many packets from packet i on, as a list
unfoldable pub listed : (ℕ → SheetPacket) → ℕ → ℕ → List SheetPacket
listed packet i zero = []
listed packet i (suc so-many) = packet i ∷ listed packet (suc i) so-many

-- packet i of a list, one that is refused where it has none
abbrev pub packet_from : List SheetPacket → ℕ → SheetPacket
packet_from list i = get_or list i (packet_refused 0 0)

-- a packet's fields, as they are read
abbrev pub plain : SheetPacket → SheetPacket
plain p = record { refusal = 0; place = 0; source = p.source; dst = p.dst; retry = p.retry; ttl = p.ttl }

-- what the types of the packets say
pub record PacketHeld (p : SheetPacket) : Type 0 where
  pub source : p.source < 256 ^ 4
  pub dst : p.dst < 256 ^ 4
  pub retry : p.retry < 256 ^ 1
  pub ttl : p.ttl < 256 ^ 1

-- what the types of the codes and packets say
pub record Held (codes : List ℕ) (list : List SheetPacket) : Type 0 where
  pub bytes : Every (λ (c : ℕ). c < 256) codes
  pub fields : Every PacketHeld list

-- n, k and b are bytes: where they are not, there is no sheet of them; the count fits four, as its type says
pub record HallBytes (h : Hall) : Type 0 where
  pub n : h.n < 256
  pub k : h.k < 256
  pub b : h.b < 256
  pub count : h.count < 256 ^ 4

-- the packets that the reader answers of a sheet
abbrev pub packets_read : List ℕ → List SheetPacket
packets_read s = listed (packet_at s) 0 (sheet_of s).packets

-- source and dst below t(k), retry at most the greatest
pub record PacketSound (limit : ℕ) (p : SheetPacket) : Type 0 where
  pub source : p.source < limit
  pub dst : p.dst < limit
  pub retry : p.retry ≤ most_retry

abbrev pub fields_of : ℕ → ℕ → ℕ → ℕ → SheetPacket
fields_of source dst retry ttl = record { refusal = 0; place = 0; source = source; dst = dst; retry = retry; ttl = ttl }

-- packet i of four lists
abbrev pub packet_in : List ℕ → List ℕ → List ℕ → List ℕ → ℕ → SheetPacket
packet_in sources dsts retries ttls i = fields_of (get_or sources i 0) (get_or dsts i 0) (get_or retries i 0) (get_or ttls i 0)
