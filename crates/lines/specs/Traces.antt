-- The trace of a sheet: its hall, a line for the journey of each packet, and the number of packets; or the sheet's refusal alone.
-- Section "The night sheet".
use Rattle.std.specs.Prelude.{List, [], ◌∷◌, ◌++◌, ℕ, zero, suc, ◌+◌, ◌-◌, eqb, leb, ltb, length, Result, Ok, Err}
use Rattle.combine.specs.Tests.{pick}
use Rattle.hall.specs.declared.refusals.Refusal.{Refusal}
use Rattle.hall.specs.Refusals.{refusal, answered, stated, bad_range, short_room}
use Rattle.forward.specs.declared.Packet.{Packet}
use Rattle.forward.specs.Packets.{unproxied}
use Rattle.forward.specs.Answers.{JourneyAnswer}
use Rattle.forward.specs.Answers.{journey_of}
use Rattle.sheet.specs.declared.Sheet.{Sheet}
use Rattle.sheet.specs.Answers.{sheet_of}
use Rattle.sheetparts.specs.declared.SheetPacket.{SheetPacket}
use Rattle.sheetparts.specs.Parts.{codes_part, packet_fields}
use Rattle.report.specs.declared.PacketReport.{PacketReport}
use Rattle.report.specs.Texts.{hall_line, refused_line, end_line, packet_line}
use Rattle.words.specs.Rooms.{put, roomy, room_of}
use Rattle.report.specs.Rooms.{WrittenAnswer, no_line, written_of}
use Rattle.lines.specs.declared.Piece.{Piece}

-- HALL n k b, or REFUSED number place
unfoldable pub opening_text : Sheet → List ℕ
opening_text read = pick (eqb read.refusal 0) (hall_line read.hall) (refused_line read.refusal read.place)

-- a sheet's packet as it starts: no proxy
abbrev pub departing : SheetPacket → Packet
departing p = unproxied p.dst p.retry p.ttl

-- the journey of packet i over the sheet's codes
unfoldable pub journey_at : List ℕ → Sheet → ℕ → JourneyAnswer
journey_at s read i = journey_of read.hall (packet_fields s i).source (departing (packet_fields s i)) (codes_part s)

-- what became of a packet: its source, its dst, and its journey's ending and counts
abbrev pub report_of : SheetPacket → JourneyAnswer → PacketReport
report_of p j = record { source = p.source; dst = p.dst; ending = j.ending; links = j.links; reroutes = j.reroutes }

-- source dst ENDING links reroutes : uids
unfoldable pub journey_text : List ℕ → Sheet → ℕ → List ℕ
journey_text s read i = packet_line (report_of (packet_fields s i) (journey_at s read i)) (journey_at s read i).uids

-- the sheet's refusal; a packet that it does not have; then what the journey is refused for
unfoldable pub journey_refusal : List ℕ → Sheet → ℕ → ℕ
journey_refusal s read i =
    pick (eqb read.refusal 0) (pick (ltb i read.packets) (journey_at s read i).refusal bad_range) read.refusal

-- a line that is written unless there is a refusal: the answer, and the room at exit
abbrev pub unless_written : ℕ → List ℕ → ℕ → List ℕ → WrittenAnswer
unless_written number room at text = pick (eqb number 0) (written_of room at text) (no_line number)

abbrev pub unless_room : ℕ → List ℕ → ℕ → List ℕ → List ℕ
unless_room number room at text = pick (eqb number 0) (room_of room at text) room

-- the number and the place of a line whose refusal is told by its number
abbrev pub written_by_number : Result ℕ ℕ → WrittenAnswer
written_by_number (Ok end) = record { refusal = 0; end = end }
written_by_number (Err number) = no_line number

-- the lines of the packets 0, 1, .., one behind the other
unfoldable pub journeys_text : List ℕ → Sheet → ℕ → List ℕ
journeys_text s read zero = []
journeys_text s read (suc i) = journeys_text s read i ++ journey_text s read i

-- the whole text
unfoldable pub trace_text : List ℕ → List ℕ
trace_text s =
    pick (eqb (sheet_of s).refusal 0)
    (opening_text (sheet_of s) ++ journeys_text s (sheet_of s) (sheet_of s).packets ++ end_line (sheet_of s).packets)
    (opening_text (sheet_of s))

-- the lines of a trace: the first alone where the sheet is refused; else the first, one for each packet, and the last
unfoldable pub line_count : Sheet → ℕ
line_count read = pick (eqb read.refusal 0) (read.packets + 2) 1

-- line i: HALL or REFUSED, then the packets' journeys, then END
unfoldable pub line_text : List ℕ → Sheet → ℕ → List ℕ
line_text s read zero = opening_text read
line_text s read (suc i) = pick (ltb i read.packets) (journey_text s read i) (end_line read.packets)

-- so many lines from a line on, one behind the other
unfoldable pub lines_text : List ℕ → Sheet → ℕ → ℕ → List ℕ
lines_text s read from zero = []
lines_text s read from (suc count) = lines_text s read from count ++ line_text s read (from + count)

-- how many of the lines from a line on, of so many that are left, fit wholly into so many bytes
unfoldable pub fitting : List ℕ → Sheet → ℕ → ℕ → ℕ → ℕ
fitting s read bytes from zero = 0
fitting s read bytes from (suc left) =
    pick (leb (length (line_text s read from)) bytes) (suc (fitting s read (bytes - length (line_text s read from)) (suc from) left)) 0

-- the text of as many as fit
abbrev pub fitting_text : List ℕ → Sheet → ℕ → ℕ → ℕ → List ℕ
fitting_text s read bytes from left = lines_text s read from (fitting s read bytes from left)

-- the first line that is not written, and the place behind the text
pub record PieceAnswer : Type 0 where
  pub refusal : ℕ
  pub next : ℕ
  pub end : ℕ

abbrev pub fitting_piece : List ℕ → Sheet → ℕ → ℕ → ℕ → PieceAnswer
fitting_piece s read bytes from left =
    record { refusal = 0; next = from + fitting s read bytes from left; end = length (fitting_text s read bytes from left) }

-- what a piece is refused for: a line that the trace does not have; a room shorter than that line
abbrev pub piece_refusal : List ℕ → ℕ → List ℕ → ℕ
piece_refusal s from room =
    refusal ((bad_range, ltb from (line_count (sheet_of s))) ∷ (short_room, roomy room 0 (line_text s (sheet_of s) from)) ∷ [])

-- a piece that is refused
abbrev pub no_piece : ℕ → PieceAnswer
no_piece number = record { refusal = number; next = 0; end = 0 }

-- a piece of the trace: as many whole lines from a line on as fit the room
abbrev pub piece_of : List ℕ → ℕ → List ℕ → PieceAnswer
piece_of s from room =
    answered (piece_refusal s from room)
    (fitting_piece s (sheet_of s) (length room) from (line_count (sheet_of s) - from))
    no_piece

-- the numbers of a piece, and the refusal's number or them
abbrev pub piece_told : Piece → PieceAnswer
piece_told piece = record { refusal = 0; next = piece.next; end = piece.end }

abbrev pub piece_stated : Result Piece Refusal → PieceAnswer
piece_stated = stated piece_told no_piece

-- the room at exit: the text at its start and the rest unchanged, or all as lent
abbrev pub room_piece : List ℕ → ℕ → List ℕ → List ℕ
room_piece s from room =
    pick (eqb (piece_refusal s from room) 0) (put room 0 (fitting_text s (sheet_of s) (length room) from (line_count (sheet_of s) - from))) room
