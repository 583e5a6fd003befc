-- Each answer about a sheet as a refusal's number and its other values in order.
-- Section "The night sheet".
use Rattle.std.specs.Prelude.{List, [], ◌∷◌, ℕ}
use Rattle.hall.specs.Rooms.{Outcome}
use Rattle.sheet.specs.declared.Sheet.{Sheet}
use Rattle.sheet.specs.Answers.{sheet_of}
use Rattle.sheetparts.specs.declared.SheetPacket.{SheetPacket}
use Rattle.sheetparts.specs.Parts.{codes_of}

-- the hall and the number of packets; the place is told by a number of its own
abbrev pub of_sheet : Sheet → Outcome
of_sheet a = (a.refusal, a.hall.n ∷ a.hall.k ∷ a.hall.b ∷ a.hall.count ∷ a.packets ∷ [])

-- the codes of a sheet
abbrev pub of_codes : List ℕ → Outcome
of_codes s = ((sheet_of s).refusal, codes_of s)

abbrev pub of_packet : SheetPacket → Outcome
of_packet a = (a.refusal, a.source ∷ a.dst ∷ a.retry ∷ a.ttl ∷ [])

-- the fields of a packet by their bytes, with its place, which is 0
abbrev pub of_fields : SheetPacket → Outcome
of_fields a = (a.refusal, a.place ∷ a.source ∷ a.dst ∷ a.retry ∷ a.ttl ∷ [])
