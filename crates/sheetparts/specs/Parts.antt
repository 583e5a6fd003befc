-- What each public call about a sheet's codes and packets answers.
-- Sections "The night sheet" and "Refusal numbers".
use Rattle.std.specs.Prelude.{List, [], ℕ, ◌+◌, eqb, leb, ltb, length, take, drop}
use Rattle.combine.specs.Tests.{pick}
use Rattle.hall.specs.Refusals.{bad_range}
use Rattle.words.specs.Words.{value}
use Rattle.sheet.specs.Answers.{codes_place, code_count_of, sheet_of, packet_place}
use Rattle.sheetparts.specs.declared.SheetPacket.{SheetPacket}

-- as many bytes as the second count says, behind it; none where they are not there
unfoldable pub codes_part : List ℕ → List ℕ
codes_part s =
    pick (leb (codes_place s + code_count_of s) (length s)) (take (code_count_of s) (drop (codes_place s) s)) []

-- the sheet's codes
abbrev pub codes_of : List ℕ → List ℕ
codes_of s = pick (eqb (sheet_of s).refusal 0) (codes_part s) []

abbrev pub packet_refused : ℕ → ℕ → SheetPacket
packet_refused number place = record { refusal = number; place = place; source = 0; dst = 0; retry = 0; ttl = 0 }

-- the ten bytes of a packet at a place; 3 where they are not there
unfoldable pub packet_part : List ℕ → ℕ → SheetPacket
packet_part s at =
    pick (leb (at + 10) (length s))
    (record {
      refusal = 0;
      place = 0;
      source = value s at 4;
      dst = value s (at + 4) 4;
      retry = value s (at + 8) 1;
      ttl = value s (at + 9) 1;
    })
    (packet_refused bad_range 0)

abbrev pub packet_fields : List ℕ → ℕ → SheetPacket
packet_fields s i = packet_part s (packet_place s i)

-- packet i of a sheet that is not refused
abbrev pub packet_at : List ℕ → ℕ → SheetPacket
packet_at s i =
    pick (eqb (sheet_of s).refusal 0)
    (pick (ltb i (sheet_of s).packets) (packet_fields s i) (packet_refused bad_range 0))
    (packet_refused (sheet_of s).refusal (sheet_of s).place)
