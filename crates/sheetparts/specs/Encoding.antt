-- The one encoding of a sheet, from its values.
-- Section "The night sheet"; request K5.
use Rattle.std.specs.Prelude.{List, [], ◌++◌, ℕ, zero, suc, length}
use Rattle.combine.specs.Tests.{pick}
use Rattle.hall.specs.declared.Hall.{Hall}
use Rattle.hall.specs.Halls.{is_full}
use Rattle.sheet.specs.declared.Sheet.{Sheet}
use Rattle.sheet.specs.Sheets.{section_of}
use Rattle.words.specs.Words.{bytes_of}
use Rattle.sheetparts.specs.declared.SheetPacket.{SheetPacket}

abbrev pub packet_bytes : SheetPacket → List ℕ
packet_bytes p = bytes_of 4 p.source ++ bytes_of 4 p.dst ++ bytes_of 1 p.retry ++ bytes_of 1 p.ttl

-- so many packets from packet i on, one behind the other
unfoldable pub packets_bytes : (ℕ → SheetPacket) → ℕ → ℕ → List ℕ
packets_bytes packet i zero = []
packets_bytes packet i (suc so-many) = packet_bytes (packet i) ++ packets_bytes packet (suc i) so-many

-- the count of a hall's DCell1s, where it is not full
unfoldable pub fitted_bytes : Hall → List ℕ
fitted_bytes h = pick (is_full h) [] (bytes_of 4 h.count)

-- the sections in order, each after its count
unfoldable pub encoding_of : Sheet → List ℕ → (ℕ → SheetPacket) → List ℕ
encoding_of sheet codes packet =
    bytes_of 4 (section_of sheet.hall) ++ bytes_of 1 sheet.hall.n ++ bytes_of 1 sheet.hall.k ++ bytes_of 1 sheet.hall.b
    ++ fitted_bytes sheet.hall
    ++ bytes_of 4 (length codes) ++ codes
    ++ bytes_of 4 sheet.packets ++ packets_bytes packet 0 sheet.packets
