-- Worked values: the packets of the night sheet of n = 4, k = 1, b = 0 with one packet 0, 19, 5, 15.
-- Section "The night sheet"; request K5.
use Rattle.std.specs.Prelude.{◌≡◌, refl, [], ◌∷◌}
use Rattle.hall.specs.Cells.{t}
use Rattle.hall.specs.Halls.{racks, capacity, n_fits, k_fits, b_fits, servers}
use Rattle.ports.specs.Codes.{known, table_length}
use Rattle.words.specs.Words.{value}
use Rattle.sheet.specs.Formats.{read, and_then}
use Rattle.sheet.specs.Sheets.{fitted, times, packet, tables_of, night_sheet}
use Rattle.sheet.specs.Answers.{count_place, codes_place, fitted_in, sheet_of, packet_place}
use Rattle.sheet.specs.Worked.{sheet_with, part_with}
use Rattle.sheetparts.specs.Parts.{codes_part, packet_part, packet_at}

packet_zero : packet_at (sheet_with 2 []) 0 ≡ record { refusal = 0; place = 0; source = 0; dst = 19; retry = 5; ttl = 15 }
unfolding sheet_of sheet_with night_sheet fitted tables_of times packet read and_then value n_fits k_fits b_fits capacity racks fitted_in table_length servers t known packet_place codes_place count_place packet_part
packet_zero = refl

packet_one : packet_at (sheet_with 2 []) 1 ≡ record { refusal = 3; place = 0; source = 0; dst = 0; retry = 0; ttl = 0 }
unfolding sheet_of sheet_with night_sheet fitted tables_of times packet read and_then value n_fits k_fits b_fits capacity racks fitted_in table_length servers t known packet_place codes_place count_place packet_part
packet_one = refl

-- the codes of a hall that is not full stand behind its count
codes_behind_count : codes_part (part_with 2 2 (0 ∷ 0 ∷ 0 ∷ 3 ∷ 1 ∷ 4 ∷ 2 ∷ 0 ∷ [])) ≡ 1 ∷ 4 ∷ 2 ∷ []
unfolding codes_part part_with codes_place count_place value
codes_behind_count = refl
