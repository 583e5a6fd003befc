-- Worked values: the night sheet of n = 4, k = 1, b = 0 with one packet, spoiled.
-- Requests K11 and K5.
use Rattle.std.specs.Prelude.{◌≡◌, refl, true, false, [], ◌∷◌, take}
use Rattle.hall.specs.declared.Hall.{Hall}
use Rattle.hall.specs.Cells.{t}
use Rattle.hall.specs.Halls.{racks, capacity, hall_of, full_hall, n_fits, k_fits, b_fits, is_full, servers}
use Rattle.ports.specs.Codes.{known, table_length}
use Rattle.words.specs.Words.{value, word_at, bytes_of}
use Rattle.sheet.specs.Formats.{read, and_then}
use Rattle.sheet.specs.Sheets.{section_of, fitted, times, packet, tables_of, night_sheet}
use Rattle.sheet.specs.Answers.{count_place, codes_place, fitted_in, refused_at, accepted_as}
use Rattle.sheet.specs.Worked.{sheet_with, part_with}
use Rattle.sheetparts.specs.Parts.{packet_part}
use Rattle.laying.specs.Filled.{result, laid, fill_then, each}
use Rattle.writing.specs.Writing.{filled_packet, filled_count, filled_fitted, filled_tables, filled_sheet}
use Rattle.salvage.specs.Salvage.{head_sheet, mended, codes_mended, begun, keeps, those, kept, left_out, rebuilt, changed, changes, salvage_says}

abbrev hall : Hall
hall = full_hall 4 1 0

-- an unknown code at two bytes, and a surplus
codes_mended_lem : rebuilt hall (sheet_with 9 (1 ∷ 2 ∷ [])) ≡ sheet_with 2 []
unfolding laid filled_sheet filled_packet fill_then each night_sheet section_of is_full capacity racks filled_fitted filled_count filled_tables tables_of times packet and_then result bytes_of sheet_with codes_mended mended kept those begun keeps packet_part read value word_at servers t known table_length codes_place count_place
codes_mended_lem = refl

codes_listed : changes hall (sheet_with 9 (1 ∷ 2 ∷ []))
    ≡ record { place = 18; had = true; old = 9; new = 2 } ∷ record { place = 44; had = true; old = 9; new = 2 } ∷ []
unfolding changes changed laid filled_sheet filled_packet fill_then each night_sheet section_of is_full capacity racks filled_fitted filled_count filled_tables tables_of times packet and_then result bytes_of sheet_with codes_mended mended kept those begun keeps packet_part read value word_at servers t known table_length codes_place count_place
codes_listed = refl

-- cut within the packet: it is left out, and the count is corrected
packet_cut : changes hall (take 60 (sheet_with 2 [])) ≡ record { place = 54; had = true; old = 1; new = 0 } ∷ []
unfolding changes changed laid filled_sheet filled_packet fill_then each night_sheet section_of is_full capacity racks filled_fitted filled_count filled_tables tables_of times packet and_then result bytes_of sheet_with codes_mended mended kept those begun keeps packet_part read value word_at servers t known table_length codes_place count_place
packet_cut = refl

packet_left : left_out hall (take 60 (sheet_with 2 [])) ≡ 0 ∷ []
unfolding left_out sheet_with those begun keeps packet and_then read value word_at servers t table_length codes_place count_place
packet_left = refl

-- cut within the third count: it is 0
count_cut : changes hall (take 52 (sheet_with 2 []))
    ≡ record { place = 52; had = false; old = 0; new = 0 } ∷ record { place = 53; had = false; old = 0; new = 0 }
    ∷ record { place = 54; had = false; old = 0; new = 0 } ∷ []
unfolding changes changed laid filled_sheet filled_packet fill_then each night_sheet section_of is_full capacity racks filled_fitted filled_count filled_tables tables_of times packet and_then result bytes_of sheet_with codes_mended mended kept those begun keeps packet_part read value word_at servers t known table_length codes_place count_place
count_cut = refl

said : salvage_says (sheet_with 9 (1 ∷ 2 ∷ [])) ≡ accepted_as hall 1
unfolding salvage_says head_sheet laid filled_sheet filled_packet fill_then each night_sheet section_of is_full capacity racks filled_fitted filled_count filled_tables tables_of times packet and_then result bytes_of sheet_with codes_mended mended kept those begun keeps packet_part read value word_at servers t known table_length n_fits k_fits b_fits codes_place count_place fitted fitted_in
said = refl

-- a hall that is not full, cut behind its second count: its codes are added
part_said : salvage_says (part_with 2 2 (0 ∷ 0 ∷ 0 ∷ 126 ∷ [])) ≡ accepted_as (hall_of 2 2 0 2) 0
unfolding salvage_says head_sheet laid filled_sheet filled_packet fill_then each night_sheet section_of is_full capacity racks filled_fitted filled_count filled_tables tables_of times packet and_then result bytes_of part_with codes_mended mended kept those begun keeps packet_part read value word_at servers t known table_length n_fits k_fits b_fits codes_place count_place fitted fitted_in
part_said = refl

-- a count that the reader refuses
full_in_seven : salvage_says (part_with 2 7 (0 ∷ 0 ∷ 0 ∷ 126 ∷ [])) ≡ refused_at 1 7
unfolding salvage_says head_sheet read and_then value part_with n_fits k_fits b_fits fitted capacity racks t
full_in_seven = refl
