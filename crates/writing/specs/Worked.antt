-- Worked values: the night sheet of n = 4, k = 1, b = 0, forty codes all 1 but 2 at the bytes 7 and 33, one packet 0, 19, 5, 15, written.
-- Section "The night sheet", requests K1 and K5.
use Rattle.std.specs.Prelude.{◌≡◌, refl, List, [], ◌∷◌, ◌++◌, ℕ, replicate}
use Rattle.hall.specs.declared.Hall.{Hall}
use Rattle.hall.specs.Cells.{t}
use Rattle.hall.specs.Halls.{racks, capacity, hall_of, full_hall, n_fits, k_fits, b_fits, is_full, servers}
use Rattle.ports.specs.Codes.{known, table_length}
use Rattle.sheet.specs.Formats.{and_then}
use Rattle.sheet.specs.Sheets.{section_of, fitted, times, packet, tables_of, night_sheet}
use Rattle.sheet.specs.Answers.{refused_at, accepted_as}
use Rattle.sheet.specs.Worked.{sheet_with, part_with}
use Rattle.sheetparts.specs.declared.SheetPacket.{SheetPacket}
use Rattle.words.specs.Words.{bytes_of}
use Rattle.laying.specs.Filled.{result, laid, judged, fill_then, each}
use Rattle.writing.specs.Writing.{filled_packet, filled_count, filled_fitted, filled_tables, filled_sheet, sheet_for, writer_says, writer_in}

-- a hall of n, forty codes with one at the bytes 7 and 33, and a packet to dst
abbrev hall : ℕ → Hall
hall n = full_hall n 1 0

unfoldable forty : ℕ → List ℕ
forty code = replicate 7 1 ++ (code ∷ []) ++ replicate 25 1 ++ (code ∷ []) ++ replicate 6 1

abbrev one : ℕ → List SheetPacket
one dst = record { refusal = 0; place = 0; source = 0; dst = dst; retry = 5; ttl = 15 } ∷ []

written : sheet_for (hall 4) (forty 2) (one 19) ≡ sheet_with 2 []
unfolding laid filled_sheet filled_packet fill_then each night_sheet section_of filled_fitted filled_count filled_tables tables_of times packet and_then result bytes_of forty sheet_with is_full capacity racks
written = refl

answered : writer_says (hall 4) (forty 2) (one 19) ≡ accepted_as (hall 4) 1
unfolding writer_says judged laid filled_sheet filled_packet fill_then each night_sheet section_of filled_fitted filled_count filled_tables tables_of times packet and_then result bytes_of forty n_fits k_fits b_fits is_full capacity racks table_length servers t known
answered = refl

-- an n whose last byte is 4 is refused as n, and not written as 4
n_too_high : writer_says (hall 260) (forty 2) (one 19) ≡ refused_at 1 4
unfolding writer_says judged laid filled_sheet filled_packet fill_then each night_sheet section_of filled_fitted filled_count filled_tables tables_of times packet and_then result bytes_of forty n_fits is_full capacity racks
n_too_high = refl

-- the earliest field decides
unknown_code : writer_says (hall 4) (forty 7) (one 20) ≡ refused_at 5 18
unfolding writer_says judged laid filled_sheet filled_packet fill_then each night_sheet section_of filled_fitted filled_count filled_tables tables_of times packet and_then result bytes_of forty n_fits k_fits b_fits is_full capacity racks table_length servers t known
unknown_code = refl

dst_too_high : writer_says (hall 4) (forty 2) (one 20) ≡ refused_at 2 59
unfolding writer_says judged laid filled_sheet filled_packet fill_then each night_sheet section_of filled_fitted filled_count filled_tables tables_of times packet and_then result bytes_of forty n_fits k_fits b_fits is_full capacity racks table_length servers t known
dst_too_high = refl

short_of_room : writer_in 64 (hall 4) (forty 2) (one 19) ≡ refused_at 6 0
unfolding writer_in writer_says judged laid filled_sheet filled_packet fill_then each night_sheet section_of filled_fitted filled_count filled_tables tables_of times packet and_then result bytes_of forty n_fits k_fits b_fits is_full capacity racks table_length servers t known
short_of_room = refl

-- a hall that is not full carries its count
part_written : sheet_for (hall_of 2 2 0 2) (1 ∷ []) [] ≡ part_with 2 2 (0 ∷ 0 ∷ 0 ∷ 1 ∷ 1 ∷ 0 ∷ 0 ∷ 0 ∷ 0 ∷ [])
unfolding laid filled_sheet filled_packet fill_then each night_sheet section_of filled_fitted filled_count filled_tables tables_of times packet and_then result bytes_of part_with is_full capacity racks t
part_written = refl

part_answered : writer_says (hall_of 2 2 0 2) (replicate 126 1) [] ≡ accepted_as (hall_of 2 2 0 2) 0
unfolding writer_says judged laid filled_sheet filled_packet fill_then each night_sheet section_of filled_fitted filled_count filled_tables fitted tables_of times packet and_then result bytes_of n_fits k_fits b_fits is_full capacity racks table_length servers t known
part_answered = refl

-- a count that is too high; one with k below 2 that is not 1
count_too_high : writer_says (hall_of 2 2 0 8) [] [] ≡ refused_at 1 7
unfolding writer_says judged laid filled_sheet filled_packet fill_then each night_sheet section_of filled_fitted filled_count filled_tables fitted tables_of times packet and_then result bytes_of n_fits k_fits b_fits is_full capacity racks t
count_too_high = refl

count_not_one : writer_says (hall_of 4 1 0 0) [] [] ≡ refused_at 1 7
unfolding writer_says judged laid filled_sheet filled_packet fill_then each night_sheet section_of filled_fitted filled_count filled_tables fitted tables_of times packet and_then result bytes_of n_fits k_fits b_fits is_full capacity racks
count_not_one = refl
