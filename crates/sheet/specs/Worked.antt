-- Worked values: the night sheet of n = 4, k = 1, b = 0, forty codes all 1 but at the bytes 7 and 33, one packet 0, 19, 5, 15;
-- and sheets of halls that are not full.
-- Section "The night sheet"; request K5.
use Rattle.std.specs.Prelude.{◌≡◌, refl, List, [], ◌∷◌, ◌++◌, ℕ, replicate}
use Rattle.hall.specs.Cells.{t}
use Rattle.hall.specs.Halls.{racks, capacity, hall_of, full_hall, n_fits, k_fits, b_fits, servers}
use Rattle.ports.specs.Codes.{known, table_length}
use Rattle.words.specs.Words.{value}
use Rattle.sheet.specs.Formats.{read, and_then}
use Rattle.sheet.specs.Sheets.{fitted, times, packet, tables_of, night_sheet}
use Rattle.sheet.specs.Answers.{fitted_in, refused_at, accepted_as, sheet_of}

-- the sheet, with a code at the bytes 7 and 33 of its hall table, and what stands behind its packet
unfoldable pub sheet_with : ℕ → List ℕ → List ℕ
sheet_with code rest =
    (0 ∷ 0 ∷ 0 ∷ 3 ∷ 4 ∷ 1 ∷ 0 ∷ [])
    ++ (0 ∷ 0 ∷ 0 ∷ 40 ∷ []) ++ replicate 7 1 ++ (code ∷ []) ++ replicate 25 1 ++ (code ∷ []) ++ replicate 6 1
    ++ (0 ∷ 0 ∷ 0 ∷ 1 ∷ []) ++ (0 ∷ 0 ∷ 0 ∷ 0 ∷ 0 ∷ 0 ∷ 0 ∷ 19 ∷ 5 ∷ 15 ∷ []) ++ rest

accepted : sheet_of (sheet_with 2 []) ≡ accepted_as (full_hall 4 1 0) 1
unfolding sheet_of sheet_with night_sheet fitted tables_of times packet read and_then value n_fits k_fits b_fits capacity racks fitted_in table_length servers t known
accepted = refl

surplus : sheet_of (sheet_with 2 (0 ∷ [])) ≡ refused_at 10 65
unfolding sheet_of sheet_with night_sheet fitted tables_of times packet read and_then value n_fits k_fits b_fits capacity racks fitted_in table_length servers t known
surplus = refl

empty : sheet_of [] ≡ refused_at 10 0
unfolding sheet_of night_sheet read and_then value
empty = refl

-- a whole wrong field comes before the cut behind it
wrong_before_cut : sheet_of (0 ∷ 0 ∷ 0 ∷ 3 ∷ 9 ∷ []) ≡ refused_at 1 4
unfolding sheet_of night_sheet read and_then value n_fits
wrong_before_cut = refl

-- a field that is partly there is a cut
cut : sheet_of (0 ∷ 0 ∷ []) ≡ refused_at 10 2
unfolding sheet_of night_sheet read and_then value
cut = refl

-- a hall of n = 2 and k of which so many DCell1s are fitted, and what stands behind its first section
unfoldable pub part_with : ℕ → ℕ → List ℕ → List ℕ
part_with k count rest = (0 ∷ 0 ∷ 0 ∷ 7 ∷ 2 ∷ k ∷ 0 ∷ 0 ∷ 0 ∷ 0 ∷ count ∷ []) ++ rest

-- two of the 7 DCell1s of a DCell2
part_accepted : sheet_of (part_with 2 2 ((0 ∷ 0 ∷ 0 ∷ 126 ∷ []) ++ replicate 126 1 ++ (0 ∷ 0 ∷ 0 ∷ 0 ∷ []))) ≡ accepted_as (hall_of 2 2 0 2) 0
unfolding sheet_of part_with night_sheet fitted tables_of times packet read and_then value n_fits k_fits b_fits capacity racks fitted_in table_length servers t known
part_accepted = refl

-- a full count in 7 bytes; a count with k below 2
full_in_seven : sheet_of (part_with 2 7 []) ≡ refused_at 1 7
unfolding sheet_of part_with night_sheet fitted read and_then value n_fits k_fits b_fits capacity racks t
full_in_seven = refl

count_below_two : sheet_of (part_with 1 0 []) ≡ refused_at 1 7
unfolding sheet_of part_with night_sheet fitted read and_then value n_fits k_fits b_fits
count_below_two = refl

-- cut within the count
count_cut : sheet_of (0 ∷ 0 ∷ 0 ∷ 7 ∷ 2 ∷ 2 ∷ 0 ∷ 0 ∷ 0 ∷ []) ≡ refused_at 10 9
unfolding sheet_of night_sheet fitted read and_then value n_fits k_fits b_fits
count_cut = refl

-- neither 3 nor 7
first_count_five : sheet_of (0 ∷ 0 ∷ 0 ∷ 5 ∷ []) ≡ refused_at 4 0
unfolding sheet_of night_sheet read and_then value
first_count_five = refl
