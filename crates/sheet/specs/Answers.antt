-- What reading a sheet answers.
-- Sections "The night sheet" and "Refusal numbers"; request K5.
use Rattle.std.specs.Prelude.{List, ℕ, ◌+◌, ◌*◌, eqb, ltb, length}
use Rattle.combine.specs.Tests.{pick}
use Rattle.hall.specs.Halls.{hall_of, capacity}
use Rattle.hall.specs.declared.Hall.{Hall}
use Rattle.hall.specs.Refusals.{bad_sheet}
use Rattle.sheet.specs.declared.Field.{Field}
use Rattle.sheet.specs.declared.Field.TheVariants.{Value, Refused}
use Rattle.sheet.specs.declared.Sheet.{Sheet}
use Rattle.words.specs.Words.{value}
use Rattle.sheet.specs.Formats.{read}
use Rattle.sheet.specs.Sheets.{longest, full_section, part_section, night_sheet}

-- the first bytes of n, k and b, and of the count where the first section has 7 bytes
abbrev pub place_n : ℕ
place_n = 4

abbrev pub place_k : ℕ
place_k = 5

abbrev pub place_b : ℕ
place_b = 6

abbrev pub place_count : ℕ
place_count = 7

-- the bytes of the first section: 7 where the first count says so, else 3
abbrev pub section_bytes : List ℕ → ℕ
section_bytes s = pick (eqb (value s 0 4) part_section) part_section full_section

-- the first byte of the second count, behind the first count and its section
unfoldable pub count_place : List ℕ → ℕ
count_place s = 4 + section_bytes s

-- and of the hall table, behind the second count
unfoldable pub codes_place : List ℕ → ℕ
codes_place s = count_place s + 4

-- the second count
abbrev pub code_count_of : List ℕ → ℕ
code_count_of s = value s (count_place s) 4

-- the DCell1s fitted: the count that a section of 7 bytes carries, else all
unfoldable pub fitted_in : List ℕ → ℕ
fitted_in s = pick (eqb (value s 0 4) part_section) (value s place_count 4) (capacity (value s place_n 1) (value s place_k 1))

-- the hall that a sheet's bytes name
abbrev pub hall_in : List ℕ → Hall
hall_in s = hall_of (value s place_n 1) (value s place_k 1) (value s place_b 1) (fitted_in s)

-- a refused sheet: number and place, and zero in every other field
abbrev pub refused_at : ℕ → ℕ → Sheet
refused_at number place = record { refusal = number; place = place; hall = hall_of 0 0 0 0; packets = 0 }

-- an accepted one: its hall and its number of packets
abbrev pub accepted_as : Hall → ℕ → Sheet
accepted_as h packetCount = record { refusal = 0; place = 0; hall = h; packets = packetCount }

-- the number and values for each case of a field's read, at the end of the sheet: a surplus is told at its first byte
abbrev pub told : List ℕ → Field → Sheet
told s (Refused number place) = refused_at number place
told s (Value packetCount end) =
    pick (ltb end (length s)) (refused_at bad_sheet end)
    (accepted_as (hall_in s) packetCount)

-- at most 65,536 bytes, else 10 at place 65,536
unfoldable pub sheet_of : List ℕ → Sheet
sheet_of s = pick (ltb longest (length s)) (refused_at bad_sheet longest) (told s (read night_sheet s 0))

-- the first byte of packet i: 10 bytes each, behind the codes and the third count
unfoldable pub packet_place : List ℕ → ℕ → ℕ
packet_place s i = codes_place s + code_count_of s + 4 + 10 * i
