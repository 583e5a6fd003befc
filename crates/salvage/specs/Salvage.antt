-- A spoiled sheet rebuilt: its codes mended, the packets that the reader accepts kept, and what was changed and left out.
-- Requests K11 and K5.
use Rattle.std.specs.Prelude.{◌≡◌, Bool, true, false, not, List, [], ◌∷◌, ◌++◌, map, ℕ, zero, suc, min, ◌+◌, ◌-◌, ◌*◌, ◌/◌, ◌≤◌, eqb, ltb, length, get_or, take, drop, replicate}
use Rattle.combine.specs.Tests.{pick, both}
use Rattle.hall.specs.declared.Hall.{Hall}
use Rattle.hall.specs.Halls.{valid, servers}
use Rattle.hall.specs.Refusals.{bad_sheet}
use Rattle.ports.specs.Codes.{not_fitted, code_down, known, table_length}
use Rattle.sheet.specs.declared.Field.{Field}
use Rattle.sheet.specs.declared.Field.TheVariants.{Value, Refused}
use Rattle.sheet.specs.declared.Sheet.{Sheet}
use Rattle.words.specs.Words.{value, word_at}
use Rattle.sheet.specs.Formats.{Format, read}
use Rattle.sheet.specs.Sheets.{longest, section_of, count, packet, hall_then}
use Rattle.sheet.specs.Answers.{codes_place, code_count_of, hall_in, refused_at}
use Rattle.sheetparts.specs.declared.SheetPacket.{SheetPacket}
use Rattle.sheetparts.specs.Parts.{packet_part}
use Rattle.writing.specs.Writing.{sheet_for, told_for}

-- a salvage needs a sound first section and second count
unfoldable pub head_sheet : Format
head_sheet = hall_then (λ h. count (table_length h))

-- what a sound first section and second count say
pub record HeadHeld (s : List ℕ) : Type 0 where
  pub first : value s 0 4 ≡ section_of (hall_in s)
  pub hall : valid (hall_in s) ≡ true
  pub second : code_count_of s ≡ table_length (hall_in s)
  pub there : codes_place s ≤ length s

-- 2 for a code that the reader would refuse
unfoldable pub mended : ℕ → ℕ
mended code = pick (known code) code code_down

-- the codes that are there
abbrev pub codes_there : Hall → List ℕ → List ℕ
codes_there h s = take (table_length h) (drop (codes_place s) s)

-- and 0 for those that are missing at the end
unfoldable pub codes_mended : Hall → List ℕ → List ℕ
codes_mended h s = map mended (codes_there h s) ++ replicate (table_length h - length (codes_there h s)) not_fitted

-- the third count, 0 if it is cut, and the first byte of packet i
abbrev pub count_there : Hall → List ℕ → ℕ
count_there h s = word_at s (codes_place s + table_length h)

abbrev pub packet_there : Hall → List ℕ → ℕ → ℕ
packet_there h s i = codes_place s + table_length h + 4 + 10 * i

-- the packets begun within the third count
unfoldable pub begun : Hall → List ℕ → ℕ
begun h s = min (count_there h s) ((length s - packet_there h s 0 + 9) / 10)

abbrev pub accepts : Field → Bool
accepts (Value v next) = true
accepts (Refused number place) = false

-- the reader accepts packet i
unfoldable pub keeps : Hall → List ℕ → ℕ → Bool
keeps h s i = accepts (read (packet (servers h)) s (packet_there h s i))

-- of so many numbers from i on, those of which a test holds
unfoldable pub those : (ℕ → Bool) → ℕ → ℕ → List ℕ
those p i zero = []
those p i (suc so-many) = pick (p i) (i ∷ those p (suc i) so-many) (those p (suc i) so-many)

-- the packets that are kept, in order
unfoldable pub kept : Hall → List ℕ → List SheetPacket
kept h s = map (λ i. packet_part s (packet_there h s i)) (those (keeps h s) 0 (begun h s))

-- the indices of those that are begun and left out
unfoldable pub left_out : Hall → List ℕ → List ℕ
left_out h s = those (λ i. not (keeps h s i)) 0 (begun h s)

-- the sheet that is rebuilt
abbrev pub rebuilt : Hall → List ℕ → List ℕ
rebuilt h s = sheet_for h (codes_mended h s) (kept h s)

-- a byte that was changed or added: whether there was an old one, and it, or 0
pub record Change : Type 0 where
  pub place : ℕ
  pub had : Bool
  pub old : ℕ
  pub new : ℕ

-- byte i is not there, or is not that of the rebuilt sheet
unfoldable pub changed : Hall → List ℕ → ℕ → Bool
changed h s i = not (both (ltb i (length s)) (eqb (get_or s i 0) (get_or (rebuilt h s) i 0)))

abbrev pub change_at : Hall → List ℕ → ℕ → Change
change_at h s i = record { place = i; had = ltb i (length s); old = get_or s i 0; new = get_or (rebuilt h s) i 0 }

-- of the codes and of the third count, in byte order
unfoldable pub changes : Hall → List ℕ → List Change
changes h s = map (change_at h s) (those (changed h s) (codes_place s) (table_length h + 4))

abbrev pub salvaged_as : List ℕ → Field → Sheet
salvaged_as s (Refused number place) = refused_at number place
salvaged_as s (Value v next) =
    pick (ltb longest (length (rebuilt (hall_in s) s))) (refused_at bad_sheet longest)
    (told_for (hall_in s) (Value (length (kept (hall_in s) s)) 0))

-- the reader's refusal of the head; 10 where the input, told first, or the rebuilt sheet is too long
unfoldable pub salvage_says : List ℕ → Sheet
salvage_says s = pick (ltb longest (length s)) (refused_at bad_sheet longest) (salvaged_as s (read head_sheet s 0))
