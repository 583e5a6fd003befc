-- Laws of the places of a sheet's sections, by its first count.
use mathlib.Core.Path.{◌≡◌, refl}
use mathlib.Core.Bool.{true, false}
use mathlib.Core.List.{List}
use Prim.Native.Nat.{ℕ, ◌+◌, ◌≤◌}
use native.Mathlib.Omega.{arith}
use lib.Dec.{eqb}
use Rattle.combine.specs.Tests.{either}
use Rattle.combine.proofs.Tests.{cases, pick_holds}
use Rattle.hall.specs.declared.Hall.{Hall}
use Rattle.hall.specs.Halls.{is_full}
use Rattle.words.specs.Words.{value}
use Rattle.sheet.specs.Sheets.{full_section, part_section, section_of}
use Rattle.sheet.specs.Answers.{count_place, codes_place}

-- the hall table begins behind the second count
pub codes_behind : (s : List ℕ) → codes_place s ≡ count_place s + 4
unfolding codes_place
codes_behind s = refl

-- the first section of a full hall, and of one that is not
pub section_full : (h : Hall) → is_full h ≡ true → section_of h ≡ full_section
unfolding section_of
section_full h q = rw q

pub section_part : (h : Hall) → is_full h ≡ false → section_of h ≡ part_section
unfolding section_of
section_part h q = rw q

-- either is a first section
pub section_sound : (h : Hall) → either (eqb (section_of h) full_section) (eqb (section_of h) part_section) ≡ true
unfolding section_of
section_sound h = cases (is_full h) (λ q. rw q) (λ q. rw q)

-- the second count stands behind n, k and b
pub count_low : (s : List ℕ) → 7 ≤ count_place s
unfolding count_place
count_low s = pick_holds (λ bytes. 7 ≤ 4 + bytes) (eqb (value s 0 4) part_section) part_section full_section (omega arith) (omega arith)

-- and behind a first section of the hall's own bytes
pub count_place_lem : (s : List ℕ) (h : Hall) → value s 0 4 ≡ section_of h → count_place s ≡ 4 + section_of h
unfolding count_place section_of
count_place_lem s h e = cases (is_full h) (λ q. rw (e, q)) (λ q. rw (e, q))
