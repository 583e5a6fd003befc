-- Laws of the first section as it is filled: its bytes, what it is read for, and that the writer refuses the count that does not fit.
use Prim.{tt}
use mathlib.Core.Path.{◌≡◌, refl, sym, ◌∙◌, ap}
use mathlib.Core.Bool.{Bool, true, false, true≢false}
use mathlib.Core.List.{List, [], ◌++◌, append-nil}
use Prim.Native.Nat.{ℕ, ◌+◌, ◌^◌, ◌<◌}
use native.Mathlib.Omega.{arith}
use lib.Dec.{leb, ltb}
use lib.ListN.{length, drop}
use borrow.Author.Tests.{eqb-true}
use Rattle.combine.specs.Tests.{pick, both, either}
use Rattle.combine.proofs.Tests.{cases}
use Rattle.hall.specs.declared.Hall.{Hall}
use Rattle.hall.specs.Halls.{hall_of, capacity, count_fits, is_full}
use Rattle.hall.specs.Refusals.{bad_hall}
use Rattle.sheet.specs.declared.Field.TheVariants.{Value, Refused}
use Rattle.words.specs.Words.{value, bytes_of}
use Rattle.words.proofs.Bytes.{bytes_long, value_laid}
use Rattle.sheet.specs.Sheets.{full_section, part_section, section_of, fitted}
use Rattle.sheet.specs.Answers.{fitted_in}
use Rattle.sheet.proofs.Places.{section_full, section_part}
use Rattle.sheet.proofs.Heads.{fits_either}
use Rattle.sheetparts.specs.Encoding.{fitted_bytes}
use Rattle.laying.specs.Filled.{result, laid, judged, All, Fits, Sound}
use Rattle.writing.specs.Writing.{filled_count, filled_fitted}

-- the count, by whether the hall is full
module _ (n k count : ℕ) where
  count_laid : (full : Bool) → laid (filled_count full n k count) ≡ pick full [] (bytes_of 4 count)
  unfolding laid filled_count fitted
  count_laid true = refl
  count_laid false = append-nil (bytes_of 4 count)

  count_result : (full : Bool) → (full ≡ true → count ≡ capacity n k) → result (filled_count full n k count) ≡ count
  unfolding result filled_count fitted
  count_result true e = sym (e refl)
  count_result false e = refl

  count_judged : (full : Bool) (at : ℕ) → judged (filled_count full n k count) at
      ≡ pick (either full (both (leb 2 k) (ltb count (capacity n k))))
      (Value (result (filled_count full n k count)) (at + length (laid (filled_count full n k count)))) (Refused bad_hall at)
  unfolding judged result laid filled_count fitted
  count_judged true at = let z : at ≡ at + 0 = omega arith in ap (λ (m : ℕ). Value (capacity n k) m) z
  count_judged false at =
      let z : at + 4 ≡ at + length (bytes_of 4 count ++ []) = omega (arith, ap length (append-nil (bytes_of 4 count)), bytes_long 4 count) in
      ap (λ (m : ℕ). pick (both (leb 2 k) (ltb count (capacity n k))) (Value count m) (Refused bad_hall at)) z

  count_all : (P : ℕ → (ℕ → Bool) → ℕ → Type 0) (full : Bool)
      → (full ≡ false → P 4 (λ v. both (leb 2 k) (ltb v (capacity n k))) count) → All P (filled_count full n k count)
  unfolding All filled_count fitted
  count_all P true h = tt
  count_all P false h = (h refl, tt)

  all_count : (P : ℕ → (ℕ → Bool) → ℕ → Type 0) (full : Bool) → All P (filled_count full n k count)
      → full ≡ false → P 4 (λ v. both (leb 2 k) (ltb v (capacity n k))) count
  unfolding All filled_count fitted
  all_count P true h e = absurd (true≢false e)
  all_count P false h e = h.0

module _ (h : Hall) where
  -- the bytes of a first section
  pub fitted_laid : laid (filled_fitted h) ≡ fitted_bytes h
  unfolding filled_fitted fitted_bytes section_of
  fitted_laid = count_laid h.n h.k h.count (is_full h)

  pub fitted_long : 3 + length (fitted_bytes h) ≡ section_of h
  unfolding fitted_bytes section_of
  fitted_long = cases (is_full h) (λ q. rw q) (λ q. rw q (ap (λ (m : ℕ). 3 + m) (bytes_long 4 h.count)))

  -- it is read for the hall's own count
  full_count : is_full h ≡ true → h.count ≡ capacity h.n h.k
  unfolding is_full
  full_count q = eqb-true h.count (capacity h.n h.k) q

  fitted_result : result (filled_fitted h) ≡ h.count
  unfolding filled_fitted section_of
  fitted_result = count_result h.n h.k h.count (is_full h) full_count

  pub same_hall : hall_of h.n h.k h.b (result (filled_fitted h)) ≡ h
  same_hall = rw fitted_result

  -- a count that does not fit is refused at its first byte
  fitted_by_lem : judged (filled_fitted h) 7
      ≡ pick (either (is_full h) (both (leb 2 h.k) (ltb h.count (capacity h.n h.k))))
      (Value (result (filled_fitted h)) (7 + length (laid (filled_fitted h)))) (Refused bad_hall 7)
  unfolding filled_fitted section_of
  fitted_by_lem = count_judged h.n h.k h.count (is_full h) 7

  pub fitted_judged : judged (filled_fitted h) 7
      ≡ pick (count_fits h.n h.k h.count) (Value (result (filled_fitted h)) (4 + section_of h)) (Refused bad_hall 7)
  fitted_judged =
      let z : 7 + length (laid (filled_fitted h)) ≡ 4 + section_of h = omega (arith, ap length fitted_laid, fitted_long) in
      let f : either (is_full h) (both (leb 2 h.k) (ltb h.count (capacity h.n h.k))) ≡ count_fits h.n h.k h.count =
      unfold is_full in (fits_either h.n h.k h.count) in
      fitted_by_lem ∙ rw (f, z)

  pub fitted_fits : h.count < 256 ^ 4 → Fits (filled_fitted h)
  unfolding filled_fitted section_of
  fitted_fits l = count_all h.n h.k h.count (λ width sound v. v < 256 ^ width) (is_full h) (λ q. l)

  pub fitted_sound : count_fits h.n h.k h.count ≡ true → Sound (filled_fitted h)
  unfolding filled_fitted section_of is_full
  fitted_sound e =
      count_all h.n h.k h.count (λ width sound v. sound v ≡ true) (is_full h) (λ q. rw q at (fits_either h.n h.k h.count) ∙ e)

  pub sound_fitted : Sound (filled_fitted h) → count_fits h.n h.k h.count ≡ true
  unfolding filled_fitted section_of is_full
  sound_fitted s =
      sym (fits_either h.n h.k h.count)
      ∙ cases (is_full h) (λ q. rw q) (λ q. rw q (all_count h.n h.k h.count (λ width sound v. sound v ≡ true) (is_full h) s q))

  -- and it is what the sheet's bytes name
  pub fitted_stands : (s post : List ℕ) → value s 0 4 ≡ section_of h → value s 4 1 ≡ h.n → value s 5 1 ≡ h.k → h.count < 256 ^ 4
      → drop 7 s ≡ fitted_bytes h ++ post → fitted_in s ≡ h.count
  unfolding fitted_in fitted_bytes
  fitted_stands s post first n k l d =
      cases (is_full h)
      (λ q. let z : value s 0 4 ≡ full_section = first ∙ section_full h q in rw (z, n, k) (sym (full_count q)))
      (λ q. let z : value s 0 4 ≡ part_section = first ∙ section_part h q in rw z (value_laid s 7 4 h.count post l (rw q at d)))
