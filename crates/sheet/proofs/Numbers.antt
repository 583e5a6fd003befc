-- The numbers that a sheet is refused by: one walk over the format, for anything that may be said of a number.
use mathlib.Core.Path.{◌≡◌, refl, sym, ◌∙◌, ap}
use mathlib.Core.Bool.{Bool, false, true≢false}
use mathlib.Core.List.{List}
use Prim.Native.Nat.{ℕ, zero, suc, ◌+◌, ◌≤◌}
use native.Mathlib.Omega.{arith}
use lib.Dec.{eqb, leb, ltb}
use lib.ListN.{length}
use borrow.Author.Tests.{ltb-true, ltb-false}
use Rattle.combine.specs.Tests.{both, either}
use Rattle.combine.proofs.Tests.{cases, pick_holds}
use Rattle.hall.specs.declared.Hall.{Hall}
use Rattle.hall.specs.Halls.{hall_of, capacity, n_fits, k_fits, b_fits, servers}
use Rattle.hall.specs.Refusals.{bad_hall, bad_uid, bad_length, bad_code, bad_retry, bad_sheet, bad_address, most_retry}
use Rattle.ports.specs.Codes.{known, table_length}
use Rattle.sheet.specs.declared.Field.{Field}
use Rattle.sheet.specs.declared.Field.TheVariants.{Value, Refused}
use Rattle.sheet.specs.declared.Sheet.{Sheet}
use Rattle.words.specs.Words.{value}
use Rattle.sheet.specs.Formats.{Format, done, field, and_then, read}
use Rattle.sheet.specs.Sheets.{longest, any, full_section, part_section, number_count, fitted, code, times, packet, tables_of, night_sheet}
use Rattle.sheet.specs.Answers.{sheet_of}
use Rattle.sheet.proofs.Reading.{read_done, read_sound, read_wrong, read_cut, read_cases}
use Rattle.sheet.proofs.Sheets.{sheet_long, sheet_refused, sheet_surplus, sheet_accepted}
use Rattle.sheet.proofs.Faults.{place_within}

-- a format whose fields are refused by numbers of which P holds; a field that takes every value is never refused
pub data Numbers (P : ℕ → Type 0) : Format → Type 0 where
  at_end : {v : ℕ} → Numbers P (done v)
  numbers : {width number : ℕ} {sound : ℕ → Bool} {next : ℕ → Format}
      → ((v : ℕ) → sound v ≡ false → P number) → ((v : ℕ) → Numbers P (next v)) → Numbers P (field width sound number next)

module _ (P : ℕ → Type 0) where
  numbers_then : {f : Format} {g : ℕ → Format} → Numbers P f → ((v : ℕ) → Numbers P (g v)) → Numbers P (and_then f g)
  unfolding and_then
  numbers_then {f = done v} at_end k = k v
  numbers_then {f = field width sound number next} (numbers h r) k = numbers h (λ v. numbers_then (r v) k)

  numbers_field : (width : ℕ) (sound : ℕ → Bool) (number : ℕ) → P number → Numbers P (field width sound number done)
  numbers_field width sound number h = numbers (λ v e. h) (λ v. at_end)

  numbers_any : (width : ℕ) → Numbers P (any width)
  numbers_any width = numbers (λ v e. absurd (true≢false e)) (λ v. at_end)

  numbers_times : (f : Format) → Numbers P f → (so-many : ℕ) → Numbers P (times so-many f)
  unfolding times
  numbers_times f n zero = at_end
  numbers_times f n (suc rest) = numbers_then n (λ v. numbers_times f n rest)

  -- it holds of the number that reading is refused by, where it holds of a cut's
  read_numbers : P bad_sheet → (f : Format) → Numbers P f → (s : List ℕ) (at number place : ℕ) → read f s at ≡ Refused number place → P number
  read_numbers c (done v) n s at number place e =
      let q : Value v at ≡ Refused number place = sym (read_done v s at) ∙ e in
      let x : ◌≡◌ {A = ℕ} 0 1 = cc q in absurd (omega arith)
  read_numbers c (field width sound told next) (numbers h r) s at number place e =
      read_cases s width sound told next at
      (λ l t. read_numbers c (next (value s at width)) (r (value s at width)) s (at + width) number place (sym (read_sound s width sound told next at l t) ∙ e))
      (λ l t. let q : Refused told at ≡ Refused number place = sym (read_wrong s width sound told next at l t) ∙ e in
      let x : told ≡ number = cc q in rw (← x) (h (value s at width) t))
      (λ l. let q : Refused bad_sheet (length s) ≡ Refused number place = sym (read_cut s width sound told next at l) ∙ e in
      let x : bad_sheet ≡ number = cc q in rw (← x) c)

  -- 1, 2, 4, 5 and 8 are the numbers of a sheet's fields
  module _ (of-hall : P bad_hall) (of-uid : P bad_uid) (of_length : P bad_length) (of_code : P bad_code) (of-retry : P bad_retry) where
    numbers_packet : (limit : ℕ) → Numbers P (packet limit)
    unfolding packet
    numbers_packet limit =
        numbers_then (numbers_field 4 (λ v. ltb v limit) bad_uid of-uid) (λ source.
        numbers_then (numbers_field 4 (λ v. ltb v limit) bad_uid of-uid) (λ dst.
        numbers_then (numbers_field 1 (λ v. leb v most_retry) bad_retry of-retry) (λ v. numbers_any 1)))

    numbers_tables : (h : Hall) → Numbers P (tables_of h)
    unfolding tables_of
    numbers_tables h =
        numbers_then (numbers_field 4 (λ v. eqb v (table_length h)) bad_length of_length) (λ bytes.
        numbers_then (numbers_times code (numbers_field 1 known bad_code of_code) bytes) (λ v.
        numbers_then (numbers_any 4) (λ packetCount.
        numbers_then (numbers_times (packet (servers h)) (numbers_packet (servers h)) packetCount) (λ v. at_end))))

    numbers_fitted : (first n k : ℕ) → Numbers P (fitted first n k)
    unfolding fitted
    numbers_fitted first n k =
        pick_holds (Numbers P) (eqb first part_section) (number_count n k) (done (capacity n k))
        (numbers_field 4 (λ v. both (leb 2 k) (ltb v (capacity n k))) bad_hall of-hall) at_end

    pub numbers_sheet : Numbers P night_sheet
    unfolding night_sheet
    numbers_sheet =
        numbers_then (numbers_field 4 (λ v. either (eqb v full_section) (eqb v part_section)) bad_length of_length) (λ first.
        numbers_then (numbers_field 1 n_fits bad_hall of-hall) (λ n.
        numbers_then (numbers_field 1 (k_fits n) bad_hall of-hall) (λ k.
        numbers_then (numbers_field 1 (b_fits k) bad_hall of-hall) (λ b.
        numbers_then (numbers_fitted first n k) (λ count. numbers_tables (hall_of n k b count))))))

    -- so P holds of the number that reading a sheet is refused by, where it holds of these and of 10
    pub refused_numbers : P bad_sheet → (s : List ℕ) (number place : ℕ) → read night_sheet s 0 ≡ Refused number place → P number
    refused_numbers c s number place e = read_numbers c night_sheet numbers_sheet s 0 number place e

-- a sheet is not refused by 0
pub refused_by_some : (s : List ℕ) (number place : ℕ) → read night_sheet s 0 ≡ Refused number place → number ≡ 0 → ⊥
refused_by_some =
    refused_numbers (λ number. number ≡ 0 → ⊥) (λ z. omega arith) (λ z. omega arith) (λ z. omega arith) (λ z. omega arith) (λ z. omega arith) (λ z. omega arith)

-- its refusal is a number of the table
pub refusal_listed : (s : List ℕ) → (sheet_of s).refusal ≤ bad_address
refusal_listed s =
    cases (ltb longest (length s))
    (λ q. let h = ltb-true longest (length s) q in omega (arith, ap (λ (x : Sheet). x.refusal) (sheet_long s h)))
    (λ q. by (ltb-false longest (length s) q) (read night_sheet s 0) refl)
  where
    by : length s ≤ longest → (r : Field) → read night_sheet s 0 ≡ r → (sheet_of s).refusal ≤ bad_address
    by h (Refused number place) e =
        omega (
          arith,
          ap (λ (x : Sheet). x.refusal) (sheet_refused s h number place e),
          refused_numbers (λ n. n ≤ bad_address) (omega arith) (omega arith) (omega arith) (omega arith) (omega arith) (omega arith) s number place e,
        )
    by h (Value v end) e =
        cases (ltb end (length s))
        (λ q. omega (arith, ap (λ (x : Sheet). x.refusal) (sheet_surplus s h v end e (ltb-true end (length s) q))))
        (λ q. omega (arith, ap (λ (x : Sheet). x.refusal) (sheet_accepted s h v end e (ltb-false end (length s) q))))

-- and its place is one of the bytes that a sheet may have, or the one behind them
pub place_listed : (s : List ℕ) → (sheet_of s).place ≤ longest
place_listed s =
    cases (ltb longest (length s))
    (λ q. let h = ltb-true longest (length s) q in omega (arith, ap (λ (x : Sheet). x.place) (sheet_long s h)))
    (λ q. omega (arith, ltb-false longest (length s) q, place_within s))
