-- An accepted sheet is the one encoding of its values: it is what is laid of the values that stand in it, section by section.
use mathlib.Core.Path.{◌≡◌, refl, sym, ◌∙◌, ap}
use mathlib.Core.List.{List, ◌++◌, append_assoc, append-nil}
use Prim.Native.Nat.{ℕ, zero, suc, ◌+◌, ◌*◌, ◌≤◌, ◌<◌}
use native.Mathlib.Omega.{arith}
use lib.ListN.{length, take, drop, length-drop}
use lib.Seq.{drop-length, length-take-le}
use borrow.Author.Tests.{le-leb}
use Rattle.combine.proofs.Tests.{cases}
use Rattle.hall.specs.declared.Hall.{Hall}
use Rattle.hall.specs.Halls.{hall_of, is_full, servers}
use Rattle.sheet.specs.declared.Sheet.{Sheet}
use Rattle.words.specs.Words.{value, Bytes, bytes_of}
use Rattle.words.proofs.Words.{drop_bytes}
use Rattle.sheet.specs.Formats.{Format, done, and_then}
use Rattle.sheet.specs.Sheets.{fitted, behind_codes, codes, packet, packets, times, tables_of, night_sheet}
use Rattle.sheet.specs.Answers.{count_place, codes_place, code_count_of, fitted_in, hall_in, accepted_as, sheet_of, packet_place}
use Rattle.sheet.specs.Accepted.{packet_count_of, Head}
use Rattle.sheet.proofs.Heads.{first_full, first_part}
use Rattle.sheet.proofs.Held.{accepted_read, accepted_holds, accepted_head, long, holds_accepted}
use Rattle.laying.specs.Filled.{laid, values_in}
use Rattle.laying.proofs.Reading.{accepted_laid, values_then}
use Rattle.sheetparts.specs.declared.SheetPacket.{SheetPacket}
use Rattle.sheetparts.specs.Parts.{codes_of, packet_part, packet_fields, packet_at}
use Rattle.sheetparts.specs.Encoding.{packets_bytes, fitted_bytes, encoding_of}
use Rattle.sheetparts.proofs.Parts.{codes_there_lem, codes_answered, packet_answered}

-- packets that agree have the same bytes
packets_alike : (p q : ℕ → SheetPacket) (i so-many : ℕ) → ((j : ℕ) → j < i + so-many → p j ≡ q j) → packets_bytes p i so-many ≡ packets_bytes q i so-many
unfolding packets_bytes
packets_alike p q i zero e = refl
packets_alike p q i (suc so-many) e = rw (e i (omega arith), packets_alike p q (suc i) so-many (λ j l. e j (omega arith)))

-- the values that stand in a sheet, laid: those of the packets, and of what is behind the codes
module _ (s : List ℕ) (limit : ℕ) where
  packets_values : (at i so-many : ℕ) → at + 10 * (i + so-many) ≤ length s
      → laid (values_in (packets limit so-many) s (at + 10 * i)) ≡ packets_bytes (λ j. packet_part s (at + 10 * j)) i so-many
  unfolding values_in laid times packet and_then packets_bytes packet_part
  packets_values at i zero h = refl
  packets_values at i (suc so-many) h =
      let e8 : at + 10 * i + 8 ≡ at + 10 * i + 4 + 4 = omega arith in
      let e9 : at + 10 * i + 9 ≡ at + 10 * i + 4 + 4 + 1 = omega arith in
      let n : at + 10 * i + 4 + 4 + 1 + 1 ≡ at + 10 * suc i = omega arith in
      rw (le-leb (at + 10 * i + 10) (length s) (omega arith), e8, e9, n, packets_values at (suc i) so-many (omega arith)) (simp append_assoc)

  behind_values : (at v : ℕ) → at + 4 + 10 * value s at 4 ≤ length s
      → laid (values_in (behind_codes limit v) s at) ≡ bytes_of 4 (value s at 4) ++ packets_bytes (λ j. packet_part s (at + 4 + 10 * j)) 0 (value s at 4)
  unfolding laid values_in and_then
  behind_values at v h =
      let z : at + 4 ≡ at + 4 + 10 * 0 = omega arith in
      let q : laid (values_in (packets limit (value s at 4)) s (at + 4)) ≡ packets_bytes (λ j. packet_part s (at + 4 + 10 * j)) 0 (value s at 4) =
      ap (λ (m : ℕ). laid (values_in (packets limit (value s at 4)) s m)) z ∙ packets_values (at + 4) 0 (value s at 4) (omega arith) in
      rw (values_then (packets limit (value s at 4)) (λ v. done (value s at 4)) s (at + 4), q, append-nil)

module _ (s : List ℕ) (b : Bytes s) where
  codes_values : (so-many at : ℕ) → at + so-many ≤ length s → laid (values_in (codes so-many) s at) ≡ take so-many (drop at s)
  unfolding values_in laid times and_then bytes_of
  codes_values zero at h = refl
  codes_values (suc so-many) at h = rw (drop_bytes s b 1 at (omega arith), codes_values so-many (at + 1) (omega arith))

  tables_values : (h : Hall) (at : ℕ) → at + 4 + value s at 4 + 4 + 10 * value s (at + 4 + value s at 4) 4 ≤ length s
      → laid (values_in (tables_of h) s at)
      ≡ bytes_of 4 (value s at 4) ++ (take (value s at 4) (drop (at + 4) s) ++ (bytes_of 4 (value s (at + 4 + value s at 4) 4)
      ++ packets_bytes (λ j. packet_part s (at + 4 + value s at 4 + 4 + 10 * j)) 0 (value s (at + 4 + value s at 4) 4)))
  unfolding laid values_in tables_of and_then
  tables_values h at l =
      let so-many = value s at 4 in
      let c = codes_values so-many (at + 4) (omega arith) in
      let n : length (laid (values_in (codes so-many) s (at + 4))) ≡ so-many = ap length c ∙ length-take-le so-many (drop (at + 4) s) (omega (arith, length-drop (at + 4) s)) in
      ap (λ (m : List ℕ). bytes_of 4 so-many ++ m)
      (values_then (codes so-many) (behind_codes (servers h)) s (at + 4)
      ∙ ap (λ (m : ℕ). laid (values_in (codes so-many) s (at + 4)) ++ laid (values_in (behind_codes (servers h) 0) s (at + 4 + m))) n
      ∙ rw (c, behind_values s (servers h) (at + 4 + so-many) 0 l))

  fitted_values : Head s → (g : ℕ → Format) → laid (values_in (and_then (fitted (value s 0 4) (value s 4 1) (value s 5 1)) g) s 7)
      ≡ fitted_bytes (hall_in s) ++ laid (values_in (g (fitted_in s)) s (count_place s))
  unfolding laid values_in and_then fitted fitted_in count_place fitted_bytes
  fitted_values head g =
      cases (is_full (hall_in s))
      (λ q. rw (q, first_full s head q))
      (λ q. rw (q, first_part s head q))

  sheet_values : Head s → laid (values_in night_sheet s 0)
      ≡ bytes_of 4 (value s 0 4) ++ (bytes_of 1 (value s 4 1) ++ (bytes_of 1 (value s 5 1) ++ (bytes_of 1 (value s 6 1)
      ++ (fitted_bytes (hall_in s) ++ laid (values_in (tables_of (hall_in s)) s (count_place s))))))
  unfolding laid values_in night_sheet and_then
  sheet_values head =
      ap (λ (m : List ℕ). bytes_of 4 (value s 0 4) ++ (bytes_of 1 (value s 4 1) ++ (bytes_of 1 (value s 5 1) ++ (bytes_of 1 (value s 6 1) ++ m))))
      (fitted_values head (λ count. tables_of (hall_of (value s 4 1) (value s 5 1) (value s 6 1) count)))

  -- so it is the sections one behind the other
  pub encoded : (codes : List ℕ) (packet : ℕ → SheetPacket) → (sheet_of s).refusal ≡ 0
      → codes ≡ take (code_count_of s) (drop (codes_place s) s) → ((i : ℕ) → i < packet_count_of s → packet i ≡ packet_fields s i)
      → s ≡ encoding_of (accepted_as (hall_in s) (packet_count_of s)) codes packet
  unfolding encoding_of codes_place packet_place packet_count_of
  encoded codes packet ok ec each =
      let a = accepted_holds s ok in
      let r = accepted_read s ok in
      let l = long s a in
      let w = (accepted_laid night_sheet s b 0 r.1.0 (length s) r.1.1).3 in
      let c : length (take (code_count_of s) (drop (codes_place s) s)) ≡ code_count_of s =
      length-take-le (code_count_of s) (drop (codes_place s) s) (omega (arith, length-drop (codes_place s) s)) in
      let t = tables_values (hall_in s) (count_place s) (omega arith) in
      let p = packets_alike packet (packet_fields s) 0 (packet_count_of s) (λ i h. each i (omega arith)) in
      w ∙ rw (drop-length s, append-nil (laid (values_in night_sheet s 0)))
      (sheet_values (accepted_head s a) ∙ rw (a.first, t, ec, c, p) (simp append_assoc))

  -- an accepted sheet is the encoding of what the calls answer of it
  pub accepted_encoding : (sheet_of s).refusal ≡ 0 → s ≡ encoding_of (sheet_of s) (codes_of s) (packet_at s)
  accepted_encoding ok =
      let a = accepted_holds s ok in
      let e = holds_accepted s a in
      encoded (codes_of s) (packet_at s) ok
      (sym (codes_there_lem s (omega (arith, long s a)) ∙ codes_answered s (sheet_of s) refl ok))
      (λ i h. sym (packet_answered s (sheet_of s) refl i ok (omega (arith, ap (λ x. x.packets) e))))
      ∙ ap (λ (x : Sheet). encoding_of x (codes_of s) (packet_at s)) (sym e)

-- two accepted sheets with equal values are equal bytes
pub one_encoding : (s t : List ℕ) → Bytes s → Bytes t → (sheet_of s).refusal ≡ 0
    → sheet_of s ≡ sheet_of t → codes_of s ≡ codes_of t → ((i : ℕ) → i < (sheet_of s).packets → packet_at s i ≡ packet_at t i)
    → s ≡ t
unfolding encoding_of
one_encoding s t bs bt ok e c p =
    let e0 = accepted_encoding s bs ok in
    let e1 = accepted_encoding t bt (sym (ap (λ x. x.refusal) e) ∙ ok) in
    e0 ∙ same (sheet_of s) (sheet_of t) (codes_of s) (codes_of t) (packet_at s) (packet_at t) e c p ∙ sym e1
  where
    same : (a b : Sheet) (x y : List ℕ) (f g : ℕ → SheetPacket) → a ≡ b → x ≡ y → ((i : ℕ) → i < a.packets → f i ≡ g i)
        → encoding_of a x f ≡ encoding_of b y g
    same a b x y f g ab xy fg = rw (← ab, ← xy, packets_alike f g 0 a.packets (λ i h. fg i (omega arith)))
