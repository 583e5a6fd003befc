-- Laws of the answers about codes and packets: what each is, by the test that decides it.
use mathlib.Core.Path.{◌≡◌, sym, ◌∙◌}
use mathlib.Core.List.{List, []}
use Prim.Native.Nat.{ℕ, ◌+◌, ◌-◌, ◌*◌, ◌≤◌, ◌<◌}
use native.Mathlib.Omega.{arith}
use lib.Dec.{eqb, leb}
use lib.ListN.{length, get_or, take, drop, get_or-eq_default}
use borrow.Author.Tests.{leb-true, leb-false, le-leb, lt-leb, lt-ltb, le-ltb, eq-eqb, ne_eqb}
use Rattle.combine.proofs.Tests.{cases}
use Rattle.hall.specs.Refusals.{bad_range}
use Rattle.sheet.specs.declared.Sheet.{Sheet}
use Rattle.words.specs.Words.{value, word_at}
use Rattle.words.proofs.Words.{value_one, value_four, word_there, word_cut}
use Rattle.sheet.specs.Sheets.{full_section, part_section}
use Rattle.sheet.specs.Answers.{count_place, codes_place, code_count_of, sheet_of, packet_place}
use Rattle.sheet.proofs.Places.{codes_behind}
use Rattle.sheetparts.specs.declared.SheetPacket.{SheetPacket}
use Rattle.sheetparts.specs.Parts.{codes_part, codes_of, packet_refused, packet_part, packet_fields, packet_at}

module _ (s : List ℕ) where
  -- the hall table's place, by the first count: where that is cut it is not 7
  first_read : (first : ℕ) → first ≡ word_at s 0 → eqb first part_section ≡ eqb (value s 0 4) part_section
  first_read first e =
      cases (leb 4 (length s))
      (λ q. rw (e, word_there s 0 (leb-true 4 (length s) q)))
      (λ q. let l = leb-false 4 (length s) q in
      rw (e, word_cut s 0 l) (sym (ne_eqb (value s 0 4) part_section (λ z. omega (arith, value_four s 0, get_or-eq_default s 0 {n = 3} (omega arith))))))

  pub place_part : (first : ℕ) → first ≡ word_at s 0 → first ≡ part_section → 4 + part_section + 4 ≡ codes_place s
  unfolding codes_place count_place
  place_part first e t = rw (← first_read first e, eq-eqb first part_section t)

  pub place_full : (first : ℕ) → first ≡ word_at s 0 → (first ≡ part_section → ⊥) → 4 + full_section + 4 ≡ codes_place s
  unfolding codes_place count_place
  place_full first e t = rw (← first_read first e, ne_eqb first part_section t)

  -- the second count, read before the hall table
  pub count_read : (place count : ℕ) → place ≡ codes_place s → place ≤ length s → count ≡ word_at s (place - 4) → count ≡ code_count_of s
  count_read place count e h w =
      let q : place - 4 ≡ count_place s = omega (arith, codes_behind s) in
      w ∙ rw q (word_there s (count_place s) (omega (arith, codes_behind s)))

  -- the codes by their bytes
  pub codes_short : length s < codes_place s + code_count_of s → [] ≡ codes_part s
  unfolding codes_part
  codes_short h = rw (lt-leb (codes_place s + code_count_of s) (length s) h)

  pub codes_there_lem : codes_place s + code_count_of s ≤ length s → take (code_count_of s) (drop (codes_place s) s) ≡ codes_part s
  unfolding codes_part
  codes_there_lem h = rw (le-leb (codes_place s + code_count_of s) (length s) h)

  module _ (r : Sheet) (read : r ≡ sheet_of s) where
    pub codes_refused : (r.refusal ≡ 0 → ⊥) → [] ≡ codes_of s
    codes_refused h = rw (← read, ne_eqb r.refusal 0 h)

    pub codes_answered : r.refusal ≡ 0 → codes_part s ≡ codes_of s
    codes_answered h = rw (← read, eq-eqb r.refusal 0 h)

    pub packet_of_refused : (i : ℕ) → (r.refusal ≡ 0 → ⊥) → packet_refused r.refusal r.place ≡ packet_at s i
    packet_of_refused i h = rw (← read, ne_eqb r.refusal 0 h)

    pub packet_past : (i : ℕ) → r.refusal ≡ 0 → r.packets ≤ i → packet_refused bad_range 0 ≡ packet_at s i
    packet_past i h l = rw (← read, eq-eqb r.refusal 0 h, le-ltb i r.packets l)

    pub packet_answered : (i : ℕ) → r.refusal ≡ 0 → i < r.packets → packet_fields s i ≡ packet_at s i
    packet_answered i h l = rw (← read, eq-eqb r.refusal 0 h, lt-ltb i r.packets l)

  -- a packet by its bytes
  pub packet_short : (i : ℕ) → length s < codes_place s + code_count_of s + 4 + 10 * i + 10 → packet_refused bad_range 0 ≡ packet_fields s i
  unfolding packet_part packet_place
  packet_short i h = rw (lt-leb (codes_place s + code_count_of s + 4 + 10 * i + 10) (length s) h)

  pub packet_there_lem : (i at source dst : ℕ) → at ≡ codes_place s + code_count_of s + 4 + 10 * i → at + 10 ≤ length s
      → source ≡ value s at 4 → dst ≡ value s (at + 4) 4
      → ◌≡◌ {A = SheetPacket}
      (record { refusal = 0; place = 0; source = source; dst = dst; retry = get_or s (at + 8) 0; ttl = get_or s (at + 9) 0 })
      (packet_fields s i)
  unfolding packet_part packet_place
  packet_there_lem i at source dst e h es ed =
      rw (← e, le-leb (at + 10) (length s) h, es, ed, value_one s (at + 8), value_one s (at + 9))
