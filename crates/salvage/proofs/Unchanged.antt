-- A sound sheet is rebuilt to the same bytes, with nothing listed.
use mathlib.Core.Path.{◌≡◌, refl, sym, ◌∙◌, ap}
use mathlib.Core.Bool.{Bool, true, false, not}
use mathlib.Core.List.{List, [], map, append-nil}
use Prim.Native.Nat.{ℕ, zero, suc, ◌+◌, ◌-◌, ◌*◌, ◌<◌}
use native.Mathlib.Omega.{arith}
use lib.ListN.{length, get_or, drop, length-drop, take}
use lib.Seq.{get_or-take, get_or-drop, length-take-le}
use borrow.Author.Tests.{lt-ltb, eq-eqb}
use Rattle.hall.specs.Halls.{servers}
use Rattle.ports.specs.Codes.{known, table_length}
use Rattle.words.specs.Words.{value, word_at, Bytes}
use Rattle.words.proofs.Words.{value_one, word_there}
use Rattle.sheet.specs.Sheets.{packets}
use Rattle.sheet.specs.Answers.{codes_place, code_count_of, hall_in, sheet_of, packet_place}
use Rattle.sheet.specs.Accepted.{packet_count_of}
use Rattle.sheet.proofs.Accepted.{packet_sound}
use Rattle.sheet.proofs.Held.{accepted_holds}
use Rattle.sheetparts.specs.declared.SheetPacket.{SheetPacket}
use Rattle.sheetparts.specs.Parts.{packet_part, packet_fields}
use Rattle.writing.proofs.Relaid.{relaid}
use Rattle.laying.proofs.Lists.{every_at, same_mapped}
use Rattle.writing.specs.Writing.{listed}
use Rattle.salvage.specs.Salvage.{HeadHeld, mended, codes_there, codes_mended, packet_there, begun, keeps, those, kept, left_out, rebuilt, changed, change_at, changes}

-- a sound sheet: each code is as it was, each packet is kept, and nothing is listed
known_same : (c : ℕ) → known c ≡ true → mended c ≡ c
unfolding mended
known_same c t = rw t

those_all : (p : ℕ → Bool) (f q : ℕ → SheetPacket) (i so-many : ℕ) → ((j : ℕ) → j < i + so-many → (p j ≡ true) × (f j ≡ q j))
    → map f (those p i so-many) ≡ listed q i so-many
unfolding those listed
those_all p f q i zero h = refl
those_all p f q i (suc so-many) h =
    let e = h i (omega arith) in
    rw (e.0, e.1, those_all p f q (suc i) so-many (λ j b. h j (omega arith)))

those_none : (p : ℕ → Bool) (i so-many : ℕ) → ((j : ℕ) → j < i + so-many → p j ≡ false) → those p i so-many ≡ []
unfolding those
those_none p i zero h = refl
those_none p i (suc so-many) h = rw (h i (omega arith)) (those_none p (suc i) so-many (λ j b. h j (omega arith)))

module _ (s : List ℕ) (b : Bytes s) (ok : (sheet_of s).refusal ≡ 0) where
  long : length s ≡ codes_place s + table_length (hall_in s) + 4 + 10 * packet_count_of s
  unfolding packet_place
  long = let a = accepted_holds s ok in omega (arith, a.whole, a.second)

  pub sound_head : HeadHeld s
  sound_head =
      let a = accepted_holds s ok in
      let l = long in
      record { first = a.first; hall = a.hall; second = a.second; there = omega arith }

  same_codes : codes_mended (hall_in s) s ≡ take (code_count_of s) (drop (codes_place s) s)
  unfolding codes_mended
  same_codes =
      let a = accepted_holds s ok in
      let l = long in
      let n : length (codes_there (hall_in s) s) ≡ table_length (hall_in s) = length-take-le (table_length (hall_in s)) (drop (codes_place s) s) (omega (arith, length-drop (codes_place s) s)) in
      let z : table_length (hall_in s) - length (codes_there (hall_in s) s) ≡ 0 = omega arith in
      rw (
        z,
        same_mapped mended (codes_there (hall_in s) s) (every_at (λ c. mended c ≡ c) 0 (codes_there (hall_in s) s) (λ i h.
            let w : i < table_length (hall_in s) = omega arith in
            let q : get_or (codes_there (hall_in s) s) i 0 ≡ value s (codes_place s + i) 1 =
            get_or-take (table_length (hall_in s)) (drop (codes_place s) s) i 0 w ∙ get_or-drop (codes_place s) s i 0 ∙ sym (value_one s (codes_place s + i)) in
            rw q (known_same (value s (codes_place s + i) 1) (a.codes i (omega (arith, a.second)))))),
      )
      (append-nil (codes_there (hall_in s) s) ∙ ap (λ (n : ℕ). take n (drop (codes_place s) s)) (sym a.second))

  all_begun : begun (hall_in s) s ≡ packet_count_of s
  unfolding begun packet_count_of
  all_begun =
      let a = accepted_holds s ok in
      let l : length s ≡ codes_place s + table_length (hall_in s) + 4 + 10 * value s (codes_place s + code_count_of s) 4 = unfold packet_count_of in long in
      let w : word_at s (codes_place s + table_length (hall_in s)) ≡ value s (codes_place s + code_count_of s) 4 =
      word_there s (codes_place s + table_length (hall_in s)) (omega arith) ∙ rw a.second in
      rw w (omega arith)

  all_kept : (i : ℕ) → i < packet_count_of s → keeps (hall_in s) s i ≡ true
  unfolding keeps packet_place
  all_kept i h =
      let a = accepted_holds s ok in
      let l = long in
      let f = rw a.second at (a.packets i h) in
      rw (packet_sound (servers (hall_in s)) s (packet_there (hall_in s) s i) f.source f.dst f.retry (omega arith))

  same_packets : kept (hall_in s) s ≡ listed (packet_fields s) 0 (packet_count_of s)
  unfolding kept packet_place
  same_packets =
      let a = accepted_holds s ok in
      rw all_begun (those_all (keeps (hall_in s) s) (λ i. packet_part s (packet_there (hall_in s) s i)) (packet_fields s) 0 (packet_count_of s) (λ i h.
      (all_kept i (omega arith), rw a.second)))

  pub sound_unchanged : rebuilt (hall_in s) s ≡ s
  sound_unchanged = rw (same_codes, same_packets) (relaid s b ok)

  pub sound_no_changes : changes (hall_in s) s ≡ []
  unfolding changes
  sound_no_changes =
      let l = long in
      ap (map (change_at (hall_in s) s)) (those_none (changed (hall_in s) s) (codes_place s) (table_length (hall_in s) + 4) (λ i h. unfold changed in
      rw (sound_unchanged, lt-ltb i (length s) (omega arith), eq-eqb (get_or s i 0) (get_or s i 0) refl)))

  pub sound_none_left : left_out (hall_in s) s ≡ []
  unfolding left_out
  sound_none_left =
      rw all_begun (those_none (λ i. not (keeps (hall_in s) s i)) 0 (packet_count_of s) (λ i h. rw (all_kept i (omega arith))))
