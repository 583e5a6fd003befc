-- Laws of the first section: it is read to its end exactly where it is sound, and what stands behind it is then read by the hall that it names.
use mathlib.Core.Path.{◌≡◌, refl, sym, ◌∙◌}
use mathlib.Core.Bool.{true, false}
use mathlib.Core.List.{List}
use Prim.Native.Nat.{ℕ, ◌≤◌, ◌<◌}
use native.Mathlib.Omega.{arith}
use lib.Dec.{eqb, leb, ltb}
use lib.ListN.{length, get_or}
use borrow.Author.Tests.{eqb-true, eqb-false, ne_eqb, eq-eqb, leb-false, le-leb, ltb-true, lt-ltb}
use Rattle.combine.specs.Tests.{both, either}
use Rattle.combine.proofs.Tests.{cases, never, both_ways, both_left, both_right, either_cases}
use Rattle.hall.specs.declared.Hall.{Hall}
use Rattle.hall.specs.Halls.{hall_of, capacity, n_fits, k_fits, b_fits, count_fits, is_full, valid}
use Rattle.hall.specs.Refusals.{bad_hall, bad_length}
use Rattle.hall.specs.Answers.{racks_of}
use Rattle.hall.proofs.Racks.{racks_known, capacity_low, count_most, full_fits}
use Rattle.words.specs.Words.{value}
use Rattle.words.proofs.Words.{value_one}
use Rattle.sheet.specs.declared.Field.TheVariants.{Value}
use Rattle.sheet.specs.Formats.{Format, read}
use Rattle.sheet.specs.Sheets.{full_section, part_section, section_of, number_n, number_k, number_b, number_count, fitted, hall_then}
use Rattle.sheet.specs.Answers.{count_place, fitted_in, hall_in}
use Rattle.sheet.specs.Accepted.{Head}
use Rattle.sheet.proofs.Reading.{read_done, field_read, field_sound, then_value}
use Rattle.sheet.proofs.Accepted.{then_read, field_then, then_sound}
use Rattle.sheet.proofs.Places.{section_full, section_part, section_sound, count_low}

-- a count that a section of 7 bytes may carry is one that fits, and not the full one
module _ (n k v : ℕ) where
  part_fits : both (leb 2 k) (ltb v (capacity n k)) ≡ true → count_fits n k v ≡ true
  unfolding count_fits
  part_fits e =
      let l = ltb-true v (capacity n k) (both_right (leb 2 k) (ltb v (capacity n k)) e) in
      rw (both_left (leb 2 k) (ltb v (capacity n k)) e) (le-leb v (capacity n k) (omega arith))

  part_apart : both (leb 2 k) (ltb v (capacity n k)) ≡ true → eqb v (capacity n k) ≡ false
  part_apart e =
      let l = ltb-true v (capacity n k) (both_right (leb 2 k) (ltb v (capacity n k)) e) in
      ne_eqb v (capacity n k) (λ z. omega arith)

  fits_part : count_fits n k v ≡ true → eqb v (capacity n k) ≡ false → both (leb 2 k) (ltb v (capacity n k)) ≡ true
  unfolding count_fits
  fits_part e ne =
      let m = count_most n k v e in
      let d = eqb-false v (capacity n k) ne in
      let l : v < capacity n k = omega arith in
      cases (leb 2 k)
      (λ q. rw q (lt-ltb v (capacity n k) l))
      (λ q. let w : eqb v 1 ≡ true = rw q at e in
      absurd (omega (arith, eqb-true v 1 w, capacity_low n k (leb-false 2 k q))))

  -- so a count fits where it is the full one, or such a count
  pub fits_either : either (eqb v (capacity n k)) (both (leb 2 k) (ltb v (capacity n k))) ≡ count_fits n k v
  fits_either =
      both_ways (either (eqb v (capacity n k)) (both (leb 2 k) (ltb v (capacity n k)))) (count_fits n k v)
      (λ e. either_cases (eqb v (capacity n k)) (both (leb 2 k) (ltb v (capacity n k))) e
      (λ q. rw (eqb-true v (capacity n k) q) (full_fits n k))
      (λ q. part_fits q))
      (λ e. cases (eqb v (capacity n k)) (λ q. rw q) (λ q. rw q (fits_part e q)))

-- what is read for the DCell1s fitted, by the first count
module _ (s : List ℕ) (first n k at : ℕ) where
  pub fitted_carried : first ≡ part_section → read (number_count n k) s at ≡ read (fitted first n k) s at
  unfolding fitted
  fitted_carried e = rw (eq-eqb first part_section e)

  pub fitted_all : (first ≡ part_section → ⊥) → Value (capacity n k) at ≡ read (fitted first n k) s at
  unfolding fitted
  fitted_all e = rw (ne_eqb first part_section e) (sym (read_done (capacity n k) s at))

-- the DCell1s that were read fit
pub fitted_fits : (s : List ℕ) (first n k at v next : ℕ) → read (fitted first n k) s at ≡ Value v next → count_fits n k v ≡ true
unfolding fitted
fitted_fits s first n k at v next e =
    cases (eqb first part_section)
    (λ q. part_fits n k v (field_read 4 (λ x. both (leb 2 k) (ltb x (capacity n k))) bad_hall s at v next (rw q at e)).1)
    (λ q. let d : Value (capacity n k) at ≡ Value v next = sym (read_done (capacity n k) s at) ∙ (rw q at e) in
    let z : capacity n k ≡ v = cc d in
    rw (← z) (full_fits n k))

-- a hall whose numbers were read is valid
pub valid_read : (s : List ℕ) (n k b count first at_n at_k at_b at_c next-n next-k next-b next-c : ℕ)
    → read number_n s at_n ≡ Value n next-n → read (number_k n) s at_k ≡ Value k next-k → read (number_b k) s at_b ≡ Value b next-b
    → read (fitted first n k) s at_c ≡ Value count next-c → valid (hall_of n k b count) ≡ true
unfolding valid
valid_read s n k b count first at_n at_k at_b at_c next-n next-k next-b next-c en ek eb ec =
    let fn = (field_read 1 n_fits bad_hall s at_n n next-n en).1 in
    let fk = (field_read 1 (k_fits n) bad_hall s at_k k next-k ek).1 in
    let fb = (field_read 1 (b_fits k) bad_hall s at_b b next-b eb).1 in
    rw (fn, fk, fb) (fitted_fits s first n k at_c count next-c ec)

-- the numbers of a valid hall
pub hall_fields : (h : Hall) → valid h ≡ true
    → (n_fits h.n ≡ true) × (k_fits h.n h.k ≡ true) × (b_fits h.k h.b ≡ true) × (count_fits h.n h.k h.count ≡ true)
unfolding valid
hall_fields h e =
    let C = count_fits h.n h.k h.count in
    let kbc = both_right (n_fits h.n) (both (k_fits h.n h.k) (both (b_fits h.k h.b) C)) e in
    let bc = both_right (k_fits h.n h.k) (both (b_fits h.k h.b) C) kbc in (
      both_left (n_fits h.n) (both (k_fits h.n h.k) (both (b_fits h.k h.b) C)) e,
      both_left (k_fits h.n h.k) (both (b_fits h.k h.b) C) kbc,
      both_left (b_fits h.k h.b) C bc,
      both_right (b_fits h.k h.b) C bc,
    )

module _ (s : List ℕ) where
  -- the hall that a sheet's bytes name, by its first count
  pub hall_part : value s 0 4 ≡ part_section → hall_of (get_or s 4 0) (get_or s 5 0) (get_or s 6 0) (value s 7 4) ≡ hall_in s
  unfolding fitted_in
  hall_part e = rw (eq-eqb (value s 0 4) part_section e, value_one s 4, value_one s 5, value_one s 6)

  pub hall_full : Head s → (value s 0 4 ≡ part_section → ⊥) → (r : ℕ) → r ≡ racks_of (get_or s 4 0) (get_or s 5 0)
      → hall_of (get_or s 4 0) (get_or s 5 0) (get_or s 6 0) r ≡ hall_in s
  unfolding fitted_in
  hall_full head e r d =
      let f = hall_fields (hall_in s) head.hall in
      let q = racks_known (value s 4 1) (value s 5 1) r f.0 f.1 (rw (value_one s 4, value_one s 5) d) in
      rw (ne_eqb (value s 0 4) part_section e, q, value_one s 4, value_one s 5, value_one s 6)

  -- a section of 7 bytes is there
  pub part_there : Head s → value s 0 4 ≡ part_section → 11 ≤ length s
  unfolding count_place
  part_there head e = rw (eq-eqb (value s 0 4) part_section e) at head.there

  -- what was read for the DCell1s fitted, behind a first count that is 3 or 7
  record Fitted (v next : ℕ) : Type 0 where
    count : v ≡ fitted_in s
    place : next ≡ count_place s
    there : count_place s ≤ length s
    first : value s 0 4 ≡ section_of (hall_in s)

  fitted_read : 7 ≤ length s → either (eqb (value s 0 4) full_section) (eqb (value s 0 4) part_section) ≡ true
      → (v next : ℕ) → read (fitted (value s 0 4) (value s 4 1) (value s 5 1)) s 7 ≡ Value v next → Fitted v next
  unfolding fitted fitted_in count_place section_of is_full
  fitted_read there first v next e =
      let n = value s 4 1 in
      let k = value s 5 1 in
      cases (eqb (value s 0 4) part_section)
      (λ q. let f = field_read 4 (λ x. both (leb 2 k) (ltb x (capacity n k))) bad_hall s 7 v next (rw q at e) in
      let a : eqb (value s 7 4) (capacity n k) ≡ false = part_apart n k (value s 7 4) (rw (← f.2) f.1) in
      record { count = rw q f.2; place = rw q f.3; there = rw q f.0; first = rw (q, a) (eqb-true (value s 0 4) part_section q) })
      (λ q. let d : Value (capacity n k) 7 ≡ Value v next = sym (read_done (capacity n k) s 7) ∙ (rw q at e) in
      let o : value s 0 4 ≡ full_section = either_cases (eqb (value s 0 4) full_section) (eqb (value s 0 4) part_section) first
      (λ t. eqb-true (value s 0 4) full_section t) (λ t. never t q) in
      record {
        count = rw q (sym (cc d));
        place = rw q (sym (cc d));
        there = rw q there;
        first = rw (q, eq-eqb (capacity n k) (capacity n k) refl) o;
      })

  -- a sound first section is passed
  module _ (head : Head s) where
    -- its first count tells whether the hall is full
    pub first_full : is_full (hall_in s) ≡ true → eqb (value s 0 4) part_section ≡ false
    first_full q = rw (head.first, section_full (hall_in s) q)

    pub first_part : is_full (hall_in s) ≡ false → eqb (value s 0 4) part_section ≡ true
    first_part q = rw (head.first, section_part (hall_in s) q)

    fitted_sound : read (fitted (value s 0 4) (value s 4 1) (value s 5 1)) s 7 ≡ Value (fitted_in s) (count_place s)
    unfolding fitted fitted_in count_place is_full
    fitted_sound =
        let n = value s 4 1 in
        let k = value s 5 1 in
        cases (is_full (hall_in s))
        (λ q. rw (first_full q) (read_done (capacity n k) s 7))
        (λ q. let o = first_part q in
        let there : 11 ≤ length s = rw o at head.there in
        let fits : count_fits n k (value s 7 4) ≡ true = rw o at (hall_fields (hall_in s) head.hall).3 in
        let apart : eqb (value s 7 4) (capacity n k) ≡ false = rw o at q in
        rw o (field_sound 4 (λ x. both (leb 2 k) (ltb x (capacity n k))) bad_hall s 7 there (fits_part n k (value s 7 4) fits apart)))

module _ (behind : Hall → Format) (s : List ℕ) where
  -- what is behind the first section was read by the hall that it names
  pub hall_read : (v end : ℕ) → read (hall_then behind) s 0 ≡ Value v end → Head s × (read (behind (hall_in s)) s (count_place s) ≡ Value v end)
  unfolding valid
  hall_read v end e =
      let a = field_then 4 (λ x. either (eqb x full_section) (eqb x part_section)) bad_length _ s 0 v end e in
      let n = field_then 1 n_fits bad_hall _ s 4 v end a.2 in
      let k = field_then 1 (k_fits (value s 4 1)) bad_hall _ s 5 v end n.2 in
      let b = field_then 1 (b_fits (value s 5 1)) bad_hall _ s 6 v end k.2 in
      let c = then_read (fitted (value s 0 4) (value s 4 1) (value s 5 1)) _ s 7 v end b.2 in
      let f = fitted_read s b.0 a.1 c.0 c.1 c.2 in
      let fits : count_fits (value s 4 1) (value s 5 1) (fitted_in s) ≡ true =
      rw f.count at (fitted_fits s (value s 0 4) (value s 4 1) (value s 5 1) 7 c.0 c.1 c.2) in
      (record { first = f.first; hall = rw (n.1, k.1, b.1) fits; there = f.there }, rw (← f.count, ← f.place) c.3)

  -- and the other way round
  pub hall_sound : Head s → read (hall_then behind) s 0 ≡ read (behind (hall_in s)) s (count_place s)
  hall_sound head =
      let f = hall_fields (hall_in s) head.hall in
      let l : 7 ≤ length s = omega (arith, head.there, count_low s) in
      then_sound 4 (λ x. either (eqb x full_section) (eqb x part_section)) bad_length _ s 0 (omega arith) (rw head.first (section_sound (hall_in s)))
      ∙ then_sound 1 n_fits bad_hall _ s 4 (omega arith) f.0
      ∙ then_sound 1 (k_fits (value s 4 1)) bad_hall _ s 5 (omega arith) f.1
      ∙ then_sound 1 (b_fits (value s 5 1)) bad_hall _ s 6 (omega arith) f.2
      ∙ then_value (fitted (value s 0 4) (value s 4 1) (value s 5 1)) _ s 7 (fitted_in s) (count_place s) (fitted_sound s head)
