-- Laws of reading a format, by its fields: a whole sound field is passed, a whole wrong one is told at its first byte, one that
-- is not whole at the sheet's length; and one format behind another.
use mathlib.Core.Path.{◌≡◌, refl, sym, ◌∙◌, ap}
use mathlib.Core.Bool.{Bool, true, false}
use mathlib.Core.List.{List}
use Prim.Native.Nat.{ℕ, zero, suc, ◌+◌, ◌≤◌, ◌<◌}
use native.Mathlib.Numerals.{add-one}
use native.Mathlib.Omega.{arith}
use lib.Dec.{leb}
use lib.ListN.{length}
use borrow.Author.Tests.{leb-true, leb-false, le-leb, lt-leb}
use Rattle.combine.proofs.Tests.{cases}
use Rattle.hall.specs.Refusals.{bad_sheet}
use Rattle.sheet.specs.declared.Field.{Field}
use Rattle.sheet.specs.declared.Field.TheVariants.{Value, Refused}
use Rattle.words.specs.Words.{value}
use Rattle.sheet.specs.Formats.{Format, done, field, and_then, read}
use Rattle.sheet.specs.Sheets.{any, times}

-- the next place, or the refusal's
abbrev pub place_of : Field → ℕ
place_of (Value v next) = next
place_of (Refused number place) = place

-- what comes behind a read that was not refused
abbrev pub onward : Field → (ℕ → ℕ → Field) → Field
onward (Value v next) g = g v next
onward (Refused number place) g = Refused number place

pub read_done : (v : ℕ) (s : List ℕ) (at : ℕ) → read (done v) s at ≡ Value v at
unfolding read
read_done v s at = refl

module _ (s : List ℕ) (width : ℕ) (sound : ℕ → Bool) (number : ℕ) (behind : ℕ → Format) (at : ℕ) where
  pub read_sound : at + width ≤ length s → sound (value s at width) ≡ true
      → read (field width sound number behind) s at ≡ read (behind (value s at width)) s (at + width)
  unfolding read
  read_sound h e = rw (le-leb (at + width) (length s) h, e)

  pub read_wrong : at + width ≤ length s → sound (value s at width) ≡ false
      → read (field width sound number behind) s at ≡ Refused number at
  unfolding read
  read_wrong h e = rw (le-leb (at + width) (length s) h, e)

  pub read_cut : length s < at + width → read (field width sound number behind) s at ≡ Refused bad_sheet (length s)
  unfolding read
  read_cut h = rw (lt-leb (at + width) (length s) h)

  -- by the three ways that a field is read
  pub read_cases {ℓ} : {A : Type ℓ}
      → (at + width ≤ length s → sound (value s at width) ≡ true → A)
      → (at + width ≤ length s → sound (value s at width) ≡ false → A)
      → (length s < at + width → A) → A
  read_cases passed wrong cut =
      cases (leb (at + width) (length s))
      (λ h. cases (sound (value s at width)) (passed (leb-true (at + width) (length s) h)) (wrong (leb-true (at + width) (length s) h)))
      (λ h. cut (leb-false (at + width) (length s) h))

-- a format behind another is read where the first ends
pub read_then : (f : Format) (g : ℕ → Format) (s : List ℕ) (at : ℕ)
    → read (and_then f g) s at ≡ onward (read f s at) (λ v next. read (g v) s next)
unfolding and_then
read_then (done v) g s at = rw (read_done v s at)
read_then (field width sound number behind) g s at =
    read_cases s width sound number behind at
    (λ h e. read_sound s width sound number (λ v. and_then (behind v) g) at h e
    ∙ rw (read_sound s width sound number behind at h e) (read_then (behind (value s at width)) g s (at + width)))
    (λ h e. read_wrong s width sound number (λ v. and_then (behind v) g) at h e ∙ rw (read_wrong s width sound number behind at h e))
    (λ h. read_cut s width sound number (λ v. and_then (behind v) g) at h ∙ rw (read_cut s width sound number behind at h))

-- a format behind one that was read to its end, or refused
pub then_value : (f : Format) (g : ℕ → Format) (s : List ℕ) (at v next : ℕ) → read f s at ≡ Value v next
    → read (and_then f g) s at ≡ read (g v) s next
then_value f g s at v next e = read_then f g s at ∙ rw e

pub then_refused : (f : Format) (g : ℕ → Format) (s : List ℕ) (at number place : ℕ) → read f s at ≡ Refused number place
    → read (and_then f g) s at ≡ Refused number place
then_refused f g s at number place e = read_then f g s at ∙ rw e

-- no read goes back, or past the sheet's end
pub within : (f : Format) (s : List ℕ) (at : ℕ) → at ≤ length s → (at ≤ place_of (read f s at)) × (place_of (read f s at) ≤ length s)
within (done v) s at h = rw (read_done v s at) (omega arith, h)
within (field width sound number behind) s at h =
    read_cases s width sound number behind at
    (λ l e. let w = within (behind (value s at width)) s (at + width) l in
    rw (read_sound s width sound number behind at l e) (omega (arith, w.0), w.1))
    (λ l e. rw (read_wrong s width sound number behind at l e) (omega arith, h))
    (λ l. rw (read_cut s width sound number behind at l) (h, omega arith))

-- a field of any value, and the same field with a test
module _ (s : List ℕ) (width at v next : ℕ) (r : Field) (found : r ≡ read (any width) s at) where
  pub any_value : r ≡ Value v next → (v ≡ value s at width) × (next ≡ at + width) × (at + width ≤ length s)
  any_value e =
      read_cases s width (λ x. true) 0 done at
      (λ h t. let q : Value v next ≡ Value (value s at width) (at + width) =
      sym e ∙ found ∙ read_sound s width (λ x. true) 0 done at h refl ∙ read_done (value s at width) s (at + width) in
      ((cc q), (cc q), h))
      (λ h t. let z : ◌≡◌ {A = ℕ} 0 1 = cc t in absurd (omega arith))
      (λ h. let q : Value v next ≡ Refused bad_sheet (length s) = sym e ∙ found ∙ read_cut s width (λ x. true) 0 done at h in
      let z : ◌≡◌ {A = ℕ} 0 1 = cc q in absurd (omega arith))

  pub passed : (sound : ℕ → Bool) (number : ℕ) → r ≡ Value v next → sound v ≡ true
      → Value v next ≡ read (field width sound number done) s at
  passed sound number e t =
      let k = any_value e in
      let u : sound (value s at width) ≡ true = ap sound (sym k.0) ∙ t in
      let q : Value v next ≡ Value (value s at width) (at + width) = rw (k.0, k.1) in
      q ∙ sym (read_sound s width sound number done at k.2 u ∙ read_done (value s at width) s (at + width))

  pub failed : (sound : ℕ → Bool) (number : ℕ) → r ≡ Value v next → sound v ≡ false
      → Refused number at ≡ read (field width sound number done) s at
  failed sound number e t =
      let k = any_value e in
      let u : sound (value s at width) ≡ false = ap sound (sym k.0) ∙ t in
      sym (read_wrong s width sound number done at k.2 u)

-- a field that is not whole, whatever its test
pub missed : (s : List ℕ) (width at number place : ℕ) (r : Field) → r ≡ read (any width) s at → r ≡ Refused number place
    → (sound : ℕ → Bool) (other : ℕ) → r ≡ read (field width sound other done) s at
missed s width at number place r found e sound other =
    read_cases s width (λ x. true) 0 done at
    (λ h t. let q : Refused number place ≡ Value (value s at width) (at + width) =
    sym e ∙ found ∙ read_sound s width (λ x. true) 0 done at h refl ∙ read_done (value s at width) s (at + width) in
    let z : ◌≡◌ {A = ℕ} 0 1 = cc q in absurd (omega arith))
    (λ h t. let z : ◌≡◌ {A = ℕ} 0 1 = cc t in absurd (omega arith))
    (λ h. found ∙ read_cut s width (λ x. true) 0 done at h ∙ sym (read_cut s width sound other done at h))

-- a field of any value: there, or cut
pub any_there : (s : List ℕ) (width at : ℕ) → at + width ≤ length s → read (any width) s at ≡ Value (value s at width) (at + width)
any_there s width at h = read_sound s width (λ x. true) 0 done at h refl ∙ read_done (value s at width) s (at + width)

pub any_cut : (s : List ℕ) (width at : ℕ) → length s < at + width → read (any width) s at ≡ Refused bad_sheet (length s)
any_cut s width at h = read_cut s width (λ x. true) 0 done at h

-- a format no more times; and once more, read to its end or refused
pub times_none : (f : Format) (s : List ℕ) (at : ℕ) → Value 0 at ≡ read (times 0 f) s at
unfolding times
times_none f s at = sym (read_done 0 s at)

pub times_more : (f : Format) (s : List ℕ) (at left more v next : ℕ) → left ≡ more + 1 → read f s at ≡ Value v next
    → read (times left f) s at ≡ read (times more f) s next
unfolding times
times_more f s at left more v next h e = rw (h, add-one more) (then_value f (λ x. times more f) s at v next e)

pub times_stop : (f : Format) (s : List ℕ) (at left number place : ℕ) → 0 < left → read f s at ≡ Refused number place
    → read (times left f) s at ≡ Refused number place
unfolding times
times_stop f s at zero number place h e = absurd (omega arith)
times_stop f s at (suc left) number place h e = then_refused f (λ x. times left f) s at number place e

-- the next place is within the sheet
pub next_within : (f : Format) (s : List ℕ) (at v next : ℕ) (r : Field) → r ≡ read f s at → r ≡ Value v next → at ≤ length s → next ≤ length s
next_within f s at v next r found e h =
    let w = (within f s at h).1 in
    let q : place_of (read f s at) ≡ next = ap place_of (sym found ∙ e) in
    omega arith

-- a field that was read to its end: it was whole and sound, and its value was read
pub field_read : (width : ℕ) (sound : ℕ → Bool) (number : ℕ) (s : List ℕ) (at v next : ℕ)
    → read (field width sound number done) s at ≡ Value v next
    → (at + width ≤ length s) × (sound v ≡ true) × (v ≡ value s at width) × (next ≡ at + width)
field_read width sound number s at v next e =
    read_cases s width sound number done at
    (λ h t. let q : Value v next ≡ Value (value s at width) (at + width) =
    sym e ∙ read_sound s width sound number done at h t ∙ read_done (value s at width) s (at + width) in
    let x : v ≡ value s at width = cc q in
    (h, ap sound x ∙ t, x, (cc q)))
    (λ h t. let q : Value v next ≡ Refused number at = sym e ∙ read_wrong s width sound number done at h t in
    let z : ◌≡◌ {A = ℕ} 0 1 = cc q in absurd (omega arith))
    (λ h. let q : Value v next ≡ Refused bad_sheet (length s) = sym e ∙ read_cut s width sound number done at h in
    let z : ◌≡◌ {A = ℕ} 0 1 = cc q in absurd (omega arith))

-- a whole and sound field by itself
pub field_sound : (width : ℕ) (sound : ℕ → Bool) (number : ℕ) (s : List ℕ) (at : ℕ) → at + width ≤ length s → sound (value s at width) ≡ true
    → read (field width sound number done) s at ≡ Value (value s at width) (at + width)
field_sound width sound number s at h t = read_sound s width sound number done at h t ∙ read_done (value s at width) s (at + width)

-- a field, by whether it is whole and sound
pub ruleset field_by_cases = (missed, failed, passed)
