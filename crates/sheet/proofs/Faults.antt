-- The first fault decides: what is read up to it stands as it is, and what stands behind it is not looked at.
use mathlib.Core.Path.{◌≡◌, refl, sym, ◌∙◌, ap}
use mathlib.Core.Bool.{Bool, true, false}
use mathlib.Core.List.{List}
use Prim.Native.Nat.{ℕ, zero, suc, ◌+◌, ◌≤◌, ◌<◌}
use native.Mathlib.Omega.{arith}
use lib.Dec.{ltb}
use lib.ListN.{length, get_or, take, length-take}
use lib.Seq.{get_or-take}
use borrow.Author.Tests.{ltb-true, ltb-false}
use Rattle.combine.proofs.Tests.{cases}
use Rattle.hall.specs.Refusals.{bad_sheet}
use Rattle.sheet.specs.declared.Field.{Field}
use Rattle.sheet.specs.declared.Field.TheVariants.{Value, Refused}
use Rattle.words.specs.Words.{value}
use Rattle.sheet.specs.Formats.{Format, done, field, read}
use Rattle.sheet.specs.Sheets.{longest, night_sheet}
use Rattle.sheet.specs.Answers.{refused_at, sheet_of}
use Rattle.sheet.specs.Faults.{Reached, here, behind, First, wrong, cut, ended}
use Rattle.sheet.proofs.Reading.{place_of, read_done, read_sound, read_wrong, read_cut, read_cases, within}
use Rattle.sheet.proofs.Sheets.{sheet_long, sheet_refused, sheet_surplus, sheet_accepted}

-- reading goes on from where it has got to
pub reached_read : {s : List ℕ} {f g : Format} {a p : ℕ} → Reached s f a g p → read f s a ≡ read g s p
reached_read here = refl
reached_read {s = s} (behind {width} {number} {a} {p} {sound} {next} {g} h e r) =
    read_sound s width sound number next a h e ∙ reached_read r

pub reached_up : {s : List ℕ} {f g : Format} {a p : ℕ} → Reached s f a g p → a ≤ p
reached_up here = omega arith
reached_up (behind h e r) = omega (arith, reached_up r)

-- one of three ends every reading
further : {s : List ℕ} {width number a : ℕ} {sound : ℕ → Bool} {next : ℕ → Format}
    → a + width ≤ length s → sound (value s a width) ≡ true → First s (next (value s a width)) (a + width)
    → First s (field width sound number next) a
further h e (wrong r l t) = wrong (behind h e r) l t
further h e (cut r l) = cut (behind h e r) l
further h e (ended r) = ended (behind h e r)

pub first : (f : Format) (s : List ℕ) (a : ℕ) → First s f a
first (done v) s a = ended here
first (field width sound number next) s a =
    read_cases s width sound number next a
    (λ h e. further h e (first (next (value s a width)) s (a + width)))
    (λ h e. wrong here h e)
    (λ h. cut here h)

-- a number in bytes that agree
value_alike : (s t : List ℕ) (at width p : ℕ) → at + width ≤ p → ((i : ℕ) → i < p → get_or s i 0 ≡ get_or t i 0) → value s at width ≡ value t at width
unfolding value
value_alike s t at zero p h e = refl
value_alike s t at (suc width) p h e = rw (value_alike s t at width p (omega arith) e, e (at + width) (omega arith))

-- what is read up to a place, of every sheet that agrees so far
pub reached_alike : {s : List ℕ} {f g : Format} {a p : ℕ} (t : List ℕ) → Reached s f a g p
    → ((i : ℕ) → i < p → get_or s i 0 ≡ get_or t i 0) → p ≤ length t → Reached t f a g p
reached_alike t here e l = here
reached_alike {s = s} t (behind {width} {number} {a} {p} {sound} {next} {g} h x r) e l =
    let u = reached_up r in
    let v = value_alike s t a width p u e in
    let more : Reached t (next (value s a width)) (a + width) g p = reached_alike t r e l in
    behind {width = width} {number = number} {a = a} {p = p} {sound = sound} {next = next} {g = g} (omega arith) (rw (← v) x) (rw (← v) more)

-- two sheets with the same first bytes
take_long : (s t : List ℕ) (n : ℕ) → take n t ≡ take n s → n ≤ length s → n ≤ length t
take_long s t n e h = omega (arith, ap length e, length-take n t, length-take n s)

take_alike : (s t : List ℕ) (n i : ℕ) → take n t ≡ take n s → i < n → get_or s i 0 ≡ get_or t i 0
take_alike s t n i e h = sym (get_or-take n s i 0 h) ∙ ap (λ (l : List ℕ). get_or l i 0) (sym e) ∙ get_or-take n t i 0 h

module _ (s : List ℕ) (short : length s ≤ longest) where
  module _ {width number p : ℕ} {sound : ℕ → Bool} {next : ℕ → Format} (r : Reached s night_sheet 0 (field width sound number next) p) where
    -- the first field that is whole and wrong is told, at its first byte
    pub wrong_decides : p + width ≤ length s → sound (value s p width) ≡ false → sheet_of s ≡ refused_at number p
    wrong_decides h e = sheet_refused s short number p (reached_read r ∙ read_wrong s width sound number next p h e)

    -- the first field that is not whole is a cut, told at the sheet's length
    pub cut_decides : length s < p + width → sheet_of s ≡ refused_at bad_sheet (length s)
    cut_decides h = sheet_refused s short bad_sheet (length s) (reached_read r ∙ read_cut s width sound number next p h)

    -- a refusal at a field depends only on the bytes up to that field's end
    pub wrong_depends : p + width ≤ length s → sound (value s p width) ≡ false
        → (t : List ℕ) → length t ≤ longest → take (p + width) t ≡ take (p + width) s → sheet_of t ≡ refused_at number p
    wrong_depends h e t l same =
        let long = take_long s t (p + width) same h in
        let there : Reached t night_sheet 0 (field width sound number next) p =
        reached_alike t r (λ i b. take_alike s t (p + width) i same (omega arith)) (omega arith) in
        let v = value_alike s t p width (p + width) (omega arith) (λ i b. take_alike s t (p + width) i same b) in
        sheet_refused t l number p (reached_read there ∙ read_wrong t width sound number next p long (ap sound (sym v) ∙ e))

  module _ {v p : ℕ} (r : Reached s night_sheet 0 (done v) p) where
    whole : read night_sheet s 0 ≡ Value v p
    whole = reached_read r ∙ read_done v s p

    -- bytes behind the last field are a surplus, told at the first of them
    pub surplus_decides : p < length s → sheet_of s ≡ refused_at bad_sheet p
    surplus_decides h = sheet_surplus s short v p whole h

    pub surplus_depends : p < length s → (t : List ℕ) → length t ≤ longest → take (p + 1) t ≡ take (p + 1) s → sheet_of t ≡ refused_at bad_sheet p
    surplus_depends h t l same =
        let long = take_long s t (p + 1) same (omega arith) in
        let there : Reached t night_sheet 0 (done v) p = reached_alike t r (λ i b. take_alike s t (p + 1) i same (omega arith)) (omega arith) in
        sheet_surplus t l v p (reached_read there ∙ read_done v t p) (omega arith)

    -- no fault at all
    pub all_decides : p ≡ length s → (sheet_of s).refusal ≡ 0
    all_decides h = ap (λ x. x.refusal) (sheet_accepted s short v p whole (omega arith))

-- a place is within the sheet, or 65,536 where it is longer
pub place_within : (s : List ℕ) → (sheet_of s).place ≤ length s
place_within s =
    cases (ltb longest (length s))
    (λ q. let h = ltb-true longest (length s) q in omega (arith, ap (λ x. x.place) (sheet_long s h)))
    (λ q. let h = ltb-false longest (length s) q in by s h (read night_sheet s 0) refl)
  where
    by : (s : List ℕ) → length s ≤ longest → (r : Field) → read night_sheet s 0 ≡ r → (sheet_of s).place ≤ length s
    by s h (Refused number place) e =
        let w = (within night_sheet s 0 (omega arith)).1 in
        omega (arith, ap place_of e, ap (λ x. x.place) (sheet_refused s h number place e))
    by s h (Value v end) e =
        cases (ltb end (length s))
        (λ q. omega (arith, ltb-true end (length s) q, ap (λ x. x.place) (sheet_surplus s h v end e (ltb-true end (length s) q))))
        (λ q. omega (arith, ap (λ x. x.place) (sheet_accepted s h v end e (ltb-false end (length s) q))))
