-- What the salvage answers, and its promises by that answer.
use mathlib.Core.Path.{◌≡◌, refl, sym, ◌∙◌, ap}
use mathlib.Core.Bool.{true}
use mathlib.Core.List.{List}
use Prim.Native.Nat.{ℕ, ◌≤◌, ◌<◌}
use native.Mathlib.Omega.{arith}
use lib.Dec.{ltb}
use lib.ListN.{length}
use borrow.Author.Tests.{ltb-true, ltb-false, lt-ltb, le-ltb}
use Rattle.combine.proofs.Tests.{cases}
use Rattle.ports.specs.Codes.{up}
use Rattle.sheet.specs.declared.Field.{Field}
use Rattle.sheet.specs.declared.Field.TheVariants.{Value, Refused}
use Rattle.sheet.specs.Formats.{read}
use Rattle.sheet.specs.Sheets.{longest}
use Rattle.sheet.specs.Answers.{hall_in, sheet_of}
use Rattle.sheet.proofs.Sheets.{sheet_long, sheet_refused}
use Rattle.sheet.proofs.Held.{accepted_holds}
use Rattle.sheetparts.specs.Parts.{codes_of}
use Rattle.words.specs.Words.{Bytes}
use Rattle.salvage.specs.Salvage.{HeadHeld, head_sheet, codes_there, rebuilt, salvaged_as, salvage_says}
use Rattle.salvage.proofs.Rebuilt.{head_held, head_refused, rebuilt_accepted, rebuilt_codes, no_new_up}
use Rattle.salvage.proofs.Unchanged.{sound_head, sound_unchanged}

-- what the salvage answers: of a sound sheet what the reader does, and the reader's own refusal of a first section or second count
module _ (s : List ℕ) (short : length s ≤ longest) where
  said_by : salvage_says s ≡ salvaged_as s (read head_sheet s 0)
  unfolding salvage_says
  said_by = rw (le-ltb longest (length s) short)

  pub salvage_refused : (number place : ℕ) → read head_sheet s 0 ≡ Refused number place → salvage_says s ≡ sheet_of s
  salvage_refused number place e = said_by ∙ rw e (sym (sheet_refused s short number place (head_refused s number place e)))

pub salvage_long : (s : List ℕ) → longest < length s → salvage_says s ≡ sheet_of s
unfolding salvage_says
salvage_long s h = rw (lt-ltb longest (length s) h) (sym (sheet_long s h))

module _ (s : List ℕ) (b : Bytes s) where
  -- the rebuilt sheet is read as the salvage says
  pub salvaged_accepted : (salvage_says s).refusal ≡ 0 → sheet_of (rebuilt (hall_in s) s) ≡ salvage_says s
  salvaged_accepted ok =
      cases (ltb longest (length s))
      (λ q. let e = salvage_long s (ltb-true longest (length s) q) in
      ap sheet_of (sound_unchanged s b (ap (λ x. x.refusal) (sym e) ∙ ok)) ∙ sym e)
      (λ q. by (ltb-false longest (length s) q) (read head_sheet s 0) refl)
    where
      by : length s ≤ longest → (r : Field) → read head_sheet s 0 ≡ r → sheet_of (rebuilt (hall_in s) s) ≡ salvage_says s
      by short (Refused number place) d =
          let e = salvage_refused s short number place d in
          ap sheet_of (sound_unchanged s b (ap (λ x. x.refusal) (sym e) ∙ ok)) ∙ sym e
      by short (Value v next) d =
          let e = said_by s short in
          let l = length (rebuilt (hall_in s) s) in
          cases (ltb longest l)
          (λ q. let z : ◌≡◌ {A = ℕ} 10 0 = rw (e, d, q) at ok in absurd (omega arith))
          (λ q. rebuilt_accepted s b (head_held s v next d) (ltb-false longest l q) ∙ rw (e, d, q))

  -- a sound sheet is answered as the reader answers it
  pub salvaged_sound : (sheet_of s).refusal ≡ 0 → salvage_says s ≡ sheet_of s
  salvaged_sound ok = by (read head_sheet s 0) refl
    where
      by : (r : Field) → read head_sheet s 0 ≡ r → salvage_says s ≡ sheet_of s
      by (Refused number place) d = salvage_refused s (accepted_holds s ok).short number place d
      by (Value v next) d =
          let a = accepted_holds s ok in
          let u = sound_unchanged s b ok in
          let l : length (rebuilt (hall_in s) s) ≤ longest = rw u a.short in
          said_by s a.short ∙ rw (d, le-ltb longest (length (rebuilt (hall_in s) s)) l) (sym (rebuilt_accepted s b (head_held s v next d) l) ∙ ap sheet_of u)

  -- what is salvaged has a sound head, and is not too long
  pub said_head : (salvage_says s).refusal ≡ 0 → HeadHeld s × (length (rebuilt (hall_in s) s) ≤ longest)
  said_head ok =
      cases (ltb longest (length s))
      (λ q. sound (ap (λ x. x.refusal) (sym (salvage_long s (ltb-true longest (length s) q))) ∙ ok))
      (λ q. by (ltb-false longest (length s) q) (read head_sheet s 0) refl)
    where
      sound : (sheet_of s).refusal ≡ 0 → HeadHeld s × (length (rebuilt (hall_in s) s) ≤ longest)
      sound e = (sound_head s b e, rw (sound_unchanged s b e) (accepted_holds s e).short)

      by : length s ≤ longest → (r : Field) → read head_sheet s 0 ≡ r → HeadHeld s × (length (rebuilt (hall_in s) s) ≤ longest)
      by short (Refused number place) d = sound (ap (λ x. x.refusal) (sym (salvage_refused s short number place d)) ∙ ok)
      by short (Value v next) d =
          let e = said_by s short in
          let l = length (rebuilt (hall_in s) s) in
          cases (ltb longest l)
          (λ q. let z : ◌≡◌ {A = ℕ} 10 0 = rw (e, d, q) at ok in absurd (omega arith))
          (λ q. (head_held s v next d, ltb-false longest l q))

  -- no port is up in the rebuilt sheet that was not
  pub salvaged_no_new_up : (salvage_says s).refusal ≡ 0 → (server port : ℕ)
      → up (hall_in s) (codes_of (rebuilt (hall_in s) s)) server port ≡ true → up (hall_in s) (codes_there (hall_in s) s) server port ≡ true
  salvaged_no_new_up ok server port e =
      let a = said_head ok in
      no_new_up (hall_in s) s server port (rw (rebuilt_codes s b a.0 a.1) at e)
