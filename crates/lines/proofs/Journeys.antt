-- Laws of a packet's line: what it is refused for, and what it then answers.
use mathlib.Core.Path.{◌≡◌, refl, sym, ◌∙◌, ap}
use mathlib.Core.List.{List}
use Prim.Native.Nat.{ℕ, ◌+◌, ◌≤◌, ◌<◌}
use native.Mathlib.Omega.{arith}
use lib.Dec.{eqb, leb}
use lib.ListN.{length}
use borrow.Author.Tests.{eq-eqb, ne_eqb, eqb-false, le-ltb, lt-ltb}
use Rattle.std.specs.Prelude.{Result, Ok, Err, MatchResult, IsErrAnd}
use Rattle.combine.proofs.Tests.{cases}
use Rattle.hall.specs.declared.refusals.Refusal.{Refusal}
use Rattle.hall.specs.Refusals.{number_of, bad_range}
use Rattle.forward.specs.Answers.{JourneyAnswer}
use Rattle.sheet.specs.declared.Sheet.{Sheet}
use Rattle.sheetparts.specs.declared.SheetPacket.{SheetPacket}
use Rattle.sheetparts.specs.Parts.{packet_fields}
use Rattle.report.specs.Texts.{packet_line}
use Rattle.report.proofs.Texts.{line_parts}
use Rattle.words.specs.Rooms.{roomy, room_of}
use Rattle.report.specs.Rooms.{WrittenAnswer, no_line, written_of, written_stated}
use Rattle.lines.specs.Traces.{journey_at, report_of, journey_text, journey_refusal, unless_written, unless_room, written_by_number}

module _ (s : List ℕ) (read : Sheet) (i : ℕ) where
  pub refused_sheet : (read.refusal ≡ 0 → ⊥) → journey_refusal s read i ≡ read.refusal
  unfolding journey_refusal
  refused_sheet d = rw (ne_eqb read.refusal 0 d)

  pub refused_range : read.refusal ≡ 0 → read.packets ≤ i → journey_refusal s read i ≡ bad_range
  unfolding journey_refusal
  refused_range e h = rw (eq-eqb read.refusal 0 e, le-ltb i read.packets h)

  pub refused_journey_lem : read.refusal ≡ 0 → i < read.packets → journey_refusal s read i ≡ (journey_at s read i).refusal
  unfolding journey_refusal
  refused_journey_lem e h = rw (eq-eqb read.refusal 0 e, lt-ltb i read.packets h)

  -- the text, by its packet and its journey
  pub text_told : (p : SheetPacket) (j : JourneyAnswer) → p ≡ packet_fields s i → j ≡ journey_at s read i → packet_line (report_of p j) j.uids ≡ journey_text s read i
  unfolding journey_text
  text_told p j e f = rw (e, f)

module _ (room : List ℕ) (at : ℕ) (text : List ℕ) (m n : ℕ) (w : WrittenAnswer) where
  pub line_refused : m ≡ n → (n ≡ 0 → ⊥) → w ≡ no_line n → (w ≡ unless_written m room at text) × (room ≡ unless_room m room at text)
  line_refused e d f = rw (e, ne_eqb n 0 d) (f, refl)

  pub line_told : (last : List ℕ) → m ≡ n → n ≡ 0 → (w ≡ written_of room at text) × (last ≡ room_of room at text)
      → (w ≡ unless_written m room at text) × (last ≡ unless_room m room at text)
  line_told last e z f = rw (e, eq-eqb n 0 z) f

-- a line's refusal told by its number
pub line_numbered : (x : Result ℕ Refusal) (y : Result ℕ ℕ) → MatchResult x (λ end. y ≡ Ok end) (λ r. IsErrAnd y (λ number. number ≡ number_of r))
    → written_by_number y ≡ written_stated x
line_numbered (Ok end) y e = ap written_by_number e
line_numbered (Err r) (Ok end) e = absurd e
line_numbered (Err r) (Err number) e = ap no_line e

-- a line that is refused is so by a number other than 0, as no text of a line is empty
module _ (room : List ℕ) (at : ℕ) (text : List ℕ) (number : ℕ) where
  some_written : 0 < length text → no_line number ≡ written_of room at text → number ≡ 0 → ⊥
  unfolding roomy
  some_written h e z =
      cases (leb (at + length text) (length room))
      (λ q. absurd (omega (arith, h, ap (λ (x : WrittenAnswer). x.end) (rw q at e))))
      (λ q. absurd (omega (arith, z, ap (λ (x : WrittenAnswer). x.refusal) (rw q at e))))

  numbered : 0 < length text → (m : ℕ) → no_line number ≡ unless_written m room at text → number ≡ 0 → ⊥
  numbered h m e z =
      cases (eqb m 0)
      (λ q. some_written h (rw q at e) z)
      (λ q. eqb-false m 0 q (sym (ap (λ (x : WrittenAnswer). x.refusal) (rw q at e)) ∙ z))

pub refused_by_some : (s : List ℕ) (read : Sheet) (i : ℕ) (room : List ℕ) (at number : ℕ)
    → no_line number ≡ unless_written (journey_refusal s read i) room at (journey_text s read i) → number ≡ 0 → ⊥
unfolding journey_text
refused_by_some s read i room at number e z =
    let p = line_parts (report_of (packet_fields s i) (journey_at s read i)) (journey_at s read i).uids in
    numbered room at _ number (omega (arith, p)) _ e z

-- and what is stated of the answer is so of one answer alone
module _ (s : List ℕ) (read : Sheet) (i : ℕ) (room : List ℕ) (at : ℕ) where
  pub answered_once : (x y : Result ℕ ℕ)
      → written_by_number x ≡ unless_written (journey_refusal s read i) room at (journey_text s read i)
      → written_by_number y ≡ unless_written (journey_refusal s read i) room at (journey_text s read i) → x ≡ y
  answered_once (Ok a) (Ok b) p q = ap Ok (ap (λ (w : WrittenAnswer). w.end) (p ∙ sym q))
  answered_once (Ok a) (Err n) p q = absurd (refused_by_some s read i room at n q (ap (λ (w : WrittenAnswer). w.refusal) (q ∙ sym p)))
  answered_once (Err m) (Ok b) p q = absurd (refused_by_some s read i room at m p (ap (λ (w : WrittenAnswer). w.refusal) (p ∙ sym q)))
  answered_once (Err m) (Err n) p q = ap Err (ap (λ (w : WrittenAnswer). w.refusal) (p ∙ sym q))
