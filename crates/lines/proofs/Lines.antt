-- Laws of the lines of a trace: which line is which, lines behind lines, all of them together, and how many fit.
use mathlib.Core.Path.{◌≡◌, refl, sym, ◌∙◌, ap}
use mathlib.Core.List.{List, [], ◌++◌, append_assoc, append-nil}
use Prim.Native.Nat.{ℕ, zero, suc, ◌+◌, ◌-◌, ◌≤◌, ◌<◌}
use native.Mathlib.Numerals.{add-one}
use native.Mathlib.Omega.{arith}
use lib.Dec.{eqb, leb}
use lib.ListN.{length, length-append}
use borrow.Author.Tests.{eq-eqb, ne_eqb, lt-ltb, le-ltb, le-leb, lt-leb, leb-true, leb-false, eqb-true, eqb-false}
use Rattle.combine.proofs.Tests.{cases}
use Rattle.sheet.specs.declared.Sheet.{Sheet}
use Rattle.sheet.specs.Answers.{sheet_of}
use Rattle.report.specs.Texts.{end_line}
use Rattle.lines.specs.Traces.{opening_text, journey_text, journeys_text, trace_text, line_count, line_text, lines_text, fitting}

module _ (read : Sheet) where
  pub count_refused : (read.refusal ≡ 0 → ⊥) → line_count read ≡ 1
  unfolding line_count
  count_refused d = rw (ne_eqb read.refusal 0 d)

  pub count_accepted : read.refusal ≡ 0 → line_count read ≡ read.packets + 2
  unfolding line_count
  count_accepted e = rw (eq-eqb read.refusal 0 e)

  -- only an accepted sheet has a second line
  pub count_more : (i : ℕ) → 0 < i → i < line_count read → read.refusal ≡ 0
  count_more i p h =
      cases (eqb read.refusal 0)
      (λ q. eqb-true read.refusal 0 q)
      (λ q. absurd (omega (arith, count_refused (eqb-false read.refusal 0 q))))

module _ (s : List ℕ) (read : Sheet) where
  pub line_first : line_text s read 0 ≡ opening_text read
  unfolding line_text
  line_first = refl

  pub line_journey : (i : ℕ) → 0 < i → i ≤ read.packets → line_text s read i ≡ journey_text s read (i - 1)
  unfolding line_text
  line_journey zero p h = absurd (omega arith)
  line_journey (suc i) p h = let e : suc i - 1 ≡ i = omega arith in rw (lt-ltb i read.packets h, e)

  pub line_end : (i : ℕ) → read.packets < i → line_text s read i ≡ end_line read.packets
  unfolding line_text
  line_end zero h = absurd (omega arith)
  line_end (suc i) h = rw (le-ltb i read.packets (omega arith))

  pub lines_none : (from : ℕ) → lines_text s read from 0 ≡ []
  unfolding lines_text
  lines_none from = refl

  pub lines_more : (from count : ℕ) → lines_text s read from (count + 1) ≡ lines_text s read from count ++ line_text s read (from + count)
  unfolding lines_text
  lines_more from count = rw (add-one count)

  -- lines behind lines
  pub lines_append : (from a b : ℕ) → lines_text s read from a ++ lines_text s read (from + a) b ≡ lines_text s read from (a + b)
  unfolding lines_text
  lines_append from a zero = let z : a + 0 ≡ a = omega arith in rw z (append-nil (lines_text s read from a))
  lines_append from a (suc b) =
      let e : from + a + b ≡ from + (a + b) = omega arith in
      let n : a + suc b ≡ suc (a + b) = omega arith in
      sym (append_assoc (lines_text s read from a) (lines_text s read (from + a) b) (line_text s read (from + a + b)))
      ∙ rw (lines_append from a b, e, n)

  -- the first line and the journeys of the first packets
  journeys_behind : (i : ℕ) → i ≤ read.packets → lines_text s read 0 (suc i) ≡ opening_text read ++ journeys_text s read i
  unfolding lines_text journeys_text
  journeys_behind zero h = line_first ∙ sym (append-nil (opening_text read))
  journeys_behind (suc i) h =
      let z : 0 + suc i ≡ suc i = omega arith in
      let e : suc i - 1 ≡ i = omega arith in
      let l : line_text s read (0 + suc i) ≡ journey_text s read i = rw z (line_journey (suc i) (omega arith) h ∙ rw e) in
      rw (journeys_behind i (omega arith), l)
      (append_assoc (opening_text read) (journeys_text s read i) (journey_text s read i))

  pub all_accepted : read.refusal ≡ 0
      → lines_text s read 0 (line_count read) ≡ opening_text read ++ journeys_text s read read.packets ++ end_line read.packets
  unfolding lines_text
  all_accepted e =
      let n : line_count read ≡ suc (suc read.packets) = omega (arith, count_accepted read e) in
      let z : 0 + suc read.packets ≡ suc read.packets = omega arith in
      rw (n, journeys_behind read.packets (omega arith), z, line_end (suc read.packets) (omega arith))

  pub all_refused : (read.refusal ≡ 0 → ⊥) → lines_text s read 0 (line_count read) ≡ opening_text read
  unfolding lines_text
  all_refused d = rw (count_refused read d) line_first

  -- where the next line fits, it is one of those that do
  pub fitting_more : (bytes from left : ℕ) → 0 < left → length (line_text s read from) ≤ bytes
      → fitting s read bytes from left ≡ 1 + fitting s read (bytes - length (line_text s read from)) (from + 1) (left - 1)
  unfolding fitting
  fitting_more bytes from zero p h = absurd (omega arith)
  fitting_more bytes from (suc left) p h =
      let e : suc left - 1 ≡ left = omega arith in
      rw (le-leb (length (line_text s read from)) bytes h, add-one from, e) (omega arith)

  pub fitting_full : (bytes from left : ℕ) → bytes < length (line_text s read from) → fitting s read bytes from left ≡ 0
  unfolding fitting
  fitting_full bytes from zero h = refl
  fitting_full bytes from (suc left) h = rw (lt-leb (length (line_text s read from)) bytes h)

  pub fitting_none : (bytes from : ℕ) → fitting s read bytes from 0 ≡ 0
  unfolding fitting
  fitting_none bytes from = refl

  -- no more than are left
  pub fitting_within : (bytes from left : ℕ) → fitting s read bytes from left ≤ left
  unfolding fitting
  fitting_within bytes from zero = omega arith
  fitting_within bytes from (suc left) =
      cases (leb (length (line_text s read from)) bytes)
      (λ q. rw q (omega (arith, fitting_within (bytes - length (line_text s read from)) (suc from) left)))
      (λ q. rw q (omega arith))

  lines_one : (from : ℕ) → lines_text s read from 1 ≡ line_text s read from
  unfolding lines_text
  lines_one from = let z : from + 0 ≡ from = omega arith in rw z

  -- and their text fits
  pub fitting_length : (bytes from left : ℕ) → length (lines_text s read from (fitting s read bytes from left)) ≤ bytes
  fitting_length bytes from zero = omega (arith, ap (λ (n : ℕ). length (lines_text s read from n)) (fitting_none bytes from), ap length (lines_none from))
  fitting_length bytes from (suc left) =
      cases (leb (length (line_text s read from)) bytes)
      (λ q.
      let h = leb-true (length (line_text s read from)) bytes q in
      let z : suc left - 1 ≡ left = omega arith in
      let e = rw z at (fitting_more bytes from (suc left) (omega arith) h) in
      let rest = fitting s read (bytes - length (line_text s read from)) (from + 1) left in
      omega (
        arith,
        ap (λ (n : ℕ). length (lines_text s read from n)) e,
        ap length (lines_append from 1 rest),
        length-append (lines_text s read from 1) (lines_text s read (from + 1) rest),
        ap length (lines_one from),
        fitting_length (bytes - length (line_text s read from)) (from + 1) left,
      ))
      (λ q.
      let e = fitting_full bytes from (suc left) (leb-false (length (line_text s read from)) bytes q) in
      omega (arith, ap (λ (n : ℕ). length (lines_text s read from n)) e, ap length (lines_none from)))

-- all lines together are the trace
pub lines_all : (s : List ℕ) → lines_text s (sheet_of s) 0 (line_count (sheet_of s)) ≡ trace_text s
unfolding trace_text
lines_all s =
    cases (eqb (sheet_of s).refusal 0)
    (λ q. rw q (all_accepted s (sheet_of s) (eqb-true (sheet_of s).refusal 0 q)))
    (λ q. rw q (all_refused s (sheet_of s) (eqb-false (sheet_of s).refusal 0 q)))
