-- One encoding: an accepted frame has exactly the bytes that writing its fields gives, since the rows leave no bit of the header free.
use mathlib.Core.Path.{◌≡◌, refl, ◌∙◌, ap, sym}
use mathlib.Core.Bool.{Bool, true}
use mathlib.Core.List.{List}
use Prim.Native.Nat.{ℕ, zero, suc, ◌*◌, ◌≤◌, ◌<◌}
use native.Mathlib.Omega.{arith}
use lib.Dec.{eqb}
use lib.ListN.{length, take}
use borrow.Author.Tests.{eqb-true, eqb-false}
use Rattle.combine.specs.Tests.{pick}
use Rattle.combine.proofs.Tests.{cases}
use Rattle.rows.specs.Rows.{Row, within, laid, value_by, Each}
use Rattle.rows.proofs.Rows.{laid_cong, laid_value, row_within, each_field}
use Rattle.frame.specs.Reading.{HeaderAnswer}
use Rattle.frame.specs.Layout.{DHL, flags, checksum, more_of, rows_of, words_with, is_pf, value_in, word_at}
use Rattle.frame.specs.Checksum.{header_checksum}
use Rattle.frame.specs.Asks.{frame_refusal}
use Rattle.frame.specs.Reading.{header_of, read_frame}
use Rattle.frame.proofs.Sums.{checksum_cong}
use Rattle.frame.proofs.Rows.{rows_sound, values_read, parts_in}
use Rattle.words.specs.Words.{Bytes}
use Rattle.frame.proofs.Words.{word_fits, bytes_cong, bytes_read}
use Rattle.frame.proofs.Frames.{SoundFrame, accepted_sound, accepted_read}
use Rattle.header.specs.declared.Fields.{Fields}
use Rattle.header.specs.Writing.{count_of, values_of, sum_of, sealed, header_words, header_bytes, write_refusal, fields_of}
use Rattle.header.proofs.Written.{sum_same, sum_fits, sealed_sum, sealed_other, write_done}

-- flags but PF are not set
PF_alone : (f : ℕ) → f ≤ 1 → f ≡ pick (is_pf f) 1 0
PF_alone zero h = refl
PF_alone (suc zero) h = refl
PF_alone (suc (suc f)) h = absurd (omega arith)

module _ (frame : List ℕ) (fit : Bytes frame) (e : frame_refusal frame ≡ 0) where
  abbrev words : ℕ → ℕ
  words = word_at frame

  abbrev values : ℕ → ℕ
  values = value_in (word_at frame)

  abbrev proxied : Bool
  proxied = is_pf (value_in (word_at frame) flags)

  abbrev rows : List Row
  rows = rows_of (is_pf (value_in (word_at frame) flags))

  abbrev given : Fields
  given = fields_of (header_of (value_in (word_at frame)))

  sound : SoundFrame frame
  sound = accepted_sound frame e

  -- what writing is given of a field is what was read, but for the checksum
  abbrev Given : ℕ → Type 0
  Given f = (f ≡ checksum → ⊥) → values f ≡ values_of given f

  more_given : Each (λ p. Given p.0) (more_of proxied)
  unfolding more_of values_of
  more_given = cases proxied (λ q. rw q ((λ d. refl, tt), tt)) (λ q. rw q tt)

  fields_given : Each (λ p. Given p.0) rows
  unfolding values_of
  fields_given = (
    (λ d. sound.versioned, (λ d. sound.agrees, (λ d. refl, (λ d. refl, tt)))),
    (
      (λ d. refl, tt),
      (
        (λ d. refl, (λ d. PF_alone (values flags) sound.flagged, (λ d. refl, (λ d. absurd (d refl), tt)))),
        ((λ d. refl, tt), ((λ d. refl, tt), more_given)),
      ),
    ),
  )

  value_given : (f : ℕ) → within f rows ≡ true → Given f
  value_given f h = each_field Given rows f fields_given h

  value_rows : (f : ℕ) → values f ≡ value_by rows words f
  value_rows f = ap (λ (read : ℕ → ℕ). read f) (values_read words)

  laid_read : (i : ℕ) → i < words_with proxied → laid rows (value_by rows words) i ≡ words i
  laid_read i h = laid_value rows words i (rows_sound proxied) h (word_fits frame fit i)

  -- the checksum in the frame is the one that is written
  sum_given : values checksum ≡ sum_of given
  unfolding sum_of values_of
  sum_given =
      let small : values checksum ≤ 65535 = omega (arith, sound.checked, sum_fits words (values DHL)) in
      sound.checked
      ∙ ap (header_checksum words) sound.agrees
      ∙ checksum_cong words (laid rows (value_by rows words)) (words_with proxied) (λ i h. sym (laid_read i h))
      ∙ sum_same proxied (value_by rows words) (values_of given) (λ f h d. sym (value_rows f) ∙ value_given f h d)
      (omega (arith, value_rows checksum)) (omega arith) (words_with proxied)

  sealed_given : (f : ℕ) → within f rows ≡ true → value_by rows words f ≡ sealed given f
  sealed_given f h =
      sym (value_rows f)
      ∙ cases (eqb f checksum) (λ q. let z : f ≡ checksum = eqb-true f checksum q in rw z (sum_given ∙ sym (sealed_sum given)))
      (λ q. let d = eqb-false f checksum q in value_given f h d ∙ sym (sealed_other given f d))

  word_given : (i : ℕ) → i < words_with proxied → words i ≡ header_words given i
  unfolding header_words
  word_given i h =
      sym (laid_read i h) ∙ laid_cong rows (value_by rows words) (sealed given) i (λ f q. sealed_given f (row_within rows i f q))

  -- the header's bytes are those that writing its fields gives
  pub one_encoding : take (read_frame frame).header_length frame ≡ header_bytes (fields_of (read_frame frame))
  unfolding header_bytes
  one_encoding =
      let w : 4 * words_with proxied ≤ length frame = omega (arith, sound.whole, sound.agrees) in
      rw (accepted_read frame e, sound.agrees)
      (sym (bytes_read frame fit (words_with proxied) w) ∙ bytes_cong words (header_words given) (words_with proxied) word_given)

  -- the header's length is that of the words to be written
  pub length_again : (read_frame frame).header_length ≡ 4 * count_of (fields_of (read_frame frame))
  length_again = rw (accepted_read frame e) (ap (λ (count : ℕ). 4 * count) sound.agrees)

  -- and its fields are not refused, where there is room
  pub written_again : (room : List ℕ) → (read_frame frame).header_length ≤ length room → write_refusal (fields_of (read_frame frame)) room ≡ 0
  written_again room h =
      let l : 4 * values DHL ≤ length room = rw (accepted_read frame e) at h in
      let p = parts_in words in
      rw (accepted_read frame e)
      (sym (write_done given room (omega (arith, p.1)) sound.addressed (omega (arith, sound.agrees))).0)

-- two accepted headers with equal fields are equal bytes
pub equal_fields : (frame other : List ℕ) → Bytes frame → Bytes other → frame_refusal frame ≡ 0 → frame_refusal other ≡ 0 → read_frame frame ≡ read_frame other
    → take (read_frame frame).header_length frame ≡ take (read_frame other).header_length other
equal_fields frame other f g p q e = one_encoding frame f p ∙ ap (λ (h : HeaderAnswer). header_bytes (fields_of h)) e ∙ sym (one_encoding other g q)
