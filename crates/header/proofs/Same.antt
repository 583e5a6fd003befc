-- What is read goes by the header's own words: padding never changes it.
use mathlib.Core.Path.{◌≡◌, ◌∙◌, ap, sym}
use mathlib.Core.List.{List, ◌++◌}
use Prim.Native.Nat.{ℕ, ◌*◌, ◌<◌}
use native.Mathlib.Omega.{arith}
use lib.ListN.{length, drop, length-append, length-drop}
use lib.Seq.{take-append-le, drop-append-le}
use Rattle.frame.specs.Layout.{DHL, payload_length, rows_in, value_in, word_at}
use Rattle.frame.specs.Checksum.{header_checksum}
use Rattle.frame.specs.Asks.{frame_refusal}
use Rattle.frame.specs.Reading.{header_of, read_frame, payload_of}
use Rattle.frame.proofs.Rows.{rows_read, values_same}
use Rattle.frame.proofs.Sums.{checksum_cong}
use Rattle.frame.proofs.Words.{word_before}
use Rattle.frame.proofs.Frames.{SoundFrame, accepted_sound, sound_accepted, accepted_read, accepted_payload}

module _ (frame padding : List ℕ) (e : frame_refusal frame ≡ 0) where
  sound : SoundFrame frame
  sound = accepted_sound frame e

  same : (i : ℕ) → i < value_in (word_at frame) DHL → word_at frame i ≡ word_at (frame ++ padding) i
  same i h = word_before frame padding i (omega (arith, sound.whole))

  same_values : value_in (word_at frame) ≡ value_in (word_at (frame ++ padding))
  same_values =
      let n : length (rows_in (word_at frame)) ≡ value_in (word_at frame) DHL = ap length (rows_read (word_at frame)) ∙ sym sound.agrees in
      values_same (word_at frame) (word_at (frame ++ padding)) (λ i h. same i (omega arith))

  same_sum : header_checksum (word_at frame) (value_in (word_at frame) DHL) ≡ header_checksum (word_at (frame ++ padding)) (value_in (word_at frame) DHL)
  same_sum = checksum_cong (word_at frame) (word_at (frame ++ padding)) (value_in (word_at frame) DHL) same

  pub padding_accepted : frame_refusal (frame ++ padding) ≡ 0
  padding_accepted =
      sound_accepted (frame ++ padding)
      (rw (← same_values, ← same_sum)
      (record {
        long = omega (arith, sound.long, length-append frame padding);
        versioned = sound.versioned;
        flagged = sound.flagged;
        agrees = sound.agrees;
        whole = omega (arith, sound.whole, length-append frame padding);
        checked = sound.checked;
        addressed = sound.addressed;
        paid = omega (arith, sound.paid, length-append frame padding);
      }))

  pub padding_read : read_frame (frame ++ padding) ≡ read_frame frame
  padding_read =
      accepted_read (frame ++ padding) padding_accepted ∙ ap header_of (sym same_values) ∙ sym (accepted_read frame e)

  pub padding_payload : payload_of (frame ++ padding) ≡ payload_of frame
  padding_payload =
      accepted_payload (frame ++ padding) padding_accepted
      ∙ rw (
        ← same_values,
        drop-append-le (4 * value_in (word_at frame) DHL) frame padding sound.whole,
        take-append-le (value_in (word_at frame) payload_length) (drop (4 * value_in (word_at frame) DHL) frame) padding
            (omega (arith, sound.paid, length-drop (4 * value_in (word_at frame) DHL) frame)),
      )
      (sym (accepted_payload frame e))
