-- The round trip: what is written, with the stated payload and any padding behind it, reads back to the same fields and that payload,
-- since values that are laid by rows read back by them, and the words are read off the bytes where they were put.
use mathlib.Core.Path.{◌≡◌, refl, ◌∙◌, ap, sym}
use mathlib.Core.Bool.{Bool, true, false}
use mathlib.Core.List.{List, ◌++◌}
use Prim.Native.Nat.{ℕ, ◌*◌, ◌≤◌, ◌<◌}
use native.Mathlib.Omega.{arith}
use lib.ListN.{length, length-append}
use lib.Seq.{take_at, drop_at}
use Rattle.hall.specs.Refusals.{most_retry}
use Rattle.combine.specs.Tests.{pick}
use Rattle.combine.proofs.Tests.{cases}
use Rattle.rows.specs.Rows.{has, within, kept_by, Each, Below}
use Rattle.rows.proofs.Rows.{laid_fits}
use Rattle.frame.specs.Layout.{more_of, is_pf, value_in, word_at}
use Rattle.frame.specs.Checksum.{header_checksum}
use Rattle.frame.specs.Addresses.{addresses_fit}
use Rattle.frame.specs.Asks.{addresses_sound, frame_refusal}
use Rattle.frame.specs.Reading.{header_of, read_frame, payload_of}
use Rattle.frame.proofs.Sums.{checksum_cong}
use Rattle.frame.proofs.Rows.{rows_sound, words_fit, values_written}
use Rattle.frame.proofs.Words.{word_written}
use Rattle.frame.proofs.Frames.{SoundFrame, sound_accepted, accepted_read, accepted_payload}
use Rattle.header.specs.declared.Fields.{Fields}
use Rattle.header.specs.Writing.{Typed, rows_for, count_of, values_of, sum_of, sealed, header_words, header_bytes, header_for}
use Rattle.header.proofs.Written.{sum_small, flag_small, sum-written, header_long}

-- the test of PF undoes what the writer puts there
PF_told : (b : Bool) → is_pf (pick b 1 0) ≡ b
PF_told true = refl
PF_told false = refl

module _ (fields : Fields) where
  -- what is left in the header of the values that are written
  abbrev kept : ℕ → ℕ
  kept = kept_by (rows_for fields) (sealed fields)

  -- is the header that is to be read
  header_kept : header_of kept ≡ header_for fields
  unfolding kept_by sealed values_of within has more_of
  header_kept = cases fields.has_proxy (λ q. rw q) (λ q. rw q)

  -- and has its addresses: the proxy is not looked at where there is none
  addresses_kept : addresses_sound kept ≡ addresses_fit fields.source fields.destination fields.has_proxy fields.proxy
  unfolding kept_by sealed values_of within has more_of addresses_fit
  addresses_kept = cases fields.has_proxy (λ q. rw q) (λ q. rw q)

module _ (fields : Fields) (typed : Typed fields) (retried : fields.retry ≤ most_retry) where
  proxy_fitting : Each (Below (sealed fields)) (more_of fields.has_proxy)
  unfolding more_of sealed values_of
  proxy_fitting = cases fields.has_proxy (λ q. rw q ((typed.proxy, tt), tt)) (λ q. rw q tt)

  -- each value fits the bits of its field
  values_fitting : Each (Below (sealed fields)) (rows_for fields)
  unfolding sealed values_of
  values_fitting =
      let n = words_fit fields.has_proxy in
      let v : 1 < 16 = omega arith in (
        (v, (omega (arith, n.1), (typed.protocol, (typed.payload_length, tt)))),
        (
          (typed.identification, tt),
          (
            (
              omega (arith, retried),
              (omega (arith, flag_small fields.has_proxy), (typed.ttl, (omega (arith, sum_small fields), tt))),
            ),
            ((typed.source, tt), ((typed.destination, tt), proxy_fitting)),
          ),
        ),
      )

  words_fitting : (i : ℕ) → header_words fields i < 4294967296
  unfolding header_words
  words_fitting i = laid_fits (rows_for fields) (sealed fields) i (rows_sound fields.has_proxy) values_fitting

  module _ (kinds : addresses_fit fields.source fields.destination fields.has_proxy fields.proxy ≡ true) where
    -- the header, the payload that it states, and padding
    module _ (payload padding : List ℕ) (stated : length payload ≡ fields.payload_length) where
      abbrev sent : List ℕ
      sent = header_bytes fields ++ (payload ++ padding)

      sent_words : (i : ℕ) → i < count_of fields → word_at sent i ≡ header_words fields i
      unfolding header_bytes
      sent_words i h = word_written (header_words fields) (count_of fields) i (payload ++ padding) h (words_fitting i)

      sent_values : value_in (word_at sent) ≡ kept fields
      unfolding header_words sealed values_of
      sent_values =
          values_written fields.has_proxy (sealed fields) (word_at sent) (PF_told fields.has_proxy) values_fitting sent_words

      sent_sum : header_checksum (word_at sent) (count_of fields) ≡ sum_of fields
      sent_sum = checksum_cong (word_at sent) (header_words fields) (count_of fields) sent_words ∙ sum-written fields

      sent_sound : SoundFrame sent
      unfolding kept_by sealed values_of within has
      sent_sound =
          let n = words_fit fields.has_proxy in
          let l = length-append (header_bytes fields) (payload ++ padding) in
          let m = length-append payload padding in
          let h = header_long fields in
          rw sent_values
          (record {
            long = omega (arith, h, n.0);
            versioned = refl;
            flagged = flag_small fields.has_proxy;
            agrees = rw (PF_told fields.has_proxy);
            whole = omega (arith, h);
            checked = sym sent_sum;
            addressed = addresses_kept fields ∙ kinds;
            paid = omega (arith, h);
          })

      sent_accepted : frame_refusal sent ≡ 0
      sent_accepted = sound_accepted sent sent_sound

      -- what is written reads back to the same fields
      pub round_trip : read_frame (header_bytes fields ++ (payload ++ padding)) ≡ header_for fields
      round_trip = accepted_read sent sent_accepted ∙ ap header_of sent_values ∙ header_kept fields

      -- and to the same payload
      pub round_trip_payload : payload_of (header_bytes fields ++ (payload ++ padding)) ≡ payload
      unfolding kept_by sealed values_of within has
      round_trip_payload =
          accepted_payload sent sent_accepted
          ∙ rw (
            sent_values,
            drop_at (header_bytes fields) (payload ++ padding) (4 * count_of fields) (header_long fields),
            take_at payload padding fields.payload_length stated,
          )
