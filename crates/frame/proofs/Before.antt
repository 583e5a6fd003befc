-- What request K6 left alone: the tests of a frame are those of before, in the same order, and only four of them have other numbers. So the
-- refusal is that of before but for its number.
use Rattle.std.proofs.Common.{◌≡◌, ℕ, eqb, leb, List, length, sym, refl, ap, ◌∙◌, arith, eq-eqb, ne_eqb, eqb-true}
use borrow.Author.Tests.{eqb-false}
use Rattle.combine.specs.Tests.{both}
use Rattle.combine.proofs.Tests.{cases}
use Rattle.hall.specs.Refusals.{Ask, in_order, bad_version, bad_PF}
use Rattle.hall.proofs.Asks.{order_among, renumbered, order_renumbered}
use Rattle.frame.specs.Layout.{value_in, word_at}
use Rattle.frame.specs.Asks.{asks_header, asks_whole, asks_frame, sum_in, frame_refusal}
use Rattle.frame.specs.Reading.{payload_of}
use Rattle.frame.specs.Before.{bad_header, asks_header_before, asks_frame_before, refusal_before, payload_before, number_before, AsBefore}

asks_before : (size : ℕ) (values : ℕ → ℕ) (sum : ℕ) → asks_frame_before size values sum ≡ renumbered number_before (asks_frame size values sum)
unfolding asks_frame_before asks_header_before asks_frame asks_header asks_whole number_before
asks_before size values sum = refl

no_number : number_before 0 ≡ 0
unfolding number_before
no_number = refl

-- nothing else became 0
none_before : (number : ℕ) → number_before number ≡ 0 → number ≡ 0
unfolding number_before
none_before number e =
    cases (both (leb bad_version number) (leb number bad_PF))
    (λ q. let z : bad_header ≡ 0 = rw q at e in absurd (omega (arith, z)))
    (λ q. rw q at e)

-- no ask has the number 8
eight_free : (size : ℕ) (values : ℕ → ℕ) (sum : ℕ) → in_order (asks_frame size values sum) ≡ bad_header → ⊥
unfolding asks_frame asks_header asks_whole
eight_free size values sum =
    order_among (λ number. number ≡ bad_header → ⊥) (asks_frame size values sum) (λ e. omega (arith, e)) (
      λ e. omega (arith, e),
      (
        λ e. omega (arith, e),
        (
          λ e. omega (arith, e),
          (
            λ e. omega (arith, e),
            (λ e. omega (arith, e), (λ e. omega (arith, e), (λ e. omega (arith, e), (λ e. omega (arith, e), (λ e. omega (arith, e), tt))))),
          ),
        ),
      ),
    )

module _ (frame : List ℕ) where
  number_before_lem : refusal_before frame ≡ number_before (frame_refusal frame)
  unfolding refusal_before frame_refusal
  number_before_lem =
      let values = value_in (word_at frame) in
      ap (λ (asks : List Ask). in_order asks) (asks_before (length frame) values (sum_in frame))
      ∙ order_renumbered number_before (asks_frame (length frame) values (sum_in frame)) no_number

  accepted : refusal_before frame ≡ 0 → frame_refusal frame ≡ 0
  accepted e = none_before (frame_refusal frame) (sym number_before_lem ∙ e)

  accepted_before : frame_refusal frame ≡ 0 → refusal_before frame ≡ 0
  accepted_before e = number_before_lem ∙ ap number_before e ∙ no_number

  same_payload : payload_of frame ≡ payload_before frame
  same_payload =
      cases (eqb (frame_refusal frame) 0)
      (λ q. let b = eq-eqb (refusal_before frame) 0 (accepted_before (eqb-true (frame_refusal frame) 0 q)) in rw (q, b))
      (λ q. let b = ne_eqb (refusal_before frame) 0 (λ e. eqb-false (frame_refusal frame) 0 q (accepted e)) in rw (q, b))

  no_eight : frame_refusal frame ≡ bad_header → ⊥
  unfolding frame_refusal
  no_eight e = eight_free (length frame) (value_in (word_at frame)) (sum_in frame) e

pub as_before : (frame : List ℕ) → AsBefore frame
as_before frame = record {
  accepted = accepted frame;
  accepted_before = accepted_before frame;
  same_fields = λ e. rw (e, accepted_before frame e);
  same_payload = same_payload frame;
  same_number = number_before_lem frame;
  no_eight = no_eight frame;
}
