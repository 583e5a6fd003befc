-- The order of a header's numbers: what is asked first decides, and version, DHL, flags and PF are asked before all but the 20 bytes.
use Rattle.std.proofs.Common.{◌≡◌, ℕ, ◌*◌, ◌<◌, ◌≤◌, Bool, true, false, List, length, sym, refl, ◌∙◌, arith}
use Rattle.hall.specs.Refusals.{in_order, bad_version, bad_DHL, bad_flags, bad_PF}
use Rattle.frame.specs.Layout.{front, words_with}
use Rattle.frame.specs.Asks.{field_asks, frame_refusal, FieldsChecked}
use Rattle.frame.proofs.Rows.{words_more, words_flagged}
use Rattle.frame.proofs.Frames.{header_version, header_DHL, header_flags, header_disagrees, frame_header}

-- the number of words tells whether there is a proxy
words_one : (a b : Bool) → words_with a ≡ words_with b → a ≡ b
words_one true true e = refl
words_one true false e = absurd (omega (arith, words_more, e))
words_one false true e = absurd (omega (arith, words_more, e))
words_one false false e = refl

words_between : (b : Bool) → (words_with false ≤ words_with b) × (words_with b ≤ words_with true)
words_between true = (omega (arith, words_more), omega arith)
words_between false = (omega arith, omega (arith, words_more))

module _ (frame : List ℕ) (h : 4 * length front ≤ length frame) where
  -- what the fields refuse is what the frame is refused by
  refused_by : (number : ℕ) → 0 < number → number ≡ in_order (field_asks frame) → frame_refusal frame ≡ number
  refused_by number p e = sym (frame_header frame h (λ z. let q : number ≡ 0 = e ∙ z in omega (arith, p, q))) ∙ sym e

pub fields_checked : FieldsChecked
fields_checked frame h = record {
  of_version = λ d. refused_by frame h bad_version (omega arith) (header_version _ _ _ d);
  of_DHL = λ a d. refused_by frame h bad_DHL (omega arith) (header_DHL _ _ _ a (d false) (d true));
  of_flags = λ a b e l.
      let n = words_between b in
      refused_by frame h bad_flags (omega arith) (header_flags _ _ _ a (omega (arith, n.0, e)) (omega (arith, n.1, e)) l);
  of_PF = λ a b e l d.
      let n = words_between b in
      refused_by frame h bad_PF (omega arith) (header_disagrees _ _ _ a (omega (arith, n.0, e)) (omega (arith, n.1, e)) l
      (λ q. d (words_one b _ (sym e ∙ q ∙ sym (words_flagged _ l)))));
}
