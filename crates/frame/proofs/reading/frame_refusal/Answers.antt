-- `frame::reading::frame_refusal` meets its contract: length, then version, DHL and flags, then what is left are the definition's asks in turn.
use Rattle.std.proofs.Common.{◌≡◌, ℕ, ◌/◌, ◌%◌, sym, ap, ◌∙◌}
use Rattle.frame.specs.Layout.{DHL, flags, words_with, is_pf, value_in, word_at}
use Rattle.frame.proofs.Frames.{header_words_lem}
use Rattle.frame.proofs.Rows.{DHL_in, flags_in}
use Rattle.frame.proofs.reading.frame_refusal.Goals as goal

pub whole_refusal-requires : goal.whole_refusal-requires
whole_refusal-requires c =
    let f = c.args.frame.now in
    let w : c.word_at-first.result / 16777216 % 16 ≡ value_in (word_at f) DHL = rw (DHL_in (word_at f), ← c.word_at-first.ensures) in
    let p : c.word_at-third.result / 16777216 % 16 ≡ value_in (word_at f) flags = rw (flags_in (word_at f), ← c.word_at-third.ensures) in
    record {
      counted = w;
      flagged = ap is_pf p;
      agrees = w ∙ header_words_lem _ _ _ (sym c.in_ok-fields_refusal.ensures) ∙ ap (λ (n : ℕ). words_with (is_pf n)) (sym p);
    }
