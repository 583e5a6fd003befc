-- `frame::reading::proxy_of` meets its contract: the proxy's row is the last, where there is one.
use Rattle.std.proofs.Common.{ℕ, ◌-◌, sym, ap, ◌∙◌}
use Rattle.frame.specs.Layout.{words_with, word_at}
use Rattle.frame.proofs.Rows.{proxy_in, no_proxy_in}
use Rattle.frame.proofs.Words.{bytes_known, word_fits}
use Rattle.frame.proofs.reading.proxy_of.Goals as goal

pub returns-then-has_proxy-clause-number : goal.returns-then-has_proxy-clause-number
returns-then-has_proxy-clause-number c =
    let a = c.args in
    let f = a.frame.now in
    let t = c.requires.1 in
    let bytes = bytes_known _ c.type_inv.frame in
    c.word_at.ensures
    ∙ ap (λ (n : ℕ). word_at f (n - 1)) (t.agrees ∙ ap words_with c.if-has_proxy.true)
    ∙ sym (proxy_in (word_at f) (word_fits f bytes) (sym t.flagged ∙ c.if-has_proxy.true))

pub returns-clause-number : goal.returns-clause-number
returns-clause-number c =
    let f = c.args.frame.now in
    sym (no_proxy_in (word_at f) (sym c.requires.1.flagged ∙ c.if-has_proxy.false))
