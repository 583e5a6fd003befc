-- `frame::reading::whole_refusal` meets its contract: it asks in the definition's order, each field taken out of its word.
use Rattle.std.proofs.Common.{◌≡◌, ℕ, ◌+◌, ◌*◌, ◌%◌, Bool, List, length, sym, ap, ◌∙◌, arith}
use Rattle.frame.specs.Layout.{DHL, payload_length, checksum, proxy, value_in, word_at}
use Rattle.frame.specs.Checksum.{header_checksum}
use Rattle.frame.specs.Addresses.{addresses_fit}
use Rattle.frame.specs.Asks.{Told, addresses_sound, sum_in}
use Rattle.frame.proofs.Frames.{whole_short, whole_checksum, whole_address, whole_payload, whole_sound}
use Rattle.frame.proofs.Rows.{told_fits, payload_in, checksum_in, whole_in}
use Rattle.words.specs.Words.{Bytes}
use Rattle.frame.proofs.Words.{bytes_known, word_fits}
use Rattle.frame.proofs.reading.whole_refusal.Goals as goal

-- what is read off the words, in the values' terms
module _ (f : List ℕ) (count : ℕ) (b : Bool) (t : Told (word_at f) count b) where
  checksum_read : (third : ℕ) → third ≡ word_at f 2 → value_in (word_at f) checksum ≡ third % 65536
  checksum_read third w = checksum_in (word_at f) ∙ ap (λ (word : ℕ). word % 65536) (sym w)

  sum-read : (sum : ℕ) → sum ≡ header_checksum (word_at f) count → sum ≡ sum_in f
  sum-read sum s = s ∙ ap (header_checksum (word_at f)) t.counted

  addresses : Bytes f → (source destination proxied : ℕ) → source ≡ word_at f 3 → destination ≡ word_at f 4 → proxied ≡ value_in (word_at f) proxy
      → addresses_sound (value_in (word_at f)) ≡ addresses_fit source destination b proxied
  addresses bytes source destination proxied s d p =
      let w = whole_in (word_at f) (word_fits f bytes) in
      rw (w.1, w.2, s, d, p, t.flagged)

  paid : (first : ℕ) → first ≡ word_at f 0 → 4 * value_in (word_at f) DHL + value_in (word_at f) payload_length ≡ 4 * count + first % 65536
  paid first w = rw (payload_in (word_at f), ← t.counted, w)

pub overflow_mul-count : goal.overflow_mul-count
overflow_mul-count c = let n = told_fits _ _ _ c.requires in omega (arith, n.1)

pub returns-then-frame-count : goal.returns-then-frame-count
returns-then-frame-count c =
    let f = c.args.frame.now in
    whole_short (length f) (value_in (word_at f)) (sum_in f) (omega (arith, c.requires.counted, c.if-frame-count.true))

pub checksum_of-requires : goal.checksum_of-requires
checksum_of-requires c =
    let n = told_fits _ _ _ c.requires in
    (omega (arith, n.0), omega (arith, n.1), omega (arith, c.if-frame-count.false))

pub returns-then-third-checksum_of : goal.returns-then-third-checksum_of
returns-then-third-checksum_of c =
    let a = c.args in
    let f = a.frame.now in
    let t = c.requires in
    whole_checksum (length f) (value_in (word_at f)) (sum_in f) (omega (arith, t.counted, c.if-frame-count.false))
    (λ q. c.if-third-checksum_of.true (sym (checksum_read f a.count _ t _ c.word_at-third.ensures) ∙ q ∙ sym (sum-read f a.count _ t _ c.checksum_of.ensures)))

pub returns-then-not-addresses_fit : goal.returns-then-not-addresses_fit
returns-then-not-addresses_fit c =
    let a = c.args in
    let f = a.frame.now in
    let t = c.requires in
    let bytes = bytes_known _ c.type_inv.frame in
    let r = c.addresses_fit in
    whole_address (length f) (value_in (word_at f)) (sum_in f) (omega (arith, t.counted, c.if-frame-count.false))
    (checksum_read f a.count _ t _ c.word_at-third.ensures ∙ c.if-third-checksum_of.false ∙ sum-read f a.count _ t _ c.checksum_of.ensures)
    (addresses f a.count _ t bytes _ _ _ c.word_at-source.ensures c.word_at-destination.ensures (c.unwrap_or-proxy.ensures ∙ c.proxy_of.ensures.number) ∙ sym r.ensures ∙ c.if-not-addresses_fit.true)

pub returns-then-frame-end : goal.returns-then-frame-end
returns-then-frame-end c =
    let a = c.args in
    let f = a.frame.now in
    let t = c.requires in
    let bytes = bytes_known _ c.type_inv.frame in
    let r = c.addresses_fit in
    whole_payload (length f) (value_in (word_at f)) (sum_in f) (omega (arith, t.counted, c.if-frame-count.false))
    (checksum_read f a.count _ t _ c.word_at-third.ensures ∙ c.if-third-checksum_of.false ∙ sum-read f a.count _ t _ c.checksum_of.ensures)
    (addresses f a.count _ t bytes _ _ _ c.word_at-source.ensures c.word_at-destination.ensures (c.unwrap_or-proxy.ensures ∙ c.proxy_of.ensures.number) ∙ sym r.ensures ∙ c.if-not-addresses_fit.false)
    (omega (arith, paid f a.count _ t _ c.word_at-first.ensures, c.if-frame-end.true))

pub returns : goal.returns
returns c =
    let a = c.args in
    let f = a.frame.now in
    let t = c.requires in
    let bytes = bytes_known _ c.type_inv.frame in
    let r = c.addresses_fit in
    whole_sound (length f) (value_in (word_at f)) (sum_in f) (omega (arith, t.counted, c.if-frame-count.false))
    (checksum_read f a.count _ t _ c.word_at-third.ensures ∙ c.if-third-checksum_of.false ∙ sum-read f a.count _ t _ c.checksum_of.ensures)
    (addresses f a.count _ t bytes _ _ _ c.word_at-source.ensures c.word_at-destination.ensures (c.unwrap_or-proxy.ensures ∙ c.proxy_of.ensures.number) ∙ sym r.ensures ∙ c.if-not-addresses_fit.false)
    (omega (arith, paid f a.count _ t _ c.word_at-first.ensures, c.if-frame-end.false))
