-- `frame::reading::header_of` meets its contract: an accepted frame has its words, and each field is taken out of its word.
use Rattle.std.proofs.Common.{◌≡◌, ℕ, ◌/◌, ◌%◌, sym, ap, ◌∙◌, arith}
use Rattle.frame.specs.Layout.{DHL, flags, words_with, is_pf, value_in, word_at}
use Rattle.frame.proofs.Frames.{accepted_sound}
use Rattle.frame.proofs.Rows.{DHL_in, payload_in, flags_in, parts_in, whole_in}
use Rattle.frame.proofs.Words.{bytes_known, word_fits}
use Rattle.frame.proofs.reading.header_of.Goals as goal

pub word_at-first-requires : goal.word_at-first-requires
word_at-first-requires c =
    let s = accepted_sound c.args.frame.now c.requires in
    omega (arith, s.long)

pub word_at-second-requires : goal.word_at-second-requires
word_at-second-requires c =
    let s = accepted_sound c.args.frame.now c.requires in
    omega (arith, s.long)

pub word_at-third-requires : goal.word_at-third-requires
word_at-third-requires c =
    let s = accepted_sound c.args.frame.now c.requires in
    omega (arith, s.long)

pub word_at-source-requires : goal.word_at-source-requires
word_at-source-requires c =
    let s = accepted_sound c.args.frame.now c.requires in
    omega (arith, s.long)

pub word_at-destination-requires : goal.word_at-destination-requires
word_at-destination-requires c =
    let s = accepted_sound c.args.frame.now c.requires in
    omega (arith, s.long)

pub proxy_of-proxy-requires : goal.proxy_of-proxy-requires
proxy_of-proxy-requires c =
    let f = c.args.frame.now in
    let s = accepted_sound f c.requires in
    let w : value_in (word_at f) DHL ≡ c.word_at-first.result / 16777216 % 16 =
    rw (DHL_in (word_at f), ← c.word_at-first.ensures) in
    let p : value_in (word_at f) flags ≡ c.word_at-third.result / 16777216 % 16 =
    rw (flags_in (word_at f), ← c.word_at-third.ensures) in (
      omega (arith, s.whole, w),
      record {
        counted = sym w;
        flagged = ap is_pf (sym p);
        agrees = sym w ∙ s.agrees ∙ ap (λ (f : ℕ). words_with (is_pf f)) p;
      },
    )

pub returns : goal.returns
returns c =
    let f = c.args.frame.now in
    let bytes = bytes_known _ c.type_inv.frame in
    let p = parts_in (word_at f) in
    let w = whole_in (word_at f) (word_fits f bytes) in
    rw (
      p.0,
      p.1,
      p.2,
      w.0,
      w.1,
      w.2,
      ← c.proxy_of-proxy.ensures.number,
      c.proxy_of-proxy.ensures.flag,
      payload_in (word_at f),
      flags_in (word_at f),
      DHL_in (word_at f),
      ← c.word_at-first.ensures,
      ← c.word_at-second.ensures,
      ← c.word_at-third.ensures,
      ← c.word_at-source.ensures,
      ← c.word_at-destination.ensures,
    )
