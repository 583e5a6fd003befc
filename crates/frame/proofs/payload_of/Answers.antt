-- `frame::payload_of` meets its contract: an accepted frame has the header and the payload that it states.
use Rattle.std.proofs.Common.{◌≡◌, ℕ, ◌+◌, ◌-◌, ◌*◌, ◌/◌, ◌%◌, ◌≤◌, List, length, take, drop, sym, ◌∙◌, arith, length-drop, length-take-le, take-take, ne_eqb}
use Rattle.hall.proofs.Stated.{accepted, refused}
use Rattle.frame.specs.Layout.{word_at}
use Rattle.frame.specs.Asks.{frame_refusal}
use Rattle.frame.proofs.Frames.{accepted_sound}
use Rattle.frame.proofs.Rows.{DHL_in, payload_in}
use Rattle.frame.proofs.payload_of.Goals as goal

-- the first n of what is behind a
part : (f : List ℕ) (a n : ℕ) → a + n ≤ length f → take n (take (length f - a) (drop a f)) ≡ take n (drop a f)
part f a n h = take-take n (length f - a) (drop a f) (omega arith)

part_length : (f : List ℕ) (a n : ℕ) → a + n ≤ length f → n ≡ length (take n (take (length f - a) (drop a f)))
part_length f a n h = rw (part f a n h) (sym (length-take-le n (drop a f) (omega (arith, length-drop a f))))

pub returns-then-is_err : goal.returns-then-is_err
returns-then-is_err c = rw (ne_eqb (frame_refusal c.args.frame.now) 0 (refused _ c.frame_refusal.result c.frame_refusal.ensures (sym c.is_err.ensures.value ∙ c.if-is_err.true)))

pub word_at-first-requires : goal.word_at-first-requires
word_at-first-requires c =
    let s = accepted_sound c.args.frame.now (accepted _ c.frame_refusal.result c.frame_refusal.ensures (sym c.is_err.ensures.value ∙ c.if-is_err.false)) in
    omega (arith, s.long)

pub slice_bounds-rest-count : goal.slice_bounds-rest-count
slice_bounds-rest-count c =
    let f = c.args.frame.now in
    let s = accepted_sound f (accepted _ c.frame_refusal.result c.frame_refusal.ensures (sym c.is_err.ensures.value ∙ c.if-is_err.false)) in
    let w = c.word_at-first.result in
    let h : 4 * (w / 16777216 % 16) + w % 65536 ≤ length f = rw (c.word_at-first.ensures, ← DHL_in (word_at f), ← payload_in (word_at f)) s.paid in
    omega (arith, h)

pub slice_bounds-rest-start : goal.slice_bounds-rest-start
slice_bounds-rest-start c =
    let f = c.args.frame.now in
    let s = accepted_sound f (accepted _ c.frame_refusal.result c.frame_refusal.ensures (sym c.is_err.ensures.value ∙ c.if-is_err.false)) in
    let w = c.word_at-first.result in
    let h : 4 * (w / 16777216 % 16) + w % 65536 ≤ length f = rw (c.word_at-first.ensures, ← DHL_in (word_at f), ← payload_in (word_at f)) s.paid in
    omega (arith, h)

pub slice_bounds-result-end-2 : goal.slice_bounds-result-end-2
slice_bounds-result-end-2 c =
    let f = c.args.frame.now in
    let s = accepted_sound f (accepted _ c.frame_refusal.result c.frame_refusal.ensures (sym c.is_err.ensures.value ∙ c.if-is_err.false)) in
    let w = c.word_at-first.result in
    let h : 4 * (w / 16777216 % 16) + w % 65536 ≤ length f = rw (c.word_at-first.ensures, ← DHL_in (word_at f), ← payload_in (word_at f)) s.paid in
    part_length f (4 * (w / 16777216 % 16)) (w % 65536) h

pub returns : goal.returns
returns c =
    let f = c.args.frame.now in
    let s = accepted_sound f (accepted _ c.frame_refusal.result c.frame_refusal.ensures (sym c.is_err.ensures.value ∙ c.if-is_err.false)) in
    let w = c.word_at-first.result in
    let h : 4 * (w / 16777216 % 16) + w % 65536 ≤ length f = rw (c.word_at-first.ensures, ← DHL_in (word_at f), ← payload_in (word_at f)) s.paid in
    part f (4 * (w / 16777216 % 16)) (w % 65536) h
    ∙ rw (accepted _ c.frame_refusal.result c.frame_refusal.ensures (sym c.is_err.ensures.value ∙ c.if-is_err.false), DHL_in (word_at f), payload_in (word_at f), ← c.word_at-first.ensures)
