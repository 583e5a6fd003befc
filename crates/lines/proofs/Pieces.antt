-- Laws of a piece of the trace: the lines in the room so far, and what the call then answers.
use mathlib.Core.Path.{◌≡◌, refl, sym, ◌∙◌, ap}
use mathlib.Core.List.{List, ◌++◌}
use Prim.Native.Nat.{ℕ, ◌+◌, ◌-◌, ◌≤◌, ◌<◌}
use native.Mathlib.Omega.{arith}
use lib.Dec.{leb, ltb}
use lib.ListN.{length, take, drop, length-append}
use lib.Seq.{take-append_seam}
use borrow.Author.Tests.{lt-ltb, le-ltb, le-leb, lt-leb, leb-true, leb-false, ltb-true, ltb-false}
use Rattle.combine.proofs.Tests.{cases}
use Rattle.hall.specs.Refusals.{refusal, bad_range, short_room}
use Rattle.sheet.specs.declared.Sheet.{Sheet}
use Rattle.sheet.specs.Answers.{sheet_of, packet_place}
use Rattle.sheet.proofs.Held.{accepted_holds, holds_accepted}
use Rattle.words.specs.Rooms.{put, roomy, room_of}
use Rattle.words.proofs.Rooms.{put_none, put_put, length-put}
use Rattle.report.specs.Rooms.{WrittenAnswer, written_of}
use Rattle.lines.specs.Traces.{PieceAnswer, no_piece, line_count, line_text, lines_text, fitting, fitting_text, fitting_piece, piece_refusal, piece_of, room_piece}
use Rattle.lines.proofs.Lines.{lines_none, lines_more, lines_append, fitting_more, fitting_full, fitting_none, fitting_within, fitting_length}

-- an accepted sheet has few packets
pub few_packets : (s : List ℕ) → (sheet_of s).refusal ≡ 0 → (sheet_of s).packets ≤ 65536
unfolding packet_place
few_packets s ok =
    let a = accepted_holds s ok in
    omega (arith, ap (λ (x : Sheet). x.packets) (holds_accepted s a), a.whole, a.short)

-- what a call that writes a line leaves: its answer, and the room
abbrev pub Lined : List ℕ → ℕ → List ℕ → WrittenAnswer → List ℕ → Type 0
Lined room at text w after = (w ≡ written_of room at text) × (after ≡ room_of room at text)

-- what is known of a line that was written, and of one that the room was short for
module _ (room : List ℕ) (at : ℕ) (text : List ℕ) (w : WrittenAnswer) (after : List ℕ) (e : Lined room at text w after) where
  pub written_there : w.refusal ≡ 0 → (at + length text ≤ length room) × (w.end ≡ at + length text) × (after ≡ put room at text)
  unfolding roomy
  written_there z =
      cases (leb (at + length text) (length room))
      (λ q. (leb-true (at + length text) (length room) q, ap (λ (x : WrittenAnswer). x.end) (rw q at e.0), rw q at e.1))
      (λ q. absurd (omega (arith, z, ap (λ (x : WrittenAnswer). x.refusal) (rw q at e.0))))

  pub written_short : (w.refusal ≡ 0 → ⊥) → (length room < at + length text) × (after ≡ room)
  unfolding roomy
  written_short d =
      cases (leb (at + length text) (length room))
      (λ q. absurd (d (ap (λ (x : WrittenAnswer). x.refusal) (rw q at e.0))))
      (λ q. (leb-false (at + length text) (length room) q, rw q at e.1))

-- what writing as many lines as fit leaves
abbrev pub Fitted : List ℕ → Sheet → List ℕ → ℕ → ℕ → PieceAnswer → List ℕ → Type 0
Fitted s read room from left r after =
    (r ≡ fitting_piece s read (length room) from left) × (after ≡ put room 0 (fitting_text s read (length room) from left))

-- some of the lines from a line on stand in the room, and those that fit are these and those that fit behind them
pub record Underway (s : List ℕ) (read : Sheet) (first room : List ℕ) (from lines next end : ℕ) : Type 0 where
  pub count : ℕ
  pub more : ℕ
  pub at : next ≡ from + count
  pub left : lines - from ≡ count + more
  pub place : end ≡ length (lines_text s read from count)
  pub within : end ≤ length first
  pub text : room ≡ put first 0 (lines_text s read from count)
  pub rest : fitting s read (length first) from (lines - from) ≡ count + fitting s read (length first - end) next more

module _ (s : List ℕ) (read : Sheet) (first : List ℕ) (from lines : ℕ) where
  pub starts : from ≤ lines → Underway s read first first from lines from 0
  starts h = record {
    count = 0;
    more = lines - from;
    at = omega arith;
    left = omega arith;
    place = ap length (sym (lines_none s read from));
    within = omega arith;
    text = rw (lines_none s read from) (sym (put_none first 0));
    rest = let z : length first - 0 ≡ length first = omega arith in rw z (omega arith);
  }

  module _ (room : List ℕ) (next end : ℕ) (u : Underway s read first room from lines next end) where
    pub kept : length room ≡ length first
    kept = ap length u.text ∙ length-put first 0 (lines_text s read from u.count) (omega (arith, u.place, u.within))

    -- a line more
    pub goes_on : next < lines → (w : WrittenAnswer) (after : List ℕ)
        → Lined room end (line_text s read next) w after → w.refusal ≡ 0
        → Underway s read first after from lines (next + 1) w.end
    goes_on h w after e z =
        let n = written_there room end (line_text s read next) w after e z in
        let k = kept in
        let a = u.at in
        let l = u.left in
        let t : lines_text s read from (u.count + 1) ≡ lines_text s read from u.count ++ line_text s read next =
        rw (a) (lines_more s read from u.count) in
        let p : end ≡ 0 + length (lines_text s read from u.count) = omega (arith, u.place) in
        let b : length first - end - length (line_text s read next) ≡ length first - w.end = omega (arith, n.1) in
        let f = fitting_more s read (length first - end) next u.more (omega arith) (omega (arith, n.0)) in
        record {
          count = u.count + 1;
          more = u.more - 1;
          at = omega arith;
          left = omega arith;
          place = omega (arith, n.1, u.place, ap length t, length-append (lines_text s read from u.count) (line_text s read next));
          within = omega (arith, n.0, n.1);
          text = n.2 ∙ rw (t, u.text, p) (put_put first 0 (lines_text s read from u.count) (line_text s read next) (omega (arith, u.place, u.within)));
          rest = rw (← b) (omega (arith, u.rest, f));
        }

    -- the answer, where no line more is to be written or none fits
    ends : fitting s read (length first) from (lines - from) ≡ u.count
        → Fitted s read first from (lines - from) (record { refusal = 0; next = next; end = end }) room
    ends e = (rw (e, u.at, u.place), rw e u.text)

    pub ends_full : next < lines → (w : WrittenAnswer) (after : List ℕ)
        → Lined room end (line_text s read next) w after → (w.refusal ≡ 0 → ⊥)
        → Fitted s read first from (lines - from) (record { refusal = 0; next = next; end = end }) after
    ends_full h w after e d =
        let n = written_short room end (line_text s read next) w after e d in
        let k = kept in
        let f = fitting_full s read (length first - end) next u.more (omega (arith, n.0, u.within)) in
        let r = ends (omega (arith, u.rest, f)) in
        (r.0, n.1 ∙ r.1)

    pub ends_last : lines ≤ next → from ≤ lines
        → Fitted s read first from (lines - from) (record { refusal = 0; next = next; end = end }) room
    ends_last h g =
        let z : u.more ≡ 0 = omega (arith, u.at, u.left) in
        ends (u.rest ∙ rw (z, fitting_none s read (length first - end) next) (omega arith))

-- the call: a line that the trace does not have, a room shorter than the line, and a piece that is written
module _ (s : List ℕ) (from : ℕ) (room : List ℕ) where
  pub refused_range : line_count (sheet_of s) ≤ from → piece_refusal s from room ≡ bad_range
  unfolding refusal
  refused_range h = rw (le-ltb from (line_count (sheet_of s)) h)

  pub refused_room : from < line_count (sheet_of s) → length room < length (line_text s (sheet_of s) from) → piece_refusal s from room ≡ short_room
  unfolding refusal roomy
  refused_room h l = rw (lt-ltb from (line_count (sheet_of s)) h, lt-leb (0 + length (line_text s (sheet_of s) from)) (length room) (omega arith))

  pub not_refused : from < line_count (sheet_of s) → length (line_text s (sheet_of s) from) ≤ length room → piece_refusal s from room ≡ 0
  unfolding refusal roomy
  not_refused h l = rw (lt-ltb from (line_count (sheet_of s)) h, le-leb (0 + length (line_text s (sheet_of s) from)) (length room) (omega arith))

  -- the first line fits where any does
  pub first_fits : (read : Sheet) (left : ℕ) → 0 < fitting s read (length room) from left → length (line_text s read from) ≤ length room
  first_fits read left h =
      cases (leb (length (line_text s read from)) (length room))
      (λ q. leb-true (length (line_text s read from)) (length room) q)
      (λ q. absurd (omega (arith, fitting_full s read (length room) from left (leb-false (length (line_text s read from)) (length room) q))))

  pub none_fits : (read : Sheet) (left : ℕ) → 0 < left → fitting s read (length room) from left ≡ 0 → length room < length (line_text s read from)
  none_fits read left p h =
      cases (leb (length (line_text s read from)) (length room))
      (λ q. absurd (omega (arith, fitting_more s read (length room) from left p (leb-true (length (line_text s read from)) (length room) q))))
      (λ q. leb-false (length (line_text s read from)) (length room) q)

  module _ (read : Sheet) (lines : ℕ) (same : read ≡ sheet_of s) (counted : lines ≡ line_count read) where
    pub piece_range : (r : PieceAnswer) → lines ≤ from → r ≡ no_piece bad_range → (r ≡ piece_of s from room) × (room ≡ room_piece s from room)
    piece_range r h e = let n = refused_range (rw (← same, ← counted) h) in rw n (e, refl)

    module _ (r : PieceAnswer) (after : List ℕ) (h : from < lines)
        (e : Fitted s read room from (lines - from) r after) where
      pub piece_short : r.next ≡ from → (w : PieceAnswer) → w ≡ no_piece short_room
          → (w ≡ piece_of s from room) × (after ≡ room_piece s from room)
      piece_short q w f =
          let z : fitting s read (length room) from (lines - from) ≡ 0 = omega (arith, q, ap (λ (x : PieceAnswer). x.next) e.0) in
          let l = none_fits read (lines - from) (omega arith) z in
          let n = refused_room (rw (← same, ← counted) h) (rw (← same) l) in
          let a : after ≡ room = e.1 ∙ rw (z, lines_none s read from) (put_none room 0) in
          rw n (f, a)

      pub piece_written : (r.next ≡ from → ⊥) → (r ≡ piece_of s from room) × (after ≡ room_piece s from room)
      piece_written d =
          let f : 0 < fitting s read (length room) from (lines - from) = omega (arith, d, ap (λ (x : PieceAnswer). x.next) e.0) in
          let n = not_refused (rw (← same, ← counted) h) (rw (← same) (first_fits read (lines - from) f)) in
          rw (n, ← same, ← counted) e

  -- a piece that is not refused: its first line is there, and fits
  pub asked_there : (piece_of s from room).refusal ≡ 0 → (from < line_count (sheet_of s)) × (length (line_text s (sheet_of s) from) ≤ length room)
  asked_there z =
      cases (ltb from (line_count (sheet_of s)))
      (λ q. let h = ltb-true from (line_count (sheet_of s)) q in
      cases (leb (length (line_text s (sheet_of s) from)) (length room))
      (λ p. (h, leb-true (length (line_text s (sheet_of s) from)) (length room) p))
      (λ p. let n = refused_room h (leb-false (length (line_text s (sheet_of s) from)) (length room) p) in
      let z = rw n at z in absurd (omega arith)))
      (λ q. let n = refused_range (ltb-false from (line_count (sheet_of s)) q) in let z = rw n at z in absurd (omega arith))

  -- a piece is refused by 3 only behind the last line
  pub no_line : (piece_of s from room).refusal ≡ bad_range → line_count (sheet_of s) ≤ from
  no_line z =
      cases (ltb from (line_count (sheet_of s)))
      (λ q. let h = ltb-true from (line_count (sheet_of s)) q in
      cases (leb (length (line_text s (sheet_of s) from)) (length room))
      (λ p. let n = not_refused h (leb-true (length (line_text s (sheet_of s) from)) (length room) p) in let z = rw n at z in absurd (omega arith))
      (λ p. let n = refused_room h (leb-false (length (line_text s (sheet_of s) from)) (length room) p) in let z = rw n at z in absurd (omega arith)))
      (λ q. ltb-false from (line_count (sheet_of s)) q)

  take_put : (text : List ℕ) → take (length text) (put room 0 text) ≡ text
  unfolding put
  take_put text = take-append_seam text (drop (0 + length text) room)

  -- a piece and the lines behind it are all lines from its first on
  pub joined : (piece_of s from room).refusal ≡ 0 → (rest : List ℕ)
      → rest ≡ lines_text s (sheet_of s) (piece_of s from room).next (line_count (sheet_of s) - (piece_of s from room).next)
      → take (piece_of s from room).end (room_piece s from room) ++ rest ≡ lines_text s (sheet_of s) from (line_count (sheet_of s) - from)
  joined z rest e =
      let a = asked_there z in
      let n = not_refused a.0 a.1 in
      let left = line_count (sheet_of s) - from in
      let count = fitting s (sheet_of s) (length room) from left in
      let more = line_count (sheet_of s) - (from + count) in
      let q = rw n at e in
      let m : count + more ≡ left = omega (arith, a.0, fitting_within s (sheet_of s) (length room) from left) in
      rw (n, take_put (lines_text s (sheet_of s) from count), q) (lines_append s (sheet_of s) from count more ∙ rw m)

  -- what it brings: a line at least, no line that the trace does not have, and no byte behind the room
  pub record Forward (r : PieceAnswer) : Type 0 where
    pub above : from < r.next
    pub in_trace : r.next ≤ line_count (sheet_of s)
    pub in_room : r.end ≤ length room

  pub goes_forward : (r : PieceAnswer) → r ≡ piece_of s from room → r.refusal ≡ 0 → Forward r
  goes_forward r e z =
      let a = asked_there (sym (ap (λ (x : PieceAnswer). x.refusal) e) ∙ z) in
      let p = rw (not_refused a.0 a.1) at e in
      let left = line_count (sheet_of s) - from in
      let m = fitting_more s (sheet_of s) (length room) from left (omega (arith, a.0)) a.1 in
      record {
        above = omega (arith, ap (λ (x : PieceAnswer). x.next) p, m);
        in_trace = omega (arith, ap (λ (x : PieceAnswer). x.next) p, a.0, fitting_within s (sheet_of s) (length room) from left);
        in_room = omega (arith, ap (λ (x : PieceAnswer). x.end) p, fitting_length s (sheet_of s) (length room) from left);
      }
