-- The round trip of a header, from the laws of its bytes: the room begins with them, and they read back.
use mathlib.Core.Path.{◌≡◌, refl, sym, ◌∙◌, ap}
use mathlib.Core.List.{List, ◌++◌}
use Prim.Native.Nat.{ℕ, ◌*◌}
use lib.Dec.{eqb}
use lib.ListN.{take, drop}
use lib.Seq.{take_at, drop_at}
use borrow.Author.Tests.{eqb-true}
use Rattle.combine.proofs.Tests.{cases}
use Rattle.hall.specs.Refusals.{answered}
use Rattle.frame.specs.Layout.{value_in, word_at}
use Rattle.frame.specs.Asks.{frame_refusal}
use Rattle.frame.specs.Reading.{HeaderAnswer, header_of, refused_at, refused_header, read_frame, payload_of}
use Rattle.frame.specs.Before.{refusal_before, read_before, payload_before}
use Rattle.frame.proofs.Before.{as_before}
use Rattle.header.specs.declared.Fields.{Fields}
use Rattle.header.specs.Writing.{count_of, header_bytes, write_refusal, room_written, fields_of}
use Rattle.header.proofs.Written.{write_accepted, room_begins, header_long}
use Rattle.header.proofs.RoundTrip.{round_trip, round_trip_payload}
use Rattle.header.proofs.Encoding.{one_encoding, length_again, written_again}
use Rattle.promises.specs.Headers.{frame_of, ReadsBack, RoundTrip, WritesBack, WrittenAgain, WrittenAsBefore}

-- an answer that tells no refusal was not refused
not_refused : (number : ℕ) (good : HeaderAnswer) (refused : ℕ → HeaderAnswer) → (refused number).refusal ≡ number → (answered number good refused).refusal ≡ 0 → number ≡ 0
not_refused number good refused n e = cases (eqb number 0) (λ q. eqb-true number 0 q) (λ q. sym n ∙ (rw q at e))

frame_accepted : (frame : List ℕ) → (read_frame frame).refusal ≡ 0 → frame_refusal frame ≡ 0
frame_accepted frame e = not_refused (frame_refusal frame) (header_of (value_in (word_at frame))) (λ number. refused_header number) refl e

accepted_before : (frame : List ℕ) → (read_before frame).refusal ≡ 0 → refusal_before frame ≡ 0
accepted_before frame e = not_refused (refusal_before frame) (header_of (value_in (word_at frame))) (λ number. refused_at number 0) refl e

-- the first bytes of the room are the header's
header_first : (fields : Fields) (rest room : List ℕ) → room ≡ header_bytes fields ++ rest → take (4 * count_of fields) room ≡ header_bytes fields
header_first fields rest room e = rw e (take_at (header_bytes fields) rest (4 * count_of fields) (header_long fields))

pub header_round_trip : RoundTrip
header_round_trip fields room payload padding t e stated =
    let a = write_accepted fields room e in
    let rest : List ℕ = drop (4 * count_of fields) room in
    let w = room_begins fields room e in
    let f = header_first fields rest (room_written fields room) w in
    record {
      same_fields = rw f (round_trip fields t a.0 a.1 payload padding stated);
      same_payload = rw f (round_trip_payload fields t a.0 a.1 payload padding stated);
      rest_kept = rw w (drop_at (header_bytes fields) rest (4 * count_of fields) (header_long fields));
    }

pub header_written_again : WrittenAgain
header_written_again frame room bytes e long =
    let z = frame_accepted frame e in
    let ok = written_again frame bytes z room long in
    let given : Fields = fields_of (read_frame frame) in
    record {
      not_refused = ok;
      same_bytes =
          ap (λ (n : ℕ). take n (room_written given room)) (length_again frame bytes z)
          ∙ header_first given (drop (4 * count_of given) room) (room_written given room) (room_begins given room ok)
          ∙ sym (one_encoding frame bytes z);
    }

-- what the reader of before answers of a frame that either of the two accepts is what is answered now
reads_before : (fields : Fields) (room payload padding : List ℕ) → ReadsBack (λ frame. read_frame frame) (λ frame. payload_of frame) fields room payload padding
    → ReadsBack (λ frame. read_before frame) (λ frame. payload_before frame) fields room payload padding
reads_before fields room payload padding r =
    let frame : List ℕ = frame_of fields room payload padding in
    let b = as_before frame in
    let z = frame_accepted frame (ap (λ (h : HeaderAnswer). h.refusal) r.same_fields) in
    record {
      same_fields = sym (b.same_fields z) ∙ r.same_fields;
      same_payload = sym b.same_payload ∙ r.same_payload;
      rest_kept = r.rest_kept;
    }

writes_before : (frame room : List ℕ) → read_frame frame ≡ read_before frame → WritesBack (λ frame. read_frame frame) frame room → WritesBack (λ frame. read_before frame) frame room
writes_before frame room e w = record {
  not_refused = ap (λ (h : HeaderAnswer). write_refusal (fields_of h) room) (sym e) ∙ w.not_refused;
  same_bytes =
      ap (λ (h : HeaderAnswer). take h.header_length (room_written (fields_of h) room)) (sym e)
      ∙ w.same_bytes
      ∙ ap (λ (h : HeaderAnswer). take h.header_length frame) e;
}

pub header_as_before : WrittenAsBefore
header_as_before = record {
  reads_back = λ fields room payload padding t e stated. reads_before fields room payload padding (header_round_trip fields room payload padding t e stated);
  writes_back = λ frame room bytes e long.
      let b = as_before frame in
      let same = b.same_fields (b.accepted (accepted_before frame e)) in
      writes_before frame room same
      (header_written_again frame room bytes (ap (λ (h : HeaderAnswer). h.refusal) same ∙ e) (rw (ap (λ (h : HeaderAnswer). h.header_length) same) long));
}
