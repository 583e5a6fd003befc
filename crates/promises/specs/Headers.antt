-- The round trip of a header: what is written reads back, with any payload of the stated length and any padding behind it; and what is read
-- is written again as the same bytes. Both also by the reader of before request K6.
-- Section "Frame header".
use Rattle.std.specs.Prelude.{◌≡◌, List, ◌++◌, ℕ, ◌*◌, ◌≤◌, length, take, drop}
use Rattle.frame.specs.Reading.{HeaderAnswer, read_frame, payload_of}
use Rattle.frame.specs.Before.{read_before, payload_before}
use Rattle.header.specs.declared.Fields.{Fields}
use Rattle.header.specs.Writing.{Typed, count_of, write_refusal, room_written, header_for, fields_of}
use Rattle.words.specs.Words.{Bytes}

-- the header that writing leaves in the room, with a payload and padding behind it
abbrev pub frame_of : Fields → List ℕ → List ℕ → List ℕ → List ℕ
frame_of fields room payload padding = take (4 * count_of fields) (room_written fields room) ++ (payload ++ padding)

-- by a reader: what it answers of a frame, and the payload that it shows
pub record ReadsBack (read : List ℕ → HeaderAnswer) (shown : List ℕ → List ℕ) (fields : Fields) (room payload padding : List ℕ) : Type 0 where
  pub same_fields : read (frame_of fields room payload padding) ≡ header_for fields
  pub same_payload : shown (frame_of fields room payload padding) ≡ payload
  pub rest_kept : drop (4 * count_of fields) (room_written fields room) ≡ drop (4 * count_of fields) room

-- for all fields of their types that are not refused, with any payload of the stated length
abbrev pub RoundTripBy : (List ℕ → HeaderAnswer) → (List ℕ → List ℕ) → Type 0
RoundTripBy read shown = (fields : Fields) (room payload padding : List ℕ) → Typed fields → write_refusal fields room ≡ 0 → length payload ≡ fields.payload_length
    → ReadsBack read shown fields room payload padding

abbrev pub RoundTrip : Type 0
RoundTrip = RoundTripBy (λ frame. read_frame frame) (λ frame. payload_of frame)

pub record WritesBack (read : List ℕ → HeaderAnswer) (frame room : List ℕ) : Type 0 where
  pub not_refused : write_refusal (fields_of (read frame)) room ≡ 0
  pub same_bytes : take (read frame).header_length (room_written (fields_of (read frame)) room) ≡ take (read frame).header_length frame

-- for every byte string that is accepted as a frame, and every room that is as long as its header
abbrev pub WrittenAgainBy : (List ℕ → HeaderAnswer) → Type 0
WrittenAgainBy read = (frame room : List ℕ) → Bytes frame → (read frame).refusal ≡ 0 → (read frame).header_length ≤ length room → WritesBack read frame room

abbrev pub WrittenAgain : Type 0
WrittenAgain = WrittenAgainBy (λ frame. read_frame frame)

-- the bytes written stay the same: they are those that the reader of before reads to the fields written, and an accepted frame of before has no others
pub record WrittenAsBefore : Type 0 where
  pub reads_back : RoundTripBy (λ frame. read_before frame) (λ frame. payload_before frame)
  pub writes_back : WrittenAgainBy (λ frame. read_before frame)
