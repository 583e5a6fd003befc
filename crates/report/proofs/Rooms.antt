-- Laws of text written to lent room: one text behind another, and a line that is refused or written.
use mathlib.Core.Path.{◌≡◌, sym, ◌∙◌}
use mathlib.Core.Bool.{Bool, true, false}
use mathlib.Core.List.{List, [], ◌∷◌, ◌++◌, append_assoc}
use Prim.Native.Nat.{ℕ, ◌+◌, ◌≤◌, ◌<◌}
use native.Mathlib.Omega.{arith}
use lib.ListN.{length, set, take, drop, length-append, take-append-drop}
use lib.Dec.{leb}
use borrow.Author.Tests.{leb-true}
use Rattle.words.specs.Rooms.{put, roomy, room_of}
use Rattle.words.proofs.Rooms.{put_put, put_byte}
use Rattle.report.specs.Rooms.{WrittenAnswer, no_line, written_of}

-- a text behind what was written, by where its writer began and ended
pub put_next : (room : List ℕ) (at : ℕ) (a b : List ℕ) (r next : ℕ) (l k : List ℕ)
    → (r ≡ at + length a) × (l ≡ put room at a) → (next ≡ r + length b) × (k ≡ put l r b) → at + length a ≤ length room
    → (next ≡ at + length (a ++ b)) × (k ≡ put room at (a ++ b))
put_next room at a b r next l k e f h =
    (omega (arith, e.0, f.0, length-append a b), f.1 ∙ rw (e.1, e.0) (put_put room at a b h))

-- a byte behind what was written
pub byte_next : (room : List ℕ) (at : ℕ) (a : List ℕ) (r : ℕ) (l : List ℕ) (byte : ℕ)
    → (r ≡ at + length a) × (l ≡ put room at a) → r < length room
    → (r + 1 ≡ at + length (a ++ (byte ∷ []))) × (set l r byte ≡ put room at (a ++ (byte ∷ [])))
byte_next room at a r l byte e h =
    (omega (arith, e.0, length-append a (byte ∷ [])), rw e.1 (put_byte room at a byte r e.0 h))

-- a line that is refused, and one that is written, by the test of the room
pub line_short : (room : List ℕ) (at : ℕ) (text : List ℕ) (t : Bool) → t ≡ leb (at + length text) (length room) → t ≡ false
    → (no_line 6 ≡ written_of room at text) × (room ≡ room_of room at text)
unfolding roomy
line_short room at text t e f = (rw (← e, f), rw (← e, f))

pub line_written : (room : List ℕ) (at : ℕ) (text : List ℕ) (t : Bool) → t ≡ leb (at + length text) (length room) → t ≡ true
    → (end : ℕ) (l : List ℕ) → (end ≡ at + length text) × (l ≡ put room at text)
    → (◌≡◌ {A = WrittenAnswer} (record { refusal = 0; end = end }) (written_of room at text)) × (l ≡ room_of room at text)
unfolding roomy
line_written room at text t e f end l w = (rw (← e, f, w.0), rw (← e, f) w.1)

-- the room behind the place of a line
pub line_fits : (room : List ℕ) (at : ℕ) (text : List ℕ) (t : Bool) → t ≡ leb (at + length text) (length room) → t ≡ true → at + length text ≤ length room
line_fits room at text t e f = leb-true (at + length text) (length room) (sym e ∙ f)

-- a test by a length is the test by what has it
pub by_length : (at wanted : ℕ) (text room : List ℕ) (t : Bool) → wanted ≡ length text → t ≡ leb (at + wanted) (length room) → t ≡ leb (at + length text) (length room)
by_length at wanted text room t e f = rw (← e) f

-- digits that were written up to an end
pub digits_put : (room new digits : List ℕ) (at start end : ℕ) → start ≡ at → end ≡ at + length digits
    → take start new ≡ take start room → drop start new ≡ digits ++ drop end room → new ≡ put room at digits
unfolding put
digits_put room new digits at start end s e before written =
    sym (take-append-drop start new) ∙ rw (before, written, s, e) (sym (append_assoc (take at room) digits (drop (at + length digits) room)))
