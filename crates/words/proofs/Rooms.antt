-- Laws of bytes written to lent room: a byte, and one run of bytes behind another.
use mathlib.Core.Path.{◌≡◌, refl, sym, ◌∙◌, ap}
use mathlib.Core.List.{List, [], ◌∷◌, ◌++◌, append_assoc, append-nil}
use Prim.Native.Nat.{ℕ, suc, ◌+◌, ◌≤◌, ◌<◌}
use native.Mathlib.Numerals.{add-one}
use native.Mathlib.Omega.{arith}
use lib.ListN.{length, take, drop, set, length-append, length-drop, take-append-drop}
use lib.Seq.{length-take-le, take_at, drop-append-add, drop-drop, set_split, take-length, paste}
use borrow.Rule.Slice.PartMut.{put_mid}
use borrow.Author.Tests.{le-leb, lt-leb}
use Rattle.std.proofs.lemmas.Slice.{put_mid-paste}
use Rattle.words.specs.Rooms.{put, roomy, room_of}

pub put_one : (room : List ℕ) (at byte : ℕ) → at < length room → set room at byte ≡ put room at (byte ∷ [])
unfolding put
put_one room at byte h = set_split room at byte h ∙ rw (add-one at) (sym (append_assoc (take at room) (byte ∷ []) (drop (suc at) room)))

module _ (room : List ℕ) (at : ℕ) where
  pub put_none : put room at [] ≡ room
  unfolding put
  put_none = let z : at + 0 ≡ at = omega arith in rw (z, append-nil (take at room)) (take-append-drop at room)

  head_length : (bytes : List ℕ) → at ≤ length room → length (take at room ++ bytes) ≡ at + length bytes
  head_length bytes h = omega (arith, length-append (take at room) bytes, length-take-le at room h)

  pub length-put : (bytes : List ℕ) → at + length bytes ≤ length room → length (put room at bytes) ≡ length room
  unfolding put
  length-put bytes h =
      omega (arith, length-append (take at room ++ bytes) (drop (at + length bytes) room), head_length bytes (omega arith), length-drop (at + length bytes) room)

  -- bytes behind bytes
  pub put_put : (a b : List ℕ) → at + length a ≤ length room → put (put room at a) (at + length a) b ≡ put room at (a ++ b)
  unfolding put
  put_put a b h =
      let l = head_length a (omega arith) in
      let t : take (at + length a) (take at room ++ a ++ drop (at + length a) room) ≡ take at room ++ a =
      take_at (take at room ++ a) (drop (at + length a) room) (at + length a) l in
      let n : length (take at room ++ a) + length b ≡ at + length a + length b = omega arith in
      let m : at + length a + length b ≡ at + length (a ++ b) = omega (arith, length-append a b) in
      let d : drop (at + length a + length b) (take at room ++ a ++ drop (at + length a) room) ≡ drop (at + length (a ++ b)) room =
      rw (← n) (drop-append-add (take at room ++ a) (drop (at + length a) room) (length b))
      ∙ drop-drop (length b) (at + length a) room ∙ rw m in
      rw (t, d) (ap (λ (x : List ℕ). x ++ drop (at + length (a ++ b)) room) (append_assoc (take at room) a b))

  -- a byte behind bytes
  pub put_byte : (a : List ℕ) (byte next : ℕ) → next ≡ at + length a → next < length room → set (put room at a) next byte ≡ put room at (a ++ (byte ∷ []))
  unfolding put
  put_byte a byte next e h =
      let k : next < length (put room at a) = omega (arith, length-put a (omega arith)) in
      rw e (put_one (put room at a) (at + length a) byte (omega arith) ∙ put_put a (byte ∷ []) (omega arith))

  -- the whole of copied bytes, and a part of the room that is copied over
  pub paste_put : (bytes : List ℕ) → paste room at bytes (length bytes) ≡ put room at bytes
  unfolding put
  paste_put bytes = rw (take-length bytes)

  pub copied : (k : ℕ) (part bytes : List ℕ) → part ≡ bytes → length bytes ≡ k → put_mid at k room part ≡ put room at bytes
  copied k part bytes e l = put_mid-paste at k room part bytes (length bytes) e l refl ∙ paste_put bytes

  -- a room that is long enough, and one that is not
  pub room_long : (bytes : List ℕ) → at + length bytes ≤ length room → room_of room at bytes ≡ put room at bytes
  unfolding roomy
  room_long bytes h = rw (le-leb (at + length bytes) (length room) h)

  pub room_short : (bytes : List ℕ) → length room < at + length bytes → room ≡ room_of room at bytes
  unfolding roomy
  room_short bytes h = rw (lt-leb (at + length bytes) (length room) h)

-- at the start
pub room_start : (room bytes : List ℕ) → length bytes ≤ length room → room_of room 0 bytes ≡ bytes ++ drop (length bytes) room
unfolding put
room_start room bytes h = let z : 0 + length bytes ≡ length bytes = omega arith in room_long room 0 bytes (omega arith) ∙ rw z
