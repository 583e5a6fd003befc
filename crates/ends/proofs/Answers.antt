-- What the call answers: a refusal, a short room, or the part with the far codes behind it, of the hall table as its codes count.
use mathlib.Core.Path.{◌≡◌, sym, ◌∙◌, ap}
use mathlib.Core.List.{List, ◌++◌}
use Prim.Native.Nat.{ℕ, ◌+◌, ◌-◌, ◌*◌, ◌≤◌, ◌<◌}
use native.Mathlib.Omega.{arith}
use lib.ListN.{length, drop, length-append}
use Rattle.combine.specs.Lists.{up_to}
use Rattle.combine.proofs.Lists.{length-up_to}
use Rattle.hall.specs.declared.Hall.{Hall}
use Rattle.hall.specs.Rooms.{told, written}
use Rattle.hall.proofs.Growth.{valid_known}
use Rattle.hall.proofs.Told.{told_short, told_good, written_short, written_good}
use Rattle.words.specs.Rooms.{put, room_of}
use Rattle.words.proofs.Rooms.{put_put, room_long, room_start}
use Rattle.hall.specs.Answers.{size_of}
use Rattle.local.specs.Local.{cell_size}
use Rattle.local.proofs.Sizes.{cell_size_lem}
use Rattle.ports.specs.Codes.{cell_length, part}
use Rattle.ports.specs.Answers.{part_refusal, part_of}
use Rattle.ports.proofs.Parts.{Sound, sound}
use Rattle.ports.proofs.Runs.{length_run}
use Rattle.counted.specs.Counted.{counted}
use Rattle.counted.proofs.Counted.{counted_sound}
use Rattle.ends.specs.Tables.{far_count, step_length, far_at, step_table}
use Rattle.ends.specs.Answers.{of_step_table}
use Rattle.ends.proofs.Codes.{all_far}

-- bytes at the start of a room and others behind them
one_behind : (room a b : List ℕ) → length a + length b ≤ length room → put (room_of room 0 a) (length a) b ≡ (a ++ b) ++ drop (length (a ++ b)) room
one_behind room a b l =
    let w : 0 + length a ≤ length room = omega arith in
    let n : 0 + length a ≡ length a = omega arith in
    let k : 0 + length (a ++ b) ≤ length room = omega (arith, length-append a b) in
    let m : length (a ++ b) ≤ length room = omega arith in
    ap (λ (s : List ℕ). put s (length a) b) (room_long room 0 a w)
    ∙ ap (λ (i : ℕ). put (put room 0 a) i b) (sym n)
    ∙ put_put room 0 a b w
    ∙ sym (room_long room 0 (a ++ b) k)
    ∙ room_start room (a ++ b) m

module _ (h : Hall) (table : List ℕ) (u : ℕ) where
  -- the length of a step's table
  pub part_length : Sound h table u → length (part h table u) ≡ cell_length h h.b
  part_length s = length_run h table u h.b s (valid_known h s.is_valid).b_low

  pub length-step : Sound h table u → length (step_table h table u) ≡ step_length h
  unfolding step_table step_length
  length-step s =
      length-append (part h table u) (up_to (far_at h table u) (far_count h))
      ∙ omega (arith, part_length s, length-up_to (far_at h table u) (far_count h))

  -- the part first, and the far codes behind it
  pub table_plain : Sound h table u → (room : List ℕ) → step_length h ≤ length room → (near : List ℕ) → near ≡ part h table u
      → put (room_of room 0 near) (length near) (up_to (far_at h table u) (far_count h)) ≡ step_table h table u ++ drop (length (step_table h table u)) room
  unfolding step_table step_length
  table_plain s room l near q =
      let w : length (part h table u) + length (up_to (far_at h table u) (far_count h)) ≤ length room =
      omega (arith, part_length s, length-up_to (far_at h table u) (far_count h)) in
      ap (λ (x : List ℕ). put (room_of room 0 x) (length x) (up_to (far_at h table u) (far_count h))) q
      ∙ one_behind room (part h table u) (up_to (far_at h table u) (far_count h)) w

-- what is worked out where nothing is refused: the codes of the server's cell, the cell's size, and the bytes that are wanted
pub record Parted (h : Hall) (table : List ℕ) (u : ℕ) (near : List ℕ) (size : ℕ) : Type 0 where
  pub sound : Sound h table u
  pub near_is : near ≡ part h table u
  pub near_long : length near ≡ cell_length h h.b
  pub size_is : size ≡ cell_size h
  pub far_is : size * (h.k - h.b) ≡ far_count h
  pub wanted : length near + size * (h.k - h.b) ≡ step_length h

-- the table of the hall table as it is stands in the room, once the part and the far codes are written
pub plain_room : (h : Hall) (table : List ℕ) (u : ℕ) (near : List ℕ) (size : ℕ) → Parted h table u near size
    → (room : List ℕ) → step_length h ≤ length room → (first both : List ℕ) → first ≡ room_of room 0 near
    → both ≡ put first (length near) (up_to (far_at h table u) (far_count h))
    → both ≡ step_table h table u ++ drop (length (step_table h table u)) room
plain_room h table u near size k room m first both e f =
    f ∙ ap (λ (r : List ℕ). put r (length near) (up_to (far_at h table u) (far_count h))) e ∙ table_plain h table u k.sound room m near k.near_is

-- where the part is not refused
module _ (h : Hall) (table : List ℕ) (u : ℕ) (z : 0 ≡ part_refusal h table u) where
  pub part_sound : Sound h table u
  part_sound = sound h table u (sym z)

  part_is : part_of h table u ≡ part h table u
  part_is = rw (← z)

  -- by the part and the size that the code was handed
  pub parted : (near : List ℕ) (size : ℕ) → near ≡ part_of h table u → size ≡ size_of h h.b → Parted h table u near size
  unfolding step_length
  parted near size p q =
      let long : length near ≡ cell_length h h.b = ap length (p ∙ part_is) ∙ part_length h table u part_sound in
      let sized = cell_size_lem h size part_sound.is_valid q in
      let far = all_far h part_sound.is_valid size sized in
      record { sound = part_sound; near_is = p ∙ part_is; near_long = long; size_is = sized; far_is = far; wanted = omega (arith, long, far) }

  table_is : (of_step_table h table u).1 ≡ step_table h (counted h 0 table) u
  table_is = rw (← z)

  long : length (of_step_table h table u).1 ≡ step_length h
  long = ap length table_is ∙ length-step h (counted h 0 table) u (counted_sound h table u part_sound)

  module _ (room : List ℕ) where
    pub table_short : length room < step_length h → (6 ≡ told (of_step_table h table u) room) × (room ≡ written (of_step_table h table u) room)
    table_short l =
        let k : length room < length (of_step_table h table u).1 = omega (arith, long) in (
          sym (told_short (part_refusal h table u) (of_step_table h table u).1 room (sym z) k),
          written_short (part_refusal h table u) (of_step_table h table u).1 room (sym z) k,
        )

    pub table_told : step_length h ≤ length room → 0 ≡ told (of_step_table h table u) room
    table_told l = sym (told_good (part_refusal h table u) (of_step_table h table u).1 room (sym z) (omega (arith, long)))

    -- the table at the start of the room
    pub table_written : step_length h ≤ length room → (bytes : List ℕ) → bytes ≡ step_table h (counted h 0 table) u
        → bytes ++ drop (length bytes) room ≡ written (of_step_table h table u) room
    table_written l bytes q =
        let k : length (of_step_table h table u).1 ≤ length room = omega (arith, long) in
        ap (λ (s : List ℕ). s ++ drop (length s) room) (q ∙ sym table_is) ∙ written_good (part_refusal h table u) (of_step_table h table u).1 room (sym z) k
