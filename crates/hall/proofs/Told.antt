-- Laws of an answer told through room: a refusal leaves the room as lent, a short room is 6, and else the words stand at its start.
use mathlib.Core.Path.{◌≡◌}
use mathlib.Core.List.{List, ◌++◌}
use Prim.Native.Nat.{ℕ, ◌<◌, ◌≤◌}
use lib.ListN.{length, drop}
use borrow.Author.Tests.{eq-eqb, ne_eqb, lt-ltb, le-ltb}
use Rattle.hall.specs.Rooms.{told, written}

module _ {A : Type 0} (number : ℕ) (words room : List A) where
  pub told_refused : (number ≡ 0 → ⊥) → told (number, words) room ≡ number
  unfolding told
  told_refused d = rw (ne_eqb number 0 d)

  pub told_short : number ≡ 0 → length room < length words → told (number, words) room ≡ 6
  unfolding told
  told_short e h = rw (eq-eqb number 0 e, lt-ltb (length room) (length words) h)

  pub told_good : number ≡ 0 → length words ≤ length room → told (number, words) room ≡ 0
  unfolding told
  told_good e h = rw (eq-eqb number 0 e, le-ltb (length room) (length words) h)

  pub written_refused : (number ≡ 0 → ⊥) → room ≡ written (number, words) room
  unfolding written
  written_refused d = rw (told_refused d, ne_eqb number 0 d)

  pub written_short : number ≡ 0 → length room < length words → room ≡ written (number, words) room
  unfolding written
  written_short e h = rw (told_short e h)

  pub written_good : number ≡ 0 → length words ≤ length room → words ++ drop (length words) room ≡ written (number, words) room
  unfolding written
  written_good e h = rw (told_good e h)
