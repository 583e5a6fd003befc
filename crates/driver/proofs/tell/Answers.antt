-- `driver::tell` meets its contract, by the two ways in which words that are not refused are told: a word takes four bytes of the room.
use mathlib.Core.Path.{refl, sym, ◌∙◌}
use mathlib.Core.List.{List}
use Prim.Native.Nat.{ℕ, ◌/◌, ◌<◌, ◌≤◌}
use native.Mathlib.Omega.{arith}
use lib.ListN.{length}
use Rattle.hall.proofs.Told.{told_short, told_good, written_short, written_good}
use Rattle.words.specs.Words.{words_bytes}
use Rattle.words.proofs.Rooms.{room_start}
use Rattle.words.proofs.Words.{words_length}
use Rattle.driver.proofs.tell.Goals as goal

-- more words than the room has places for, or as many at most
over : (words room : List ℕ) → length room / 4 < length words → length room < length (words_bytes words)
over words room h = omega (arith, words_length words)

within : (words room : List ℕ) → length words ≤ length room / 4 → length (words_bytes words) ≤ length room
within words room h = omega (arith, words_length words)

pub returns-then-room-words-clause-number : goal.returns-then-room-words-clause-number
returns-then-room-words-clause-number c = c.number.ensures ∙ sym (told_short 0 _ _ refl (over _ _ c.if-room-words.true))

pub returns-then-room-words-clause-room : goal.returns-then-room-words-clause-room
returns-then-room-words-clause-room c = written_short 0 _ _ refl (over _ _ c.if-room-words.true)

pub returns-clause-number : goal.returns-clause-number
returns-clause-number c = sym (told_good 0 _ _ refl (within _ _ c.if-room-words.false))

pub returns-clause-room : goal.returns-clause-room
returns-clause-room c =
    let h = within c.args.words.now c.args.room.now c.if-room-words.false in
    c.put_words.ensures ∙ room_start _ _ h ∙ written_good 0 _ _ refl h
