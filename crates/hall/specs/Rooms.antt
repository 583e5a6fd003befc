-- An answer told through lent room: the refusal is returned, and the answer's words stand at the room's start where nothing is refused.
-- Section "Refusal numbers".
use Rattle.std.specs.Prelude.{List, ◌++◌, ℕ, eqb, ltb, length, drop}
use Rattle.combine.specs.Tests.{pick}
use Rattle.hall.specs.Refusals.{short_room}

-- an answer: its refusal's number, and its other values in order
abbrev pub Answer : Type 0 → Type 0
Answer A = ℕ × List A

-- of numbers
abbrev pub Outcome : Type 0
Outcome = Answer ℕ

-- the number returned: the answer's own, or 6 where the room is shorter than its values
unfoldable pub told : {A : Type 0} → Answer A → List A → ℕ
told o room = pick (eqb o.0 0) (pick (ltb (length room) (length o.1)) short_room 0) o.0

-- the room afterwards: the values at its start and the rest unchanged, or all as lent
unfoldable pub written : {A : Type 0} → Answer A → List A → List A
written o room = pick (eqb (told o room) 0) (o.1 ++ drop (length o.1) room) room
