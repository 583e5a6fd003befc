-- Lent room with bytes written to it at a place.
-- Section "Refusal numbers": "buffers stay as lent".
use Rattle.std.specs.Prelude.{Bool, List, ◌++◌, ℕ, ◌+◌, leb, length, take, drop}
use Rattle.combine.specs.Tests.{pick}

-- the room with bytes at a place, and the rest as it was
unfoldable pub put : List ℕ → ℕ → List ℕ → List ℕ
put room at bytes = take at room ++ bytes ++ drop (at + length bytes) room

-- the room is as long as what would be written at a place
unfoldable pub roomy : List ℕ → ℕ → List ℕ → Bool
roomy room at bytes = leb (at + length bytes) (length room)

-- the room at exit: as it was where it is too short
abbrev pub room_of : List ℕ → ℕ → List ℕ → List ℕ
room_of room at bytes = pick (roomy room at bytes) (put room at bytes) room
