-- What a call that writes a line at a place of lent room answers.
-- Section "Refusal numbers".
use Rattle.std.specs.Prelude.{List, ℕ, ◌+◌, length, Result}
use Rattle.combine.specs.Tests.{pick}
use Rattle.hall.specs.declared.refusals.Refusal.{Refusal}
use Rattle.hall.specs.Refusals.{short_room, stated}
use Rattle.words.specs.Rooms.{roomy}

-- the longest line that there is: four numbers of 10 digits with a space, an ending of 15 bytes, a colon, 256 uids of 10 digits with
-- a space, and a newline
abbrev pub line_room : ℕ
line_room = 2877

-- the place behind what was written, or the refusal
pub record WrittenAnswer : Type 0 where
  pub refusal : ℕ
  pub end : ℕ

-- a line that is refused
abbrev pub no_line : ℕ → WrittenAnswer
no_line number = record { refusal = number; end = 0 }

abbrev pub written_of : List ℕ → ℕ → List ℕ → WrittenAnswer
written_of room at text =
    pick (roomy room at text) (record { refusal = 0; end = at + length text }) (no_line short_room)

-- the number and the place of a line
abbrev pub written_stated : Result ℕ Refusal → WrittenAnswer
written_stated = stated (λ end. record { refusal = 0; end = end }) no_line
