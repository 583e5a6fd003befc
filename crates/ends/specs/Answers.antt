-- What the call that writes a step's table answers.
-- Requests K3 and K5; section "Refusal numbers".
use Rattle.std.specs.Prelude.{List, [], ℕ}
use Rattle.hall.specs.declared.Hall.{Hall}
use Rattle.hall.specs.Refusals.{answered}
use Rattle.hall.specs.Rooms.{Outcome}
use Rattle.ports.specs.Answers.{part_refusal}
use Rattle.counted.specs.Counted.{counted}
use Rattle.ends.specs.Tables.{step_table}

-- refused as the part of the hall table is, and then by 6 where the room is short; each code as it counts in the hall
abbrev pub of_step_table : Hall → List ℕ → ℕ → Outcome
of_step_table h table u = (part_refusal h table u, answered (part_refusal h table u) (step_table h (counted h 0 table) u) (λ _. []))
