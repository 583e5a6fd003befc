-- What each public call about a table of port codes answers.
-- Sections "Port codes" and "Refusal numbers".
use Rattle.std.specs.Prelude.{List, [], ◌∷◌, ℕ, eqb, length, Result}
use Rattle.combine.specs.Tests.{pick}
use Rattle.hall.specs.declared.Hall.{Hall}
use Rattle.hall.specs.declared.refusals.Fault.{Fault}
use Rattle.hall.specs.Refusals.{Ask, refusal, answered, stated_at, bad_length, bad_code}
use Rattle.hall.specs.Halls.{asks_hall, asks_uid}
use Rattle.ports.specs.Codes.{all_known, first_unknown, table_length, cell_length, part}

-- a hall table has the hall's length
abbrev pub asks_table : Hall → List ℕ → Ask
asks_table h table = (bad_length, eqb (length table) (table_length h))

-- the table of a DCell(b) has its length
abbrev pub asks_cell : Hall → List ℕ → Ask
asks_cell h table = (bad_length, eqb (length table) (cell_length h h.b))

-- what a table check answers
pub record CheckAnswer : Type 0 where
  pub refusal : ℕ
  pub place : ℕ

-- every code of a table is known; the place is that of the first that is not
abbrev pub check_of : Hall → List ℕ → CheckAnswer
check_of h table =
    answered (refusal (asks_hall h ∷ asks_table h table ∷ (bad_code, all_known table) ∷ []))
    (record { refusal = 0; place = 0 })
    (λ number. record { refusal = number; place = pick (eqb number bad_code) (first_unknown table) 0 })

-- the number and the place of an answer
abbrev pub check_stated : Result (Unit {0}) Fault → CheckAnswer
check_stated = stated_at (λ u. record { refusal = 0; place = 0 }) (λ number place. record { refusal = number; place = place })

-- why a hall table's part for a server is refused, 0 where it is not
abbrev pub part_refusal : Hall → List ℕ → ℕ → ℕ
part_refusal h table u = refusal (asks_hall h ∷ asks_table h table ∷ asks_uid h u ∷ [])

-- a hall table's part for a server, empty where it is refused
abbrev pub part_of : Hall → List ℕ → ℕ → List ℕ
part_of h table u = answered (part_refusal h table u) (part h table u) (λ number. [])
