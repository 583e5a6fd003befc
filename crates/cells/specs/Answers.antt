-- What each call about a server's tuple, cells, neighbours and links answers.
-- Sections "The hall and its numbers" and "Refusal numbers".
use Rattle.std.specs.Prelude.{Bool, not, List, [], ◌∷◌, ℕ, ◌-◌, ◌*◌, eqb, ltb, replicate, Result}
use Rattle.combine.specs.Tests.{both}
use Rattle.hall.specs.declared.Hall.{Hall}
use Rattle.hall.specs.declared.refusals.Refusal.{Refusal}
use Rattle.hall.specs.Refusals.{Ask, refusal, answered, stated, bad_range}
use Rattle.hall.specs.Cells.{t, g, cell, sub_over, end_over, end, neighbour}
use Rattle.hall.specs.Halls.{places, asks_hall, asks_uid, asks_level}
use Rattle.hall.specs.Tuples.{uid_up_to, tuple_fits, tuple}
use Rattle.cells.specs.declared.Cell.{Cell}
use Rattle.cells.specs.declared.Link.{Link}
use Rattle.cells.specs.declared.joined.Ends.{Ends}

-- the uid of a tuple
pub record UidAnswer : Type 0 where
  pub refusal : ℕ
  pub uid : ℕ

abbrev pub no_uid : ℕ → UidAnswer
no_uid number = record { refusal = number; uid = 0 }

abbrev pub uid_of : Hall → List ℕ → UidAnswer
uid_of h a =
    answered (refusal (asks_hall h ∷ (bad_range, tuple_fits h.n h.k a) ∷ []))
    (record { refusal = 0; uid = uid_up_to h.n h.k a })
    no_uid

abbrev pub uid_stated : Result ℕ Refusal → UidAnswer
uid_stated = stated (λ uid. record { refusal = 0; uid = uid }) no_uid

-- the tuple of a uid
pub record TupleAnswer : Type 0 where
  pub refusal : ℕ
  pub entries : List ℕ

abbrev pub no_tuple : ℕ → TupleAnswer
no_tuple number = record { refusal = number; entries = replicate places 0 }

abbrev pub tuple_of : Hall → ℕ → TupleAnswer
tuple_of h u =
    answered (refusal (asks_hall h ∷ asks_uid h u ∷ []))
    (record { refusal = 0; entries = tuple h.n h.k u })
    no_tuple

abbrev pub tuple_stated : Result (List ℕ) Refusal → TupleAnswer
tuple_stated = stated (λ entries. record { refusal = 0; entries = entries }) no_tuple

-- the DCell of level i around a server: its first uid, and its t(i) servers
pub record CellAnswer : Type 0 where
  pub refusal : ℕ
  pub first : ℕ
  pub count : ℕ

abbrev pub no_cell : ℕ → CellAnswer
no_cell number = record { refusal = number; first = 0; count = 0 }

abbrev pub cell_around : Hall → ℕ → ℕ → CellAnswer
cell_around h u i =
    answered (refusal (asks_hall h ∷ asks_uid h u ∷ asks_level h 0 i ∷ []))
    (record { refusal = 0; first = cell h.n i u * t h.n i; count = t h.n i })
    no_cell

abbrev pub cell_stated : Result Cell Refusal → CellAnswer
cell_stated = stated (λ c. record { refusal = 0; first = c.first; count = c.count }) no_cell

-- the neighbour of level i
pub record NeighbourAnswer : Type 0 where
  pub refusal : ℕ
  pub uid : ℕ

abbrev pub no_neighbour : ℕ → NeighbourAnswer
no_neighbour number = record { refusal = number; uid = 0 }

abbrev pub neighbour_of : Hall → ℕ → ℕ → NeighbourAnswer
neighbour_of h u i =
    answered (refusal (asks_hall h ∷ asks_uid h u ∷ asks_level h 1 i ∷ []))
    (record { refusal = 0; uid = neighbour h.n (i - 1) u })
    no_neighbour

abbrev pub neighbour_stated : Result ℕ Refusal → NeighbourAnswer
neighbour_stated = stated (λ uid. record { refusal = 0; uid = uid }) no_neighbour

-- p and q are two sub-cells of a DCell of level i
abbrev pub subcells_fit : Hall → ℕ → ℕ → ℕ → Bool
subcells_fit h i p q = both (both (ltb p (g h.n i)) (ltb q (g h.n i))) (not (eqb p q))

abbrev pub asks_link : Hall → ℕ → ℕ → ℕ → ℕ → List Ask
asks_link h u i p q = asks_hall h ∷ asks_uid h u ∷ asks_level h 1 i ∷ (bad_range, subcells_fit h i p q) ∷ []

-- the link between the sub-cells p and q of the DCell of level i around a server, the end in p first
pub record LinkAnswer : Type 0 where
  pub refusal : ℕ
  pub from : ℕ
  pub to : ℕ

abbrev pub no_link : ℕ → LinkAnswer
no_link number = record { refusal = number; from = 0; to = 0 }

abbrev pub link_between : Hall → ℕ → ℕ → ℕ → ℕ → LinkAnswer
link_between h u i p q =
    answered (refusal (asks_link h u i p q))
    (record { refusal = 0; from = end h.n (i - 1) u p q; to = end h.n (i - 1) u q p })
    no_link

abbrev pub link_stated : Result Link Refusal → LinkAnswer
link_stated = stated (λ l. record { refusal = 0; from = l.from; to = l.to }) no_link

-- the ends of the link between the sub-cells of x and y, over sub-cells of T servers each
abbrev pub ends_over : ℕ → ℕ → ℕ → Ends
ends_over T x y = record { near = end_over T x (sub_over T x) (sub_over T y); far = end_over T x (sub_over T y) (sub_over T x) }
