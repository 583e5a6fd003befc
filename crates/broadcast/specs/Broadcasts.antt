-- The rounds of a broadcast within a scope, and what the call answers and writes.
-- Sections "Broadcast" and "Refusal numbers"; request K5.
use Rattle.std.specs.Prelude.{Bool, List, [], ◌∷◌, ◌++◌, ℕ, min, ◌+◌, ◌*◌, ◌%◌, leb, length, drop, Result}
use Rattle.hall.specs.declared.Hall.{Hall}
use Rattle.hall.specs.declared.refusals.Refusal.{Refusal}
use Rattle.hall.specs.Refusals.{Ask, refusal, answered, stated, bad_address, short_room}
use Rattle.hall.specs.Cells.{t, cell}
use Rattle.hall.specs.Halls.{asks_hall, asks_uid}
use Rattle.ports.specs.Links.{joined}
use Rattle.ports.specs.Answers.{asks_table}
use Rattle.search.specs.Rounds.{distances, reached_count, last_round}
use Rattle.counted.specs.Counted.{counted}
use Rattle.broadcast.specs.declared.Broadcast.{Broadcast}

-- the number of a server that is not reached
abbrev pub none : ℕ
none = 65535

-- the highest scope that a hall may have
abbrev pub highest : ℕ
highest = 2

-- scope s: 0 to the smaller of k and 2
unfoldable pub scope_fits : Hall → ℕ → Bool
scope_fits h s = leb s (min h.k highest)

-- t(s): the servers of the source's DCell(s), one number each
unfoldable pub scope_size : Hall → ℕ → ℕ
scope_size h s = t h.n s

-- the first uid of the source's DCell(s)
unfoldable pub first_in : Hall → ℕ → ℕ → ℕ
first_in h source s = cell h.n s source * scope_size h s

-- a link of level <= s with code 1 at both ends joins two servers of the source's DCell(s), each by its place there
unfoldable pub linked : Hall → List ℕ → ℕ → ℕ → ℕ → ℕ → Bool
linked h table source s y x = joined h table s (first_in h source s + y) (first_in h source s + x)

-- each server's least number of links from the source, in uid order; 65,535 if none
unfoldable pub rounds : Hall → List ℕ → ℕ → ℕ → List ℕ
rounds h table source s = distances (linked h table source s) (scope_size h s) none (source % scope_size h s)

-- the rounds over the hall table as its codes count: no link of a server that is not fitted is usable
abbrev pub rounds_of : Hall → List ℕ → ℕ → ℕ → List ℕ
rounds_of h table source s = rounds h (counted h 0 table) source s

abbrev pub asks_scope : Hall → ℕ → Ask
asks_scope h s = (bad_address, scope_fits h s)

-- the room has one number for each server of the scope
abbrev pub asks_room : Hall → ℕ → List ℕ → Ask
asks_room h s room = (short_room, leb (scope_size h s) (length room))

abbrev pub broadcast_refusal : Hall → List ℕ → ℕ → ℕ → List ℕ → ℕ
broadcast_refusal h table source s room =
    refusal (asks_hall h ∷ asks_table h table ∷ asks_uid h source ∷ asks_scope h s ∷ asks_room h s room ∷ [])

-- the servers reached and the last round, and what a refusal answers
pub record BroadcastAnswer : Type 0 where
  pub refusal : ℕ
  pub reached : ℕ
  pub last : ℕ

abbrev pub no_broadcast : ℕ → BroadcastAnswer
no_broadcast number = record { refusal = number; reached = 0; last = 0 }

-- how many of the first `size` numbers of a room are below 65,535, and the greatest of those
abbrev pub tally_of : ℕ → List ℕ → BroadcastAnswer
tally_of size room = record { refusal = 0; reached = reached_count none room size; last = last_round none room size }

-- the servers reached, source included, and the last round: the greatest number below 65,535
abbrev pub broadcast_of : Hall → List ℕ → ℕ → ℕ → List ℕ → BroadcastAnswer
broadcast_of h table source s room =
    answered (broadcast_refusal h table source s room)
    (tally_of (scope_size h s) (rounds_of h table source s))
    no_broadcast

-- the number and the values of an answer
abbrev pub broadcast_stated : Result Broadcast Refusal → BroadcastAnswer
broadcast_stated = stated (λ b. record { refusal = 0; reached = b.reached; last = b.last }) no_broadcast

-- the room at exit: the numbers from its start, the rest unchanged; as lent where refused
abbrev pub room_of : Hall → List ℕ → ℕ → ℕ → List ℕ → List ℕ
room_of h table source s room =
    answered (broadcast_refusal h table source s room) (rounds_of h table source s ++ drop (scope_size h s) room) (λ number. room)
