-- Request K5, a hall that fills rack by rack: which codes count, which links are usable, and which servers a packet passes.
-- The planner's own promises stand in the crate `plan`.
use Rattle.std.specs.Prelude.{◌≡◌, true, false, List, ◌++◌, ℕ, ◌-◌, ◌%◌, ◌<◌, length, get_or, replicate}
use Rattle.combine.specs.Tests.{pick, both}
use Rattle.hall.specs.declared.Hall.{Hall}
use Rattle.hall.specs.Halls.{valid, is_full, servers}
use Rattle.ports.specs.Codes.{not_fitted, code_of}
use Rattle.ports.specs.Links.{joined}
use Rattle.plan.specs.Answers.{fitted, fitted_servers}
use Rattle.counted.specs.Counted.{port_fitted, counted}
use Rattle.local.specs.Local.{counting}
use Rattle.ends.specs.Tables.{lent_counted}
use Rattle.forward.specs.declared.Packet.{Packet}
use Rattle.forward.specs.Journeys.{trip}
use Rattle.search.specs.Rounds.{start, distances}
use Rattle.broadcast.specs.Broadcasts.{none, scope_fits, scope_size, linked, rounds, rounds_of}
use Rattle.promises.specs.Journeys.{Sound}

-- a port whose own server or far server isn't fitted counts as code 0, every other as it stands
abbrev pub CodesCount : Type 0
CodesCount = (h : Hall) (table : List ℕ) (u port : ℕ) → code_of h (counted h 0 table) u port ≡ pick (port_fitted h u port) (code_of h table u port) not_fitted

-- in a full hall nothing changes: every table that an answer is made of is the table as it stands
pub record AsItStands (h : Hall) : Type 0 where
  pub hall_table : (table : List ℕ) → counted h 0 table ≡ table
  pub cell_table : (u : ℕ) (table : List ℕ) → counting h u table ≡ table
  pub lent_table : (me : ℕ) (lent : List ℕ) → lent_counted h me lent ≡ lent

abbrev pub FullUnchanged : Type 0
FullUnchanged = (h : Hall) → is_full h ≡ true → AsItStands h

-- a link is usable exactly where it was and both its servers are fitted
abbrev pub UsableFitted : Type 0
UsableFitted = (h : Hall) (table : List ℕ) (source : ℕ) (p : Packet) → Sound h table source p
    → (u v : ℕ) → joined h (counted h 0 table) h.k u v ≡ both (both (fitted h u) (fitted h v)) (joined h table h.k u v)

-- a journey from a fitted server passes fitted servers only
abbrev pub FittedOnly : Type 0
FittedOnly = (h : Hall) (table : List ℕ) (source : ℕ) (p : Packet) → Sound h table source p → fitted h source ≡ true
    → (i : ℕ) → i < length (trip h (counted h 0 table) source p).uids → fitted h (get_or (trip h (counted h 0 table) source p).uids i 0) ≡ true

-- a journey from a server that is not fitted goes nowhere
abbrev pub UnfittedStays : Type 0
UnfittedStays = (h : Hall) (table : List ℕ) (source : ℕ) (p : Packet) → Sound h table source p → fitted h source ≡ false
    → (trip h (counted h 0 table) source p).links ≡ 0

-- nor does a broadcast: it reaches the server itself in round 0
abbrev pub UnfittedAlone : Type 0
UnfittedAlone = (h : Hall) (table : List ℕ) (source s : ℕ) → valid h ≡ true → scope_fits h s ≡ true → fitted h source ≡ false
    → rounds_of h table source s ≡ start (scope_size h s) none (source % scope_size h s)

-- within a fitted DCell1 a broadcast goes as the codes stand
abbrev pub LocalRounds : Type 0
LocalRounds = (h : Hall) (table : List ℕ) (source s : ℕ) → valid h ≡ true → scope_fits h s ≡ true → s < 2 → fitted h source ≡ true
    → rounds_of h table source s ≡ rounds h table source s

-- within a DCell2 it goes among the fitted servers, which are its first, and reaches nobody behind them
abbrev pub FrontRounds : Type 0
FrontRounds = (h : Hall) (table : List ℕ) (source : ℕ) → valid h ≡ true → source < servers h → scope_fits h 2 ≡ true → fitted h source ≡ true
    → rounds_of h table source 2
    ≡ distances (linked h table source 2) (fitted_servers h source) none (source % scope_size h 2) ++ replicate (scope_size h 2 - fitted_servers h source) none
