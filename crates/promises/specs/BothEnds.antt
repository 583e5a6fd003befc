-- Request K3, codes from both ends: which links a journey crosses, which bytes of the hall table a server's step rests on, and that nothing
-- changes with every port up.
-- Sections "Port codes" and "One forwarding step".
use Rattle.std.specs.Prelude.{◌≡◌, true, List, ℕ, ◌+◌, ◌-◌, ◌≤◌, ◌<◌, length}
use Rattle.hall.specs.declared.Hall.{Hall}
use Rattle.hall.specs.Cells.{neighbour, lowest}
use Rattle.hall.specs.Halls.{valid, servers}
use Rattle.hall.specs.Refusals.{most_retry}
use Rattle.ports.specs.Codes.{code_up, code_of, table_length, part, SameUps, EveryUp}
use Rattle.ports.specs.Links.{both_up}
use Rattle.counted.specs.Counted.{counted}
use Rattle.route.specs.Routes.{hops}
use Rattle.route.specs.Walks.{Each}
use Rattle.local.specs.Local.{cell_size, first_of}
use Rattle.ends.specs.Tables.{far_code, step_table}
use Rattle.forward.specs.declared.Packet.{Packet}
use Rattle.forward.specs.Seen.{usable}
use Rattle.forward.specs.Answers.{step_of}
use Rattle.forward.specs.Journeys.{step_at, trip}
use Rattle.forward.specs.Before.{step_before, trip_before}
use Rattle.promises.specs.Journeys.{Sound}

-- by the table that a server is lent, a link above b is usable exactly where both its end ports are up in the hall table
abbrev pub UsableByBoth : Type 0
UsableByBoth = (h : Hall) (table : List ℕ) (me place i : ℕ) → valid h ≡ true → length table ≡ table_length h → me < servers h
    → place < cell_size h → h.b < i → i ≤ h.k
    → usable h (step_table h table me) i place ≡ both_up h table i (first_of h me + place) (neighbour h.n (i - 1) (first_of h me + place))

-- both end ports of the link between u and v have code 1: the ports of its level, which is the lowest that holds both
abbrev pub EndsUp : Hall → List ℕ → ℕ → ℕ → Type 0
EndsUp h table u v = (code_of h table u (lowest h.n h.k u v) ≡ code_up) × (code_of h table v (lowest h.n h.k u v) ≡ code_up)

-- no journey crosses a link of which either end has another code
abbrev pub EveryEndUp : Type 0
EveryEndUp = (h : Hall) (table : List ℕ) (source : ℕ) (p : Packet) → Sound h table source p
    → Each (λ e. EndsUp h table e.0 e.1) (hops (trip h (counted h 0 table) source p).uids)

-- two hall tables have the same bytes for a server's step: those of its DCell(b), and the far port's for each server of it and each level above b
pub record SameBytes (h : Hall) (a b : List ℕ) (me : ℕ) : Type 0 where
  pub near : part h a me ≡ part h b me
  pub far : (place i : ℕ) → place < cell_size h → h.b < i → i ≤ h.k → far_code h a (first_of h me + place) i ≡ far_code h b (first_of h me + place) i

-- the step of a server rests on these bytes alone, and of them only on which are 1
pub record StepRests (h : Hall) (a b : List ℕ) (me : ℕ) (p : Packet) : Type 0 where
  pub on_bytes : SameBytes h a b me → step_at h (counted h 0 a) me p ≡ step_at h (counted h 0 b) me p
  pub on_ups : SameUps (step_table h a me) (step_table h b me) → step_at h (counted h 0 a) me p ≡ step_at h (counted h 0 b) me p

abbrev pub StepsRest : Type 0
StepsRest = (h : Hall) (a b : List ℕ) (me : ℕ) (p : Packet) → Sound h a me p → Sound h b me p → StepRests h a b me p

-- a journey's step is what the call for a step answers over the table that is written for its server, and over its bytes of the hall table
pub record Lent (h : Hall) (table : List ℕ) (me : ℕ) (p : Packet) : Type 0 where
  pub as_written : step_of h me p (step_table h (counted h 0 table) me) ≡ step_at h (counted h 0 table) me p
  pub as_it_stands : step_of h me p (step_table h table me) ≡ step_at h (counted h 0 table) me p

abbrev pub StepLent : Type 0
StepLent = (h : Hall) (table : List ℕ) (me : ℕ) (p : Packet) → Sound h table me p → p.retry ≤ most_retry → Lent h table me p

-- with every port up, step and journey over a table as it stands are those of the rule of before; in a full hall every code stands as it counts
pub record Unchanged (h : Hall) (table : List ℕ) (source : ℕ) (p : Packet) : Type 0 where
  pub step : step_at h table source p ≡ step_before h table source p
  pub journey : trip h table source p ≡ trip_before h table source p

abbrev pub AllUpUnchanged : Type 0
AllUpUnchanged = (h : Hall) (table : List ℕ) (source : ℕ) (p : Packet) → Sound h table source p → EveryUp table → Unchanged h table source p
