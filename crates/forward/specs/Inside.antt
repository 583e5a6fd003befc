-- What the functions inside a step ask and answer, behind the refusals.
-- Section "One forwarding step"; requests K3 and K5.
use Rattle.std.specs.Prelude.{◌≡◌, Bool, true, not, List, [], ◌∷◌, ℕ, ◌+◌, ◌-◌, ◌<◌, ◌≤◌, eqb, ltb, length, Option, Some, None}
use Rattle.combine.specs.Tests.{pick, both, either}
use Rattle.hall.specs.declared.Hall.{Hall}
use Rattle.hall.specs.Cells.{same, neighbour}
use Rattle.hall.specs.Halls.{valid, servers}
use Rattle.hall.specs.Refusals.{Ask, bad_uid, most_retry}
use Rattle.ports.specs.Codes.{table_length}
use Rattle.route.specs.declared.Crossing.{Crossing}
use Rattle.route.specs.Answers.{first_link}
use Rattle.local.specs.Local.{none, cell_size, place_of, first_of}
use Rattle.counted.specs.Counted.{counted}
use Rattle.ends.specs.Tables.{step_length, step_table, lent_counted}
use Rattle.forward.specs.declared.Packet.{Packet}
use Rattle.forward.specs.declared.Way.{Way}
use Rattle.forward.specs.declared.Way.TheVariants.{To, Closed, Unreached}
use Rattle.forward.specs.declared.Outlook.{Outlook}
use Rattle.forward.specs.declared.Outlook.TheVariants.{Next, NoRoute, Blocked}
use Rattle.forward.specs.declared.Candidate.{Candidate}
use Rattle.forward.specs.Packets.{cleared, proxied, goal}
use Rattle.forward.specs.Seen.{Seen}
use Rattle.forward.specs.Proxies.{choice}
use Rattle.forward.specs.Answers.{asks_retry}

-- the code of a step has either the table that the step is lent or, on a journey, the whole hall table: what it holds for the step as the codes
-- stand, the same as they count, and its length
abbrev pub held : Hall → Bool → List ℕ → ℕ → List ℕ
held h whole table me = pick whole (step_table h table me) table

abbrev pub lent : Hall → Bool → List ℕ → ℕ → List ℕ
lent h whole table me = pick whole (step_table h (counted h 0 table) me) (lent_counted h me table)

abbrev pub lent_length : Hall → Bool → ℕ
lent_length h whole = pick whole (table_length h) (step_length h)

-- 3: the packet with its proxy cleared, where "arrived"
abbrev pub cleared_if : Bool → Packet → Packet
cleared_if arrived p = pick arrived (cleared p) p

-- the way to a local target: its local next hop where it can be reached
unfoldable pub way_to : Hall → Seen → ℕ → ℕ → Way
way_to h s me target =
    pick (not (eqb (s.distance (place_of h target) (place_of h me)) none))
    (To (first_of h me + s.hop (place_of h me) (place_of h target)))
    Unreached

-- the way towards a goal: to it where no link above b is on the route, else over the first such link, where it is usable
unfoldable pub way_over : Hall → Seen → ℕ → ℕ → Option Crossing → Way
way_over h s me goal None = way_to h s me goal
way_over h s me goal (Some link) =
    pick (s.usable link.level (place_of h link.near)) (pick (eqb me link.near) (To link.far) (way_to h s me link.near)) Closed

-- what lies before a packet for a destination, by the first link above b and the way on
abbrev pub outlook_by : Hall → ℕ → ℕ → Option Crossing → Way → Outlook
outlook_by h me dst link (To u) = Next u
outlook_by h me dst link Closed = Blocked link
outlook_by h me dst link Unreached = pick (same h.n h.b me dst) NoRoute (Blocked link)

-- and towards a goal
unfoldable pub outlook_of : Hall → Seen → ℕ → ℕ → ℕ → Outlook
outlook_of h s me dst goal = outlook_by h me dst (first_link h me goal) (way_over h s me goal (first_link h me goal))

-- the packet with the neighbour of a candidate's server for its proxy, if there is a candidate
abbrev pub turn_by : Hall → ℕ → Packet → Option Candidate → Option Packet
turn_by h me p None = None
turn_by h me p (Some c) = Some (proxied (neighbour h.n (c.level - 1) (first_of h me + c.place)) p)

-- what a reroute makes of a packet, for the link that is out (or none)
unfoldable pub turn_of : Hall → Seen → ℕ → Option Crossing → Packet → Bool → Option Packet
turn_of h s me None p arrived = Some (cleared p)
turn_of h s me (Some link) p arrived = turn_by h me p (choice h s (place_of h me) (link.level + pick (both arrived (ltb link.level h.k)) 1 0))

-- what a packet at a server is asked, in a hall of so many servers
abbrev pub asks_below : ℕ → ℕ → Packet → List Ask
asks_below count me p =
    (bad_uid, ltb me count) ∷ (bad_uid, ltb p.dst count)
    ∷ (bad_uid, either (not p.has_proxy) (ltb p.proxy count)) ∷ asks_retry p ∷ []

-- a hall, either table, and a server
pub record Here (h : Hall) (whole : Bool) (table : List ℕ) (me : ℕ) : Type 0 where
  pub sound : valid h ≡ true
  pub long : length table ≡ lent_length h whole
  pub fits : me < servers h

-- another server of the cell
pub record Target (h : Hall) (whole : Bool) (table : List ℕ) (me target : ℕ) : Type 0 where
  pub here : Here h whole table me
  pub fits : target < servers h
  pub apart : target ≡ me → ⊥
  pub near : same h.n h.b me target ≡ true

-- another server of the hall, and the first link above b of the route to it
pub record Ahead (h : Hall) (whole : Bool) (table : List ℕ) (me goal : ℕ) (link : Option Crossing) : Type 0 where
  pub here : Here h whole table me
  pub fits : goal < servers h
  pub apart : goal ≡ me → ⊥
  pub first : link ≡ first_link h me goal

-- a packet of servers of the hall
pub record Sound (h : Hall) (p : Packet) : Type 0 where
  pub dst_fits : p.dst < servers h
  pub proxy_fits : p.has_proxy ≡ true → p.proxy < servers h
  pub retry_fits : p.retry ≤ most_retry

-- and it is neither at its goal nor at its end
pub record Standing (h : Hall) (whole : Bool) (table : List ℕ) (me : ℕ) (p : Packet) : Type 0 where
  pub here : Here h whole table me
  pub packet : Sound h p
  pub dst_apart : p.dst ≡ me → ⊥
  pub goal_apart : goal p ≡ me → ⊥
  pub alive : 0 < p.ttl

-- and this is the first link above b of the route to its goal
pub record Stopped (h : Hall) (whole : Bool) (table : List ℕ) (me : ℕ) (link : Option Crossing) (p : Packet) : Type 0 where
  pub standing : Standing h whole table me p
  pub first : link ≡ first_link h me (goal p)

-- a place of the cell and a level of a link above b
pub record Above (h : Hall) (place level : ℕ) : Type 0 where
  pub sound : valid h ≡ true
  pub inside : place < cell_size h
  pub low : h.b < level
  pub high : level ≤ h.k

-- in the cell around a server
pub record Placed (h : Hall) (me place level : ℕ) : Type 0 where
  pub above : Above h place level
  pub fits : me < servers h

-- a server and its neighbour at a level above b
pub record Crossed (h : Hall) (whole : Bool) (table : List ℕ) (u v level : ℕ) : Type 0 where
  pub here : Here h whole table u
  pub low : h.b < level
  pub high : level ≤ h.k
  pub leads : v ≡ neighbour h.n (level - 1) u

-- a hall, its table, a server and a packet there
pub record Departing (h : Hall) (table : List ℕ) (me : ℕ) (p : Packet) : Type 0 where
  pub sound : valid h ≡ true
  pub long : length table ≡ table_length h
  pub fits : me < servers h
  pub packet : Sound h p

-- two servers of a hall, which a level below 2 does not lead out of one DCell1
pub record Servers (h : Hall) (level u v : ℕ) : Type 0 where
  pub sound : valid h ≡ true
  pub u_fits : u < servers h
  pub v_fits : v < servers h
  pub together : level < 2 → same h.n 1 u v ≡ true
