-- What the drops of a step mean: where the packet stood in the last pass of the step, and why it went no further.
-- Section "One forwarding step".
use Rattle.std.specs.Prelude.{◌≡◌, Bool, true, false, ℕ, suc, ◌+◌, ◌-◌, ◌≤◌, ◌<◌, Option, None}
use Rattle.hall.specs.declared.Hall.{Hall}
use Rattle.hall.specs.Cells.{same, neighbour}
use Rattle.route.specs.declared.Crossing.{Crossing}
use Rattle.route.specs.Answers.{link_of, first_link}
use Rattle.local.specs.Local.{cell_size, place_of, first_of}
use Rattle.forward.specs.declared.Packet.{Packet}
use Rattle.forward.specs.Packets.{StepAnswer}
use Rattle.forward.specs.Packets.{cleared, proxied, retried, is_arrived, goal}
use Rattle.forward.specs.Seen.{Seen}
use Rattle.forward.specs.Proxies.{is_candidate, candidate, choice}
use Rattle.forward.specs.Steps.{reachable, first_level}

module _ (h : Hall) (s : Seen) (me : ℕ) (came : Packet) where
  -- the local target of a pass, and the link above b that it is on the way to: 5, the goal; 7, the near end of the first link above b
  pub data Target (p : Packet) : Option Crossing → ℕ → Type 0 where
    the_goal : first_link h me (goal p) ≡ None → Target p None (goal p)
    the_near : {n1 n2 m : ℕ} → first_link h me (goal p) ≡ link_of n1 n2 m → s.usable m (place_of h n1) ≡ true → (me ≡ n1 → ⊥) → Target p (link_of n1 n2 m) n1

  -- why a pass leads into the reroute: 6, its link is not usable; 10, its local target is out of reach, and dst in another DCell(b)
  pub data Fails (p : Packet) : Option Crossing → Type 0 where
    unusable : {n1 n2 m : ℕ} → first_link h me (goal p) ≡ link_of n1 n2 m → s.usable m (place_of h n1) ≡ false → Fails p (link_of n1 n2 m)
    out_of_reach : {link : Option Crossing} {target : ℕ} → Target p link target → reachable h s me came target ≡ false
        → same h.n h.b me came.dst ≡ false → Fails p link

  -- the packet as it stands in a pass of the step, "arrived" or not, behind this many reroutes
  pub data Stands : Packet → Bool → ℕ → Type 0 where
    came_arrived : is_arrived me came ≡ true → Stands (cleared came) true 0
    came_so : is_arrived me came ≡ false → Stands came false 0
    was_cleared : {p : Packet} {arrived : Bool} {count f : ℕ} → Stands p arrived count → Fails p None → p.retry ≡ suc (suc f)
        → Stands (cleared (retried (suc f) p)) false (suc count)
    was_set : {p : Packet} {arrived : Bool} {count f n1 n2 m p1 i : ℕ} → Stands p arrived count → Fails p (link_of n1 n2 m) → p.retry ≡ suc (suc f)
        → choice h s (place_of h me) (first_level h s me came m arrived) ≡ candidate p1 i
        → Stands (proxied (neighbour h.n (i - 1) (first_of h me + p1)) (retried (suc f) p)) false (suc count)

  -- drop 2: dst is in the DCell(b) of self, and the local target of the last pass is out of reach
  pub record NoRoute (o : StepAnswer) : Type 0 where
    pub stood : Packet
    pub arrived : Bool
    pub stands : Stands stood arrived o.reroutes
    pub link : Option Crossing
    pub target : ℕ
    pub aims : Target stood link target
    pub unreachable : reachable h s me came target ≡ false
    pub own_cell : same h.n h.b me came.dst ≡ true

  -- drop 3: the last pass fails, and the retry is spent by then
  pub record Spent (o : StepAnswer) : Type 0 where
    pub stood : Packet
    pub arrived : Bool
    pub stands : Stands stood arrived o.reroutes
    pub link : Option Crossing
    pub fails : Fails stood link
    pub at_most_one : stood.retry ≤ 1
    pub lowered : stood.retry + o.reroutes ≡ came.retry

  -- drop 4: the last pass fails at a link above b, and no server of the DCell(b) is a candidate at any level from the first to k
  pub record NoProxy (o : StepAnswer) : Type 0 where
    pub stood : Packet
    pub arrived : Bool
    pub stands : Stands stood arrived o.reroutes
    pub n1 : ℕ
    pub n2 : ℕ
    pub m : ℕ
    pub fails : Fails stood (link_of n1 n2 m)
    pub retry_left : 1 < stood.retry
    pub no_candidate : (i : ℕ) → first_level h s me came m arrived ≤ i → i ≤ h.k → (place : ℕ) → place < cell_size h → is_candidate s (place_of h me) i place ≡ false
