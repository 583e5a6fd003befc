-- One forwarding step, line by line as the section numbers it, recursive on the retry.
-- Section "One forwarding step".
use Rattle.std.specs.Prelude.{Bool, true, false, not, List, ℕ, zero, suc, ◌+◌, ◌-◌, eqb, ltb, Option, Some, None}
use Rattle.combine.specs.Tests.{pick, both}
use Rattle.hall.specs.declared.Hall.{Hall}
use Rattle.hall.specs.Cells.{same, neighbour}
use Rattle.route.specs.declared.Crossing.{Crossing}
use Rattle.route.specs.Answers.{first_link}
use Rattle.local.specs.Local.{none, place_of, first_of}
use Rattle.forward.specs.declared.Packet.{Packet}
use Rattle.forward.specs.Packets.{StepAnswer}
use Rattle.forward.specs.declared.Candidate.{Candidate}
use Rattle.forward.specs.Packets.{drop_ttl, drop_route, drop_retry, drop_proxy, delivered, cleared, tidied, proxied, retried, is_arrived, goal, sent, ended, one_more}
use Rattle.forward.specs.Seen.{Seen, seen}
use Rattle.forward.specs.Proxies.{choice}

-- what a reroute answers, for the link that is out (or none), the packet as it stands, and "arrived"
abbrev pub Reroute : Type 0
Reroute = Option Crossing → Packet → Bool → StepAnswer

module _ (h : Hall) (s : Seen) (me : ℕ) (came : Packet) where
  -- the local target can be reached
  unfoldable pub reachable : ℕ → Bool
  reachable target = not (eqb (s.distance (place_of h target) (place_of h me)) none)

  -- 8: forward to the local next hop; 9: unreachable, and dst is in the DCell(b) of self: drop 2; 10: otherwise reroute
  abbrev pub towards : Reroute → Option Crossing → Packet → Bool → ℕ → StepAnswer
  towards reroute link p arrived target =
      pick (reachable target)
      (sent (first_of h me + s.hop (place_of h me) (place_of h target)) p)
      (pick (same h.n h.b me came.dst) (ended drop_route came) (reroute link p arrived))

  -- 5: no such link: the local target is the goal; 6: such a link, not usable: reroute; 7: usable: if self = n1 forward to n2, else
  -- the local target is n1
  abbrev pub across : Reroute → Packet → Bool → Option Crossing → StepAnswer
  across reroute p arrived None = towards reroute None p arrived (goal p)
  across reroute p arrived (Some link) =
      pick (s.usable link.level (place_of h link.near))
      (pick (eqb me link.near) (sent link.far p) (towards reroute (Some link) p arrived link.near))
      (reroute (Some link) p arrived)

  -- 4: the route from self to the goal and its first link above level b
  abbrev pub from4 : Reroute → Packet → Bool → StepAnswer
  from4 reroute p arrived = across reroute p arrived (first_link h me (goal p))

  -- the new proxy is the neighbour of the candidate's server at the candidate's level
  abbrev pub set_proxy : Reroute → Packet → Option Candidate → StepAnswer
  set_proxy reroute p None = ended drop_proxy came
  set_proxy reroute p (Some c) = one_more (from4 reroute (proxied (neighbour h.n (c.level - 1) (first_of h me + c.place)) p) false)

  -- the level to try first: that of the link, plus one if "arrived" and it is below k
  unfoldable pub first_level : ℕ → Bool → ℕ
  first_level m arrived = m + pick (both arrived (ltb m h.k)) 1 0

  -- a proxy in the own cell that can't be reached is cleared; else a new one is set
  abbrev pub rerouted : Reroute → Option Crossing → Packet → Bool → StepAnswer
  rerouted reroute None p arrived = one_more (from4 reroute (cleared p) false)
  rerouted reroute (Some link) p arrived = set_proxy reroute p (choice h s (place_of h me) (first_level link.level arrived))

  -- if retry <= 1, drop 3; else lower it by one
  unfoldable pub reroute_on : ℕ → Option Crossing → Packet → Bool → StepAnswer
  reroute_on zero link p arrived = ended drop_retry came
  reroute_on (suc zero) link p arrived = ended drop_retry came
  reroute_on (suc (suc f)) link p arrived = rerouted (reroute_on (suc f)) link (retried (suc f) p) arrived

  -- from 4 on, with as many reroutes as the retry allows
  unfoldable pub step_from : Packet → Bool → StepAnswer
  step_from p arrived = from4 (reroute_on p.retry) p arrived

-- 1: self = dst: deliver; 2: TTL = 0: drop 1; 3: proxy = self: clear it and remember "arrived"
unfoldable pub step_on : Hall → Seen → ℕ → Packet → StepAnswer
step_on h s me p =
    pick (eqb me p.dst) (ended delivered p)
    (pick (eqb p.ttl 0) (ended drop_ttl p)
    (pick (is_arrived me p) (step_from h s me p (cleared p) true) (step_from h s me p p false)))

-- the step at a server over the table that it is lent
abbrev pub step : Hall → List ℕ → ℕ → Packet → StepAnswer
step h lent me p = step_on h (seen h lent) me (tidied p)
