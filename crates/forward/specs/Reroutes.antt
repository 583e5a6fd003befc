-- The reroutes of a step: at most two, a clearing and then a setting, and a step forwards after a proxy was set.
-- Section "One forwarding step", the reroute.
use Rattle.std.specs.Prelude.{◌≡◌, true, ℕ, ◌+◌, ◌-◌, ◌≤◌, ◌<◌}
use Rattle.hall.specs.declared.Hall.{Hall}
use Rattle.hall.specs.Cells.{neighbour}
use Rattle.local.specs.Local.{none, cell_size, place_of, first_of}
use Rattle.forward.specs.Packets.{StepAnswer}
use Rattle.forward.specs.Packets.{forwarded}
use Rattle.forward.specs.Seen.{Seen}

-- a server of the cell that is chosen for a new proxy: it can be reached, and its port is usable
pub record Suits (h : Hall) (s : Seen) (me p1 i : ℕ) : Type 0 where
  pub below : p1 < cell_size h
  pub low : h.b < i
  pub high : i ≤ h.k
  pub at_distance : s.distance (place_of h me) p1 ≡ none → ⊥
  pub usable : s.usable i p1 ≡ true

-- a proxy was set in a step: to the far end of a usable port of a server that can be reached; and the step forwards
pub record SetTo (h : Hall) (s : Seen) (me : ℕ) (o : StepAnswer) : Type 0 where
  pub p1 : ℕ
  pub i : ℕ
  pub suits : Suits h s me p1 i
  pub forwards : o.ending ≡ forwarded
  pub has_proxy : o.packet.has_proxy ≡ true
  pub is_proxy : o.packet.proxy ≡ neighbour h.n (i - 1) (first_of h me + p1)

-- the reroutes of a step: none, a clearing, a setting, or a clearing and then a setting
pub data Rerouted (h : Hall) (s : Seen) (me : ℕ) (o : StepAnswer) : Type 0 where
  not_rerouted : o.reroutes ≡ 0 → Rerouted h s me o
  one_clearing : o.reroutes ≡ 1 → Rerouted h s me o
  one_setting : o.reroutes ≡ 1 → SetTo h s me o → Rerouted h s me o
  clearing_and_setting : o.reroutes ≡ 2 → SetTo h s me o → Rerouted h s me o
