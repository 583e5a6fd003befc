-- A step reroutes at most twice, a clearing and then a setting, and forwards after a proxy was set.
-- Section "One forwarding step", the reroute.
use Rattle.std.specs.Prelude.{◌≡◌, true, List, ℕ, ◌<◌}
use Rattle.hall.specs.declared.Hall.{Hall}
use Rattle.hall.specs.Halls.{valid, servers}
use Rattle.forward.specs.declared.Packet.{Packet}
use Rattle.forward.specs.Seen.{seen}
use Rattle.forward.specs.Steps.{step}
use Rattle.forward.specs.Reroutes.{Rerouted}

-- for every valid hall, every table, and a server, a dst and a proxy, if there is one, of the hall
abbrev pub TwoReroutes : Type 0
TwoReroutes = (h : Hall) (table : List ℕ) (me : ℕ) (p : Packet) → valid h ≡ true → me < servers h → p.dst < servers h
    → (p.has_proxy ≡ true → p.proxy < servers h) → Rerouted h (seen h table) me (step h table me p)
