-- What the promises of journeys speak of: a journey that is not refused, and a link that is usable.
-- Sections "Port codes" and "One forwarding step"; request K3.
use Rattle.std.specs.Prelude.{◌≡◌, true, List, ℕ, ◌<◌, length}
use Rattle.hall.specs.declared.Hall.{Hall}
use Rattle.hall.specs.Halls.{valid, servers}
use Rattle.ports.specs.Codes.{table_length}
use Rattle.ports.specs.Links.{joined}
use Rattle.forward.specs.declared.Packet.{Packet}

-- a valid hall, a hall table of the right length with any bytes, and a source, a dst and a proxy, if there is one, of the hall
pub record Sound (h : Hall) (table : List ℕ) (source : ℕ) (p : Packet) : Type 0 where
  pub hall_valid : valid h ≡ true
  pub table_long : length table ≡ table_length h
  pub source_in : source < servers h
  pub dst_in : p.dst < servers h
  pub proxy_in : p.has_proxy ≡ true → p.proxy < servers h

-- a link from u to v is usable: a link of any level joins them, and both its end ports have code 1
abbrev pub Usable : Hall → List ℕ → ℕ → ℕ → Type 0
Usable h table u v = joined h table h.k u v ≡ true
