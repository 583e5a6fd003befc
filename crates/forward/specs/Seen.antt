-- All that a step sees of the table it is lent: local distances and next hops, which rest on the usable links of level at most b, and
-- which links above b are usable. Servers of the cell are places in it.
-- Sections "Port codes" and "Local distance"; request K3.
use Rattle.std.specs.Prelude.{Bool, List, ℕ}
use Rattle.combine.specs.Tests.{both}
use Rattle.hall.specs.declared.Hall.{Hall}
use Rattle.ports.specs.Codes.{is_up, up}
use Rattle.local.specs.Local.{distance, hop}
use Rattle.ends.specs.Tables.{cell_part, far_in}

pub record Seen : Type 0 where
  -- the distance between two places, `none` where there is none
  pub distance : ℕ → ℕ → ℕ
  -- the local next hop from a place towards a place
  pub hop : ℕ → ℕ → ℕ
  -- the link of level i above b at a place is usable
  pub usable : ℕ → ℕ → Bool

-- a link above b is usable when both end ports have code 1: the near one's stands among the cell's codes, the far one's behind them
unfoldable pub usable : Hall → List ℕ → ℕ → ℕ → Bool
usable h lent i place = both (up h lent place i) (is_up (far_in h lent place i))

abbrev pub seen : Hall → List ℕ → Seen
seen h lent = record { distance = distance h (cell_part h lent); hop = hop h (cell_part h lent); usable = usable h lent }
