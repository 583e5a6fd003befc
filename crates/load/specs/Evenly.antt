-- How evenly the load falls: request K13 word for word, and the same of every level.
use Rattle.std.specs.Prelude.{◌≡◌, ℕ, ◌+◌, ◌-◌, ◌*◌, ◌<◌, ◌≤◌}
use Rattle.sums.specs.Sums.{sum, product}
use Rattle.hall.specs.Cells.{t, g, Linked}
use Rattle.route.specs.Walks.{LinkOf}
use Rattle.load.specs.Counts.{carries, sends, takes, begins, all_links}
use Rattle.load.specs.Figures.{paper_rest, load, cable, loads, upper}

-- n servers to a switch, k the top level
pub record Evenly (n k : ℕ) : Type 0 where
  -- each top-level link carries exactly t(k-1)² routes each way
  pub top_link : (u v : ℕ) → u < t n k → Linked n (k - 1) u v
      → (carries n k u v ≡ t n (k - 1) * t n (k - 1)) × (carries n k v u ≡ t n (k - 1) * t n (k - 1))
  -- from one server, its port at level k begins the routes to exactly t(k-1) others
  pub top_port : (x : ℕ) → x < t n k → begins n k x k ≡ t n (k - 1)
  -- its port at level i, for 0 < i < k, begins t(i-1) × g(i+1) × .. × g(k)
  pub other_port : (x i : ℕ) → x < t n k → 0 < i → i < k → begins n k x i ≡ t n (i - 1) * product (g n) i (k - i)
  -- the port at level 0 begins the rest, (n-1) × g(1) × .. × g(k)
  pub switch_port : (x : ℕ) → x < t n k → begins n k x 0 ≡ (n - 1) * product (g n) 0 k
  -- one fewer than the paper says
  pub one_fewer : (x : ℕ) → x < t n k → begins n k x 0 + 1 ≡ paper_rest n k
  -- all ports together, 0 to k, begin the routes to every other server
  pub all_ports : (x : ℕ) → x < t n k → sum (begins n k x) (k + 1) ≡ t n k - 1

-- the links of every level, and the cables to the switches
pub record EveryLevel (n k : ℕ) : Type 0 where
  -- each link of level i carries as much as any other of that level, each way
  pub each_link : (i u v : ℕ) → i ≤ k → u < t n k → LinkOf n i u v → (carries n k u v ≡ load n k i) × (carries n k v u ≡ load n k i)
  -- so does each cable to a switch
  pub each_cable : (u : ℕ) → u < t n k → (sends n k u ≡ cable n k) × (takes n k u ≡ cable n k)
  -- that is less than the paper's upper figure, t(k) × 2^(k-i)
  pub link_under : (i u v : ℕ) → i ≤ k → u < t n k → LinkOf n i u v → load n k i < upper n k i
  pub cable_under : (u : ℕ) → u < t n k → cable n k < upper n k 0
  -- all links of all routes are what the cables and links of t(k) servers carry
  pub all_links_lem : all_links n k ≡ t n k * loads n k
