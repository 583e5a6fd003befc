-- How a round is worked out where the numbers stand: sweeps over the switches and over the links of each level, each of which reads
-- who is reached before the round and gives the round's number to who is not.
-- Section "Broadcast"; request K5.
use Rattle.std.specs.Prelude.{◌≡◌, Bool, true, false, List, ℕ, zero, suc, ◌+◌, ◌-◌, ◌*◌, ◌/◌, ◌%◌, ◌≤◌, ◌<◌, eqb, leb, ltb, length, get_or, take}
use Rattle.combine.specs.Tests.{pick, both, either, any_below}
use Rattle.hall.specs.declared.Hall.{Hall}
use Rattle.hall.specs.Cells.{t, sub_over, neighbour}
use Rattle.hall.specs.Halls.{most_n, valid, servers}
use Rattle.ports.specs.Codes.{up}
use Rattle.ports.specs.Links.{both_up, touched}
use Rattle.search.specs.Rounds.{start}
use Rattle.broadcast.specs.declared.places.Place.{Place}
use Rattle.plan.specs.Answers.{fitted, fitted_servers}
use Rattle.broadcast.specs.Broadcasts.{none, highest, scope_fits, scope_size}

-- the places that the rounds go over, of those of the source's DCell(s): all within a DCell1, in a DCell2 those of its fitted servers, which are
-- its first; none where the source is not fitted
unfoldable pub fitted_places : Hall → ℕ → ℕ → ℕ
fitted_places h source s = pick (fitted h source) (pick (ltb s highest) (scope_size h s) (fitted_servers h source)) 0

-- y is reached before round r
abbrev pub reached_by : ℕ → List ℕ → ℕ → Bool
reached_by r old y = leb (get_or old y 0) r

-- x is not reached, and passes q
unfoldable pub fresh : (ℕ → Bool) → List ℕ → ℕ → Bool
fresh q old x = both (eqb (get_or old x 0) none) (q x)

-- what round r makes of the number of x, in a sweep that reaches who passes q
unfoldable pub swept : (ℕ → Bool) → ℕ → List ℕ → ℕ → ℕ
swept q r old x = pick (fresh q old x) (r + 1) (get_or old x 0)

-- a sweep of round r has made room of old; `any` says whether it reached somebody
pub record Sweep (q : ℕ → Bool) (r : ℕ) (old room : List ℕ) (any : Bool) : Type 0 where
  pub long : length room ≡ length old
  pub each : (x : ℕ) → get_or room x 0 ≡ swept q r old x
  pub told : any ≡ any_below (fresh q old) (length old)

-- a to b, without b
abbrev pub between : ℕ → ℕ → ℕ → Bool
between a b x = both (leb a x) (ltb x b)

-- a server of the switch s with port 0 up
unfoldable pub open_on : Hall → List ℕ → ℕ → ℕ → Bool
open_on h table s x = both (between (s * h.n) (s * h.n + h.n) x) (up h table x 0)

-- a server of the switch s that its switch reaches
unfoldable pub on_switch : Hall → List ℕ → (ℕ → Bool) → ℕ → ℕ → Bool
on_switch h table p s x = both (between (s * h.n) (s * h.n + h.n) x) (touched h table p 0 x)

-- one of the first `size` servers that its switch reaches
unfoldable pub on_switches : Hall → List ℕ → (ℕ → Bool) → ℕ → ℕ → Bool
on_switches h table p size x = both (ltb x size) (touched h table p 0 x)

-- the link of level j + 1 reaches x
unfoldable pub over_link : Hall → List ℕ → (ℕ → Bool) → ℕ → ℕ → Bool
over_link h table p j x = both (p (neighbour h.n j x)) (both_up h table (suc j) (neighbour h.n j x) x)

-- one of the first `size` servers that its link of level j + 1 reaches
unfoldable pub on_links : Hall → List ℕ → (ℕ → Bool) → ℕ → ℕ → ℕ → Bool
on_links h table p size j x = both (ltb x size) (over_link h table p j x)

-- one of the first `size` servers that a link of level 1 to l reaches
unfoldable pub on_levels : Hall → List ℕ → (ℕ → Bool) → ℕ → ℕ → ℕ → Bool
on_levels h table p size zero x = false
on_levels h table p size (suc j) x = either (on_levels h table p size j x) (on_links h table p size j x)

-- one of the first `size` servers that a link of level at most s reaches
unfoldable pub within : Hall → List ℕ → (ℕ → Bool) → ℕ → ℕ → ℕ → Bool
within h table p size s x = both (ltb x size) (touched h table p s x)

-- the place of a server in cells of T + 1 sub-cells of T servers each
abbrev pub place_at : ℕ → ℕ → Place
place_at T x = record { base = x / ((T + 1) * T) * ((T + 1) * T); sub = sub_over T x; inside = x % T }

-- the place behind it
abbrev pub next_place : ℕ → Place → Place
next_place T p =
    pick (ltb (p.inside + 1) T) (record { base = p.base; sub = p.sub; inside = p.inside + 1 })
    (pick (ltb p.sub T) (record { base = p.base; sub = p.sub + 1; inside = 0 })
    (record { base = p.base + (T + 1) * T; sub = 0; inside = 0 }))

-- the neighbour of the server there
abbrev pub neighbour_at : ℕ → Place → ℕ
neighbour_at T p =
    pick (leb p.sub p.inside) (p.base + ((p.inside + 1) * T + p.sub)) (p.base + (p.inside * T + (p.sub - 1)))

-- numbers that the largest scope bounds
pub record PlaceFits (T : ℕ) (p : Place) : Type 0 where
  pub size_fits : T ≤ 72
  pub base_fits : p.base ≤ 5256
  pub sub_fits : p.sub ≤ 72
  pub inside_fits : p.inside ≤ 72

-- the switch s lies in the room
pub record SwitchFits (h : Hall) (s : ℕ) (room : List ℕ) : Type 0 where
  pub inside : s * h.n + h.n ≤ length room
  pub small : s * h.n + h.n ≤ 5256

-- a source of a hall, and the servers of its scope
pub record Scoped (h : Hall) (source s size : ℕ) : Type 0 where
  pub sound : valid h ≡ true
  pub below : source < servers h
  pub scope : scope_fits h s ≡ true
  pub size_is : size ≡ scope_size h s

-- a round over the first `size` places of a hall's scope in a room, in whole switches
pub record RoundFits (h : Hall) (s size r : ℕ) (room : List ℕ) : Type 0 where
  pub n_low : 2 ≤ h.n
  pub n_high : h.n ≤ most_n
  pub scope_high : s ≤ 2
  pub whole : size / h.n * h.n ≡ size
  pub most : size ≤ t h.n s
  pub inside : t h.n s ≤ length room
  pub small : r < 5256

-- the links of level j + 1 of such a room
pub record LinksFit (h : Hall) (size j cell r : ℕ) (room : List ℕ) : Type 0 where
  pub scope : ℕ
  pub fits : RoundFits h scope size r room
  pub below : j < scope
  pub cell_is : cell ≡ t h.n j

-- nobody of a hall's scope behind the first `size` places is reached
abbrev pub Behind : Hall → ℕ → ℕ → List ℕ → Type 0
Behind h s size room = (y : ℕ) → size ≤ y → y < t h.n s → get_or room y 0 ≡ none

-- rounds are ready to run: the origin alone is reached
pub record Ready (h : Hall) (s size origin : ℕ) (room : List ℕ) : Type 0 where
  pub fits : RoundFits h s size 0 room
  pub low : origin < size
  pub begun : take size room ≡ start size none origin
  pub behind : Behind h s size room
