-- What filling in the places of a route asks: the sizes of a hall, two places inside one of its DCells, room for its longest route.
-- Sections "The hall and its numbers" and "Route without failures".
use Rattle.std.specs.Prelude.{◌≡◌, List, [], ◌∷◌, ℕ, suc, ◌+◌, ◌*◌, ◌^◌, ◌≤◌, ◌<◌, eqb, get_or}
use Rattle.combine.specs.Tests.{pick}
use Rattle.hall.specs.Cells.{t}
use Rattle.hall.specs.Halls.{places, largest}
use Rattle.route.specs.Answers.{longest}

-- the route between two servers of one DCell0
unfoldable pub in_switch : ℕ → ℕ → List ℕ
in_switch x y = pick (eqb x y) (x ∷ []) (x ∷ y ∷ [])

-- t(0): the servers on a mini-switch, as the sizes have them
abbrev pub per_switch : List ℕ → ℕ
per_switch sizes = get_or sizes 0 0

-- these are the sizes t(0) .. t(k) of a hall
pub record HallSizes (sizes : List ℕ) (k : ℕ) : Type 0 where
  pub sized : (i : ℕ) → i ≤ k → get_or sizes i 0 ≡ t (per_switch sizes) i
  pub positive : 0 < per_switch sizes
  pub levels : k < places

-- the DCell of a level of such a hall, by its first uid, and two places inside it
pub record Inside (sizes : List ℕ) (level first from to : ℕ) : Type 0 where
  pub top : ℕ
  pub hall : HallSizes sizes top
  pub low : level ≤ top
  pub number : ℕ
  pub starts : first ≡ number * t (per_switch sizes) level
  pub fits : first + t (per_switch sizes) level ≤ largest
  pub from_in : from < t (per_switch sizes) level
  pub to_in : to < t (per_switch sizes) level

-- from place `at` on there is room for the longest route of the level, and nothing is written behind `at` yet
pub record Room (uids : List ℕ) (level at : ℕ) : Type 0 where
  pub fits : at + 2 ^ suc level ≤ longest
  pub clear : (i : ℕ) → at < i → get_or uids i 0 ≡ 0
