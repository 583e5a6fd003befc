-- Which halls there are, and what a call asks of a hall and a uid.
-- Section "The hall and its numbers"; request K5.
use Rattle.std.specs.Prelude.{Bool, ℕ, zero, suc, min, ◌+◌, ◌-◌, ◌*◌, ◌≤◌, eqb, leb, ltb}
use Rattle.combine.specs.Tests.{pick, both}
use Rattle.hall.specs.declared.Hall.{Hall}
use Rattle.hall.specs.Refusals.{Ask, bad_hall, bad_uid, bad_range}
use Rattle.hall.specs.Cells.{t}

-- the most servers on a mini-switch
abbrev pub most_n : ℕ
most_n = 8

-- the highest level that a hall may have
abbrev pub top : ℕ
top = 3

-- the places of a tuple, one for each level that a hall may have
abbrev pub places : ℕ
places = top + 1

-- the servers of the largest hall
abbrev pub largest : ℕ
largest = 27630792

-- the hall of four numbers
abbrev pub hall_of : ℕ → ℕ → ℕ → ℕ → Hall
hall_of n k b count = record { n = n; k = k; b = b; count = count }

-- how many racks, which are DCell1s, a DCell of level m + 1 has
unfoldable pub racks : ℕ → ℕ → ℕ
racks n zero = 1
racks n (suc m) = (t n (suc m) + 1) * racks n m

-- the DCell1s that a hall can have: t(k) / t(1), and 1 with k below 2
unfoldable pub capacity : ℕ → ℕ → ℕ
capacity n k = racks n (k - 1)

-- the hall of which every DCell1 is fitted
abbrev pub full_hall : ℕ → ℕ → ℕ → Hall
full_hall n k b = hall_of n k b (capacity n k)

-- a hall of n servers to a switch and top level k has sizes that fit: none is above the largest (`t_fits`)
pub record Sized (n k : ℕ) : Type 0 where
  pub n_high : n ≤ most_n
  pub k_high : k ≤ top

-- n 2 to 8
unfoldable pub n_fits : ℕ → Bool
n_fits n = both (leb 2 n) (leb n most_n)

-- k 0 to 3
unfoldable pub k_fits : ℕ → ℕ → Bool
k_fits n k = leb k top

-- b 0 to the smaller of 1 and k
unfoldable pub b_fits : ℕ → ℕ → Bool
b_fits k b = leb b (min 1 k)

-- the DCell1s fitted are no more than there can be; with k below 2 there is one
unfoldable pub count_fits : ℕ → ℕ → ℕ → Bool
count_fits n k count = pick (leb 2 k) (leb count (capacity n k)) (eqb count 1)

-- there is such a hall
unfoldable pub valid : Hall → Bool
valid h = both (n_fits h.n) (both (k_fits h.n h.k) (both (b_fits h.k h.b) (count_fits h.n h.k h.count)))

-- every DCell1 of the hall is fitted
unfoldable pub is_full : Hall → Bool
is_full h = eqb h.count (capacity h.n h.k)

-- t(k): the servers of the hall
unfoldable pub servers : Hall → ℕ
servers h = t h.n h.k

abbrev pub asks_hall : Hall → Ask
asks_hall h = (bad_hall, valid h)

-- a uid is below t(k)
abbrev pub asks_uid : Hall → ℕ → Ask
asks_uid h u = (bad_uid, ltb u (servers h))

-- a level is from its lowest to k
abbrev pub asks_level : Hall → ℕ → ℕ → Ask
asks_level h lowest i = (bad_range, both (leb lowest i) (leb i h.k))
