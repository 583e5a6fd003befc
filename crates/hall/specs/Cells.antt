-- Sizes, cells, sub-cells, links and neighbours, over the level; n is the number of servers on a mini-switch.
-- Section "The hall and its numbers".
use Rattle.std.specs.Prelude.{◌≡◌, Bool, true, ℕ, zero, suc, ◌+◌, ◌-◌, ◌*◌, ◌/◌, ◌%◌, ◌<◌, eqb, leb, ltb}
use Rattle.combine.specs.Tests.{pick}

-- t0 = n; t(i) = g(i) × t(i-1): the servers of a DCell of level i
unfoldable pub t : ℕ → ℕ → ℕ
t n zero = n
t n (suc j) = (t n j + 1) * t n j

-- g0 = 1; g(i) = t(i-1) + 1: the sub-cells of a DCell of level i
unfoldable pub g : ℕ → ℕ → ℕ
g n zero = 1
g n (suc j) = t n j + 1

-- the DCell of level i around u, by its number among the t(i) consecutive uids each
unfoldable pub cell : ℕ → ℕ → ℕ → ℕ
cell n i u = u / t n i

-- x and y are in one DCell of level i
unfoldable pub same : ℕ → ℕ → ℕ → ℕ → Bool
same n i x y = eqb (cell n i x) (cell n i y)

-- the index of the sub-cell that holds u, in a cell of T + 1 sub-cells of T servers each
abbrev pub sub_over : ℕ → ℕ → ℕ
sub_over T u = u % ((T + 1) * T) / T

-- the first uid of the cell around u
abbrev pub first_over : ℕ → ℕ → ℕ
first_over T u = u / ((T + 1) * T) * ((T + 1) * T)

-- inside sub-cell p, the server that is joined to sub-cell q: q - 1 where p < q, else q
unfoldable pub port : ℕ → ℕ → ℕ
port p q = pick (ltb p q) (q - 1) q

-- the end in sub-cell p of the link between the sub-cells p and q of the cell around u, as a hall uid
abbrev pub end_over : ℕ → ℕ → ℕ → ℕ → ℕ
end_over T u p q = first_over T u + (p * T + port p q)

-- who is joined to u: server r of sub-cell s is joined to server s of sub-cell r + 1 where s <= r, else to server s - 1 of
-- sub-cell r
abbrev pub neighbour_over : ℕ → ℕ → ℕ
neighbour_over T u =
    pick (leb (sub_over T u) (u % T))
    (first_over T u + ((u % T + 1) * T + sub_over T u))
    (first_over T u + (u % T * T + (sub_over T u - 1)))

-- the same over the level: the sub-cells are of level j, the cell around u of level j + 1
unfoldable pub sub : ℕ → ℕ → ℕ → ℕ
sub n j u = sub_over (t n j) u

unfoldable pub end : ℕ → ℕ → ℕ → ℕ → ℕ → ℕ
end n j u p q = end_over (t n j) u p q

unfoldable pub neighbour : ℕ → ℕ → ℕ → ℕ
neighbour n j u = neighbour_over (t n j) u

-- the link between the sub-cells of x and y: its end on the side of x
unfoldable pub near : ℕ → ℕ → ℕ → ℕ → ℕ
near n j x y = end n j x (sub n j x) (sub n j y)

-- and its end on the side of y
unfoldable pub far : ℕ → ℕ → ℕ → ℕ → ℕ
far n j x y = end n j x (sub n j y) (sub n j x)

-- "for p < q, server p' of sub-cell p and q' of sub-cell q are joined exactly when p' = q - 1 and q' = p"
pub record Rule (p p' q q' : ℕ) : Type 0 where
  pub order : p < q
  pub here : p' ≡ q - 1
  pub there : q' ≡ p

-- u and v are joined by a link of level j + 1: one DCell of that level, and the rule from the lower sub-cell to the higher
pub data Linked (n j u v : ℕ) : Type 0 where
  up : same n (suc j) u v ≡ true → Rule (sub n j u) (u % t n j) (sub n j v) (v % t n j) → Linked n j u v
  down : same n (suc j) u v ≡ true → Rule (sub n j v) (v % t n j) (sub n j u) (u % t n j) → Linked n j u v

-- u and v are joined by a link of level at most l: two servers of one DCell0, or neighbours
pub data Joined (n l u v : ℕ) : Type 0 where
  switch : same n zero u v ≡ true → (u ≡ v → ⊥) → Joined n l u v
  link : (j : ℕ) → j < l → neighbour n j u ≡ v → Joined n l u v

-- the lowest level, up to k, that holds both x and y
unfoldable pub lowest : ℕ → ℕ → ℕ → ℕ → ℕ
lowest n zero x y = zero
lowest n (suc j) x y = pick (same n j x y) (lowest n j x y) (suc j)
