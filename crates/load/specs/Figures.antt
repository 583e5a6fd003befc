-- The figures by level: what a port begins, what a link carries.
-- Request K13; source document 000, Theorems 5 and 6.
use Rattle.std.specs.Prelude.{ℕ, zero, suc, ◌+◌, ◌-◌, ◌*◌, ◌^◌}
use Rattle.sums.specs.Sums.{sum, product}
use Rattle.hall.specs.Cells.{t, g}

-- what a server's port at level i begins: t(i-1) × g(i+1) × .. × g(k); at level 0 (n-1) × g(1) × .. × g(k)
unfoldable pub share : ℕ → ℕ → ℕ → ℕ
share n k zero = (n - 1) * product (g n) 0 k
share n k (suc a) = t n a * product (g n) (suc a) (k - suc a)

-- the paper's figure for level 0: t(k) less those of the levels 1 to k
unfoldable pub paper_rest : ℕ → ℕ → ℕ
paper_rest n k = t n k - sum (λ a. share n k (suc a)) k

-- 2g(j) - 1: a route of a sub-cell is part of so many of its cell of level j
unfoldable pub ways : ℕ → ℕ → ℕ
ways n j = 2 * g n j - 1

-- what a link of level i carries each way: t(i-1)² × (2g(i+1) - 1) × .. × (2g(k) - 1); at level 0 the product alone
unfoldable pub load : ℕ → ℕ → ℕ → ℕ
load n k zero = product (ways n) 0 k
load n k (suc a) = t n a * t n a * product (ways n) (suc a) (k - suc a)

-- what a server's cable to its switch carries each way: that to each of the other servers there
unfoldable pub cable : ℕ → ℕ → ℕ
cable n k = (n - 1) * load n k 0

-- what a server's cable and its links of all levels carry together, each way
unfoldable pub loads : ℕ → ℕ → ℕ
loads n k = cable n k + sum (λ a. load n k (suc a)) k

-- the paper's upper figure for a link of level i
unfoldable pub upper : ℕ → ℕ → ℕ → ℕ
upper n k i = t n k * 2 ^ (k - i)
