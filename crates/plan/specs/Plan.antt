-- Where the next DCell1 goes, and how many went before one. m is the level less 1: a DCell of level m + 1 is made of DCell1s, and is one where
-- m is 0.
-- Request K5; source document 000, section 5.
use Rattle.std.specs.Prelude.{Bool, List, [], ◌∷◌, ℕ, zero, suc, ◌+◌, ◌-◌, ◌*◌, ◌/◌, ◌%◌, ◌<◌, eqb, ltb}
use Rattle.combine.specs.Tests.{pick}
use Rattle.hall.specs.Cells.{t, sub}
use Rattle.hall.specs.Halls.{racks}

-- In a DCell whose sub-cells have C DCell1s each, with c DCell1s fitted: the sub-cell of the next one, and how many that sub-cell has.
-- The first G go one to each of G sub-cells; then these are filled in turn; then each further one is begun and filled.
unfoldable pub index : ℕ → ℕ → ℕ → ℕ
index G C c = pick (ltb c G) c (pick (ltb c (G * C)) ((c - G) / (C - 1)) (c / C))

unfoldable pub inside : ℕ → ℕ → ℕ → ℕ
inside G C c = pick (ltb c G) 0 (pick (ltb c (G * C)) ((c - G) % (C - 1) + 1) (c % C))

-- the prefix of the next DCell1 in a DCell of level m + 1, where c are fitted
unfoldable pub place : ℕ → ℕ → ℕ → List ℕ
place n zero c = []
place n (suc m) c = index (t n 1 + 1) (racks n m) c ∷ place n m (inside (t n 1 + 1) (racks n m) c)

-- r is the prefix of a DCell1 in a DCell of level m + 1: one index for each level from m + 1 down to 2
abbrev pub IsPrefix : ℕ → ℕ → List ℕ → Type 0
IsPrefix n zero [] = Unit {0}
IsPrefix n zero (q ∷ r) = ⊥
IsPrefix n (suc m) [] = ⊥
IsPrefix n (suc m) (q ∷ r) = (q < t n (suc m) + 1) × IsPrefix n m r

-- how many are fitted before the DCell1 with a prefix
unfoldable pub before : ℕ → ℕ → ℕ → ℕ → ℕ
before G C q i = pick (ltb q G) (pick (eqb i 0) q (G + (q * (C - 1) + (i - 1)))) (q * C + i)

unfoldable pub rank : ℕ → ℕ → List ℕ → ℕ
rank n zero r = 0
rank n (suc m) [] = 0
rank n (suc m) (q ∷ r) = before (t n 1 + 1) (racks n m) q (rank n m r)

-- the prefix of the DCell1 that holds server u, in its DCell of level m + 1
unfoldable pub prefix_of : ℕ → ℕ → ℕ → List ℕ
prefix_of n zero u = []
prefix_of n (suc m) u = sub n (suc m) u ∷ prefix_of n m u

-- the first server of the DCell1 with prefix r
unfoldable pub start : ℕ → ℕ → List ℕ → ℕ
start n zero r = 0
start n (suc m) [] = 0
start n (suc m) (q ∷ r) = q * t n (suc m) + start n m r

-- server u of a hall of level m + 1 is fitted, where c DCell1s are
abbrev pub fitted_by : ℕ → ℕ → ℕ → ℕ → Bool
fitted_by n m c u = ltb (rank n m (prefix_of n m u)) c
