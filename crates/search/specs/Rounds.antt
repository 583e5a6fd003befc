-- A search by rounds: `adj y x` says that a usable link joins y and x, n is the number of servers, `none` the mark of one that is not reached.
-- Sections "Local distance" and "Broadcast".
use Rattle.std.specs.Prelude.{ℕ, zero, suc, ◌+◌, max, Bool, List, ◌++◌, eqb, leb, get_or, drop, set, replicate}
use Rattle.combine.specs.Tests.{pick, both, any_below}
use Rattle.combine.specs.Lists.{up_to}

-- y is reached before round r, and a link joins it to x
abbrev pub leads : (ℕ → ℕ → Bool) → ℕ → List ℕ → ℕ → ℕ → Bool
leads adj r old x y = both (leb (get_or old y 0) r) (adj y x)

-- x is not reached, and a link joins it to a server that is reached before round r
unfoldable pub new : (ℕ → ℕ → Bool) → ℕ → ℕ → ℕ → List ℕ → ℕ → Bool
new adj n none r old x = both (eqb (get_or old x 0) none) (any_below (leads adj r old x) n)

-- the mark of x behind round r: r + 1 where it is new, else as it was
unfoldable pub mark : (ℕ → ℕ → Bool) → ℕ → ℕ → ℕ → List ℕ → ℕ → ℕ
mark adj n none r old x = pick (new adj n none r old x) (r + 1) (get_or old x 0)

-- the marks of the n servers behind round r, with what stands behind them as it was
abbrev pub round : (ℕ → ℕ → Bool) → ℕ → ℕ → ℕ → List ℕ → List ℕ
round adj n none r old = up_to (mark adj n none r old) n ++ drop n old

-- before the first round the origin alone is reached
abbrev pub start : ℕ → ℕ → ℕ → List ℕ
start n none o = set (replicate n none) o 0

-- the marks before round r
unfoldable pub marks : (ℕ → ℕ → Bool) → ℕ → ℕ → ℕ → ℕ → List ℕ
marks adj n none o zero = start n none o
marks adj n none o (suc r) = round adj n none r (marks adj n none o r)

-- each server's distance from o: the marks behind n rounds
abbrev pub distances : (ℕ → ℕ → Bool) → ℕ → ℕ → ℕ → List ℕ
distances adj n none o = marks adj n none o n

-- how many of the first n marks are of servers that are reached
unfoldable pub reached_count : ℕ → List ℕ → ℕ → ℕ
reached_count none old zero = 0
reached_count none old (suc n) = reached_count none old n + pick (eqb (get_or old n 0) none) 0 1

-- the greatest of the first n marks that are of servers that are reached
unfoldable pub last_round : ℕ → List ℕ → ℕ → ℕ
last_round none old zero = 0
last_round none old (suc n) = max (last_round none old n) (pick (eqb (get_or old n 0) none) 0 (get_or old n 0))
