-- `hall::count_fits` meets its contract: the capacity bounds the count, and with k below 2 it is 1, so a count other than 0 is the one.
use mathlib.Core.Path.{◌≡◌}
use mathlib.Core.Bool.{false}
use Prim.Native.Nat.{ℕ, ◌+◌, ◌/◌, ◌≤◌, ◌<◌}
use native.Mathlib.Omega.{arith}
use lib.Dec.{leb, ltb}
use borrow.Author.Tests.{le-leb, lt-leb, lt-ltb, eq-eqb, ne_eqb, leb-true, leb-false, ltb-true, ltb-false}
use Rattle.combine.proofs.Tests.{cases}
use Rattle.hall.specs.Halls.{capacity, count_fits}
use Rattle.hall.proofs.Racks.{capacity_low, capacity_small}
use Rattle.hall.proofs.count_fits.Goals as goal

too_many : (n k count r : ℕ) → r ≡ capacity n k → r < count → false ≡ count_fits n k count
unfolding count_fits
too_many n k count r e l = cases (leb 2 k)
    (λ q. rw (q, lt-leb count (capacity n k) (omega arith)))
    (λ q.
    let o = capacity_low n k (leb-false 2 k q) in
    rw (q, ne_eqb count 1 (λ z. omega arith)))

no_more : (n k count r : ℕ) → r ≡ capacity n k → count ≤ r → ltb 0 (count + k / 2) ≡ count_fits n k count
unfolding count_fits
no_more n k count r e l = cases (leb 2 k)
    (λ q.
    let h = leb-true 2 k q in
    rw (q, le-leb count (capacity n k) (omega arith)) (lt-ltb 0 (count + k / 2) (omega arith)))
    (λ q.
    let h = leb-false 2 k q in
    let o = capacity_low n k h in
    rw q (cases (ltb 0 (count + k / 2))
    (λ w. let z = ltb-true 0 (count + k / 2) w in rw (w, eq-eqb count 1 (omega arith)))
    (λ w. let z = ltb-false 0 (count + k / 2) w in rw (w, ne_eqb count 1 (λ x. omega arith)))))

pub returns-then-capacity-count : goal.returns-then-capacity-count
returns-then-capacity-count c = too_many _ _ _ _ c.capacity.ensures (omega arith)

pub overflow_add-result : goal.overflow_add-result
overflow_add-result c =
    omega (arith, c.capacity.ensures, capacity_small c.args.n c.args.k c.requires, c.requires.k_high)

pub returns : goal.returns
returns c = no_more _ _ _ _ c.capacity.ensures (omega arith)
