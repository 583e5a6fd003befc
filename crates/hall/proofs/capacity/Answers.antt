-- `hall::capacity` meets its contract: k / 2 is 1 from level 2 on, and k / 3 from level 3 on, which is the highest.
use mathlib.Core.Path.{◌≡◌, refl}
use Prim.Native.Nat.{ℕ, zero, suc, ◌+◌, ◌*◌, ◌/◌, ◌≤◌}
use native.Mathlib.Nat.{mul-le-mul}
use native.Mathlib.Omega.{arith}
use Rattle.hall.specs.Cells.{t}
use Rattle.hall.specs.Halls.{top, Sized, racks, capacity}
use Rattle.hall.proofs.Racks.{one_is, one_fits}
use Rattle.hall.proofs.capacity.Goals as goal

two_is : (n : ℕ) → ((n + 1) * n + 1) * ((n + 1) * n) ≡ t n 2
unfolding t
two_is n = refl

-- the product by the level
by_level : (n k : ℕ) → k ≤ top → (t n 1 * (k / 2) + 1) * (t n 2 * (k / 3) + 1) ≡ capacity n k
unfolding capacity racks
by_level n zero h = omega arith
by_level n (suc zero) h = omega arith
by_level n (suc (suc zero)) h = omega arith
by_level n (suc (suc (suc zero))) h = omega arith
by_level n (suc (suc (suc (suc k)))) h = absurd (omega arith)

level_is : (n k : ℕ) → k ≤ top → ((n + 1) * n * (k / 2) + 1) * (((n + 1) * n + 1) * ((n + 1) * n) * (k / 3) + 1) ≡ capacity n k
level_is n k h = rw (two_is n, one_is n) (by_level n k h)

-- what the numbers are at most
record Fits (n k : ℕ) : Type 0 where
  one : (n + 1) * n ≤ 72
  two : ((n + 1) * n + 1) * ((n + 1) * n) ≤ 5256
  first : (n + 1) * n * (k / 2) ≤ 72
  second : ((n + 1) * n + 1) * ((n + 1) * n) * (k / 3) ≤ 5256
  all : ((n + 1) * n * (k / 2) + 1) * (((n + 1) * n + 1) * ((n + 1) * n) * (k / 3) + 1) ≤ 383761

fits : (n k : ℕ) → Sized n k → Fits n k
fits n k z =
    let one = one_fits n z.n_high in
    let g : (n + 1) * n + 1 ≤ 73 = omega arith in
    let two : ((n + 1) * n + 1) * ((n + 1) * n) ≤ 5256 = mul-le-mul g one in
    let a : k / 2 ≤ 1 = omega (arith, z.k_high) in
    let b : k / 3 ≤ 1 = omega (arith, z.k_high) in
    let first : (n + 1) * n * (k / 2) ≤ 72 = omega (arith, mul-le-mul one a) in
    let second : ((n + 1) * n + 1) * ((n + 1) * n) * (k / 3) ≤ 5256 = omega (arith, mul-le-mul two b) in
    let c : (n + 1) * n * (k / 2) + 1 ≤ 73 = omega arith in
    let d : ((n + 1) * n + 1) * ((n + 1) * n) * (k / 3) + 1 ≤ 5257 = omega arith in
    record { one = one; two = two; first = first; second = second; all = mul-le-mul c d }

pub overflow_add-one : goal.overflow_add-one
overflow_add-one c = omega (arith, c.requires.n_high)

pub overflow_mul-one : goal.overflow_mul-one
overflow_mul-one c = omega (arith, (fits _ _ c.requires).one)

pub overflow_add-two : goal.overflow_add-two
overflow_add-two c = omega (arith, (fits _ _ c.requires).one)

pub overflow_mul-two : goal.overflow_mul-two
overflow_mul-two c = omega (arith, (fits _ _ c.requires).two)

pub overflow_mul-result : goal.overflow_mul-result
overflow_mul-result c = omega (arith, (fits _ _ c.requires).first)

pub overflow_add-result : goal.overflow_add-result
overflow_add-result c = omega (arith, (fits _ _ c.requires).first)

pub overflow_mul-result-2 : goal.overflow_mul-result-2
overflow_mul-result-2 c = omega (arith, (fits _ _ c.requires).second)

pub overflow_add-result-2 : goal.overflow_add-result-2
overflow_add-result-2 c = omega (arith, (fits _ _ c.requires).second)

pub overflow_mul-result-3 : goal.overflow_mul-result-3
overflow_mul-result-3 c = omega (arith, (fits _ _ c.requires).all)

pub returns : goal.returns
returns c = level_is _ _ c.requires.k_high
