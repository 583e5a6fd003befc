-- A cell and a sub-cell may be read off the server's sub-cell by one division each, and what is added to a cell's first uid fits 64 bits
-- where the size fits 32.
use mathlib.Core.Path.{◌≡◌, ◌∙◌, ap}
use Prim.Native.Nat.{ℕ, ◌+◌, ◌*◌, ◌/◌, ◌%◌, ◌<◌, ◌≤◌}
use native.Mathlib.Nat.{mul-le-mul}
use native.Mathlib.Omega.{arith}
use lib.Dec.{ltb}
use lib.Arith.{digits_div, digits_mod}
use borrow.Author.Tests.{ltb-true, ltb-false}
use Rattle.combine.proofs.Tests.{cases}
use Rattle.hall.specs.Cells.{sub_over, port}
use Rattle.hall.proofs.Place.{cell_of, sub_below, port_lt, port_ge}

pub cell_over : (T u : ℕ) → u / T / (T + 1) ≡ u / ((T + 1) * T)
cell_over T u = ap (λ (k : ℕ). k / (T + 1)) (cell_of T u) ∙ digits_div (u / ((T + 1) * T)) (sub_below T u)

pub sub_over_lem : (T u : ℕ) → u / T % (T + 1) ≡ sub_over T u
sub_over_lem T u = ap (λ (k : ℕ). k % (T + 1)) (cell_of T u) ∙ digits_mod (u / ((T + 1) * T)) (sub_below T u)

-- a product of two numbers of 32 bits
pub times_fits : (p T : ℕ) → T < 4294967296 → p ≤ T → p * T ≤ 18446744065119617025
times_fits p T h l =
    let m : p ≤ 4294967295 = omega arith in
    let r : T ≤ 4294967295 = omega arith in
    omega (arith, mul-le-mul m r)

pub port_below : (p q T : ℕ) → q ≤ T → port p q ≤ T
port_below p q T h =
    cases (ltb p q)
    (λ e. omega (arith, port_lt p q (ltb-true p q e)))
    (λ e. omega (arith, port_ge p q (ltb-false p q e)))
