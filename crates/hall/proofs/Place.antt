-- Arithmetic of a place in a cell of T + 1 sub-cells of T servers each: server r of sub-cell p of cell c is
-- c * ((T + 1) * T) + (p * T + r), and its cell, sub-cell and place are read off as digits. Nothing here knows of levels.
use mathlib.Core.Path.{◌≡◌, sym, ◌∙◌, ap}
use Prim.Native.Nat.{ℕ, zero, suc, ◌+◌, ◌-◌, ◌*◌, ◌/◌, ◌%◌, ◌<◌, ◌≤◌}
use native.Mathlib.Nat.{mod-lt, div-add-mod', div-lt_iff_lt-mul, div-zero}
use native.Mathlib.Omega.{arith}
use lib.Dec.{ltb, leb}
use lib.Arith.{digits_lt, digits_div, digits_mod}
use borrow.Author.Tests.{ltb-true, ltb-false, lt-ltb, le-ltb, leb-true, leb-false, le-leb, lt-leb}
use Rattle.combine.specs.Tests.{pick}
use Rattle.combine.proofs.Tests.{cases}
use Rattle.hall.specs.Cells.{port}

module _ (T c p r : ℕ) (hr : r < T) where
  pub place_cell : (c * ((T + 1) * T) + (p * T + r)) / T ≡ c * (T + 1) + p
  place_cell = ap (λ (k : ℕ). k / T) (omega arith) ∙ digits_div (c * (T + 1) + p) hr

  pub place_inside : (c * ((T + 1) * T) + (p * T + r)) % T ≡ r
  place_inside = ap (λ (k : ℕ). k % T) (omega arith) ∙ digits_mod (c * (T + 1) + p) hr

  module _ (hp : p < T + 1) where
    pub place_up : (c * ((T + 1) * T) + (p * T + r)) / ((T + 1) * T) ≡ c
    place_up = digits_div c (digits_lt hp hr)

    pub place_sub : (c * ((T + 1) * T) + (p * T + r)) % ((T + 1) * T) / T ≡ p
    place_sub = ap (λ (k : ℕ). k / T) (digits_mod c (digits_lt hp hr)) ∙ digits_div p hr

-- a server's cell of T, from its cell of (T + 1) * T and its sub-cell. It holds of T = 0 too, where both sides are 0
pub sub_below : (T u : ℕ) → u % ((T + 1) * T) / T < T + 1
sub_below zero u = simp div-zero (omega arith)
sub_below (suc T) u =
    let h : 0 < suc T = omega arith in
    let k : 0 < (suc T + 1) * suc T = omega arith in
    (div-lt_iff_lt-mul h).1 (mod-lt u k)

pub made : (T u : ℕ) → u ≡ u / ((T + 1) * T) * ((T + 1) * T) + (u % ((T + 1) * T) / T * T + u % ((T + 1) * T) % T)
made T u = sym (div-add-mod' u ((T + 1) * T)) ∙ ap (λ (k : ℕ). u / ((T + 1) * T) * ((T + 1) * T) + k) (sym (div-add-mod' (u % ((T + 1) * T)) T))

pub cell_of : (T u : ℕ) → u / T ≡ u / ((T + 1) * T) * (T + 1) + u % ((T + 1) * T) / T
cell_of zero u = simp div-zero
cell_of (suc T) u =
    ap (λ (k : ℕ). k / suc T) (made (suc T) u)
    ∙ place_cell (suc T) (u / ((suc T + 1) * suc T)) (u % ((suc T + 1) * suc T) / suc T) (u % ((suc T + 1) * suc T) % suc T) (mod-lt (u % ((suc T + 1) * suc T)) (omega arith))

pub inside_of : (T u : ℕ) → 0 < T → u % ((T + 1) * T) % T ≡ u % T
inside_of T u h =
    sym (ap (λ (k : ℕ). k % T) (made T u) ∙ place_inside T (u / ((T + 1) * T)) (u % ((T + 1) * T) / T) (u % ((T + 1) * T) % T) (mod-lt (u % ((T + 1) * T)) h))

-- the port of a link, and the sub-cell that it leads to
pub port_lt : (p q : ℕ) → p < q → port p q ≡ q - 1
unfolding port
port_lt p q h = rw (lt-ltb p q h)

pub port_ge : (p q : ℕ) → q ≤ p → port p q ≡ q
unfolding port
port_ge p q h = rw (le-ltb p q h)

pub port_fits : (p q T : ℕ) → p < T + 1 → q < T + 1 → (p ≡ q → ⊥) → port p q < T
port_fits p q T hp hq ne =
    cases (ltb p q)
    (λ e. let h = ltb-true p q e in omega (arith, port_lt p q h))
    (λ e. let h = ltb-false p q e in omega (arith, port_ge p q h))

-- the server at the port that p has towards q is joined to the one at the port that q has towards p
pub turn : (B T p q : ℕ) → (p ≡ q → ⊥)
    → pick (leb p (port p q)) (B + ((port p q + 1) * T + p)) (B + (port p q * T + (p - 1))) ≡ B + (q * T + port q p)
turn B T p q ne =
    cases (ltb p q)
    (λ e. let h = ltb-true p q e in rw (port_lt p q h, port_ge q p (omega arith), le-leb p (q - 1) (omega arith)) (ap (λ (k : ℕ). B + (k * T + p)) (omega arith)))
    (λ e. let h = ltb-false p q e in rw (port_ge p q h, port_lt q p (omega arith), lt-leb p q (omega arith)))

-- each server inside sub-cell p is the port towards one other sub-cell
pub leads : (p r T : ℕ) → r < T → p < T + 1 → (q : ℕ) × (q < T + 1) × (p ≡ q → ⊥) × (port p q ≡ r)
leads p r T hr hp =
    cases (leb p r)
    (λ e. let h = leb-true p r e in (r + 1, omega arith, (λ z. omega arith), port_lt p (r + 1) (omega arith) ∙ omega arith))
    (λ e. let h = leb-false p r e in (r, omega arith, (λ z. omega arith), port_ge p r (omega arith)))
