-- Laws of places: the place of a server read as digits, stepped to the next, gives the neighbour without a division.
use mathlib.Core.Path.{◌≡◌, refl, sym, ◌∙◌, ap}
use Prim.Native.Nat.{ℕ, ◌+◌, ◌*◌, ◌/◌, ◌%◌, ◌≤◌, ◌<◌}
use native.Mathlib.Nat.{mod-lt, mul-le-mul}
use native.Mathlib.Omega.{arith}
use lib.Dec.{ltb}
use borrow.Author.Tests.{ltb-true, ltb-false}
use Rattle.combine.proofs.Tests.{cases}
use Rattle.hall.specs.Cells.{neighbour_over}
use Rattle.hall.proofs.Place.{place_up, place_sub, place_inside, sub_below, made, inside_of}
use Rattle.broadcast.specs.Sweeps.{place_at, next_place, neighbour_at}

-- the servers of the largest scope: a sub-cell has at most 72, and there are at most 73 of them
pub scope_product : (a b : ℕ) → a ≤ 73 → b ≤ 72 → a * b ≤ 5256
scope_product a b p q = omega (arith, mul-le-mul p q)

-- the place of server r of sub-cell p of cell c
pub place_of_lem : (T c p r x : ℕ) → r < T → p < T + 1 → x ≡ c * ((T + 1) * T) + (p * T + r) → place_at T x ≡ record { base = c * ((T + 1) * T); sub = p; inside = r }
place_of_lem T c p r x hr hp e = rw (e, place_up T c p r hr hp, place_sub T c p r hr hp, place_inside T c p r hr)

pub place_start : (T : ℕ) → 0 < T → record { base = 0; sub = 0; inside = 0 } ≡ place_at T 0
place_start T pos =
    let e : 0 ≡ 0 * ((T + 1) * T) = omega arith in
    ap (λ (y : ℕ). record { base = y; sub = 0; inside = 0 }) e ∙ sym (place_of_lem T 0 0 0 0 pos (omega arith) (omega arith))

pub place_next : (T x : ℕ) → 0 < T → next_place T (place_at T x) ≡ place_at T (x + 1)
place_next T x pos =
    let S : ℕ = (T + 1) * T in
    let c : ℕ = x / S in
    let p : ℕ = x % S / T in
    let r : ℕ = x % T in
    let hp : p < T + 1 = sub_below T x in
    let hr : r < T = mod-lt x pos in
    let e : x ≡ c * S + (p * T + r) = made T x ∙ ap (λ (k : ℕ). c * S + (p * T + k)) (inside_of T x pos) in
    cases (ltb (r + 1) T)
    (λ w.
    let b = ltb-true (r + 1) T w in
    rw w (sym (place_of_lem T c p (r + 1) (x + 1) b hp (omega arith))))
    (λ w.
    let b = ltb-false (r + 1) T w in
    cases (ltb p T)
    (λ v.
    let d = ltb-true p T v in
    let g : T ≡ r + 1 = omega arith in
    let f : (p + 1) * T ≡ p * T + T = omega arith in
    rw (w, v) (sym (place_of_lem T c (p + 1) 0 (x + 1) pos (omega arith) (omega arith))))
    (λ v.
    let d = ltb-false p T v in
    let g : T ≡ r + 1 = omega arith in
    let k : p ≡ T = omega arith in
    let m : p * T ≡ T * T = ap (λ (y : ℕ). y * T) k in
    rw (w, v) (ap (λ (y : ℕ). record { base = y; sub = 0; inside = 0 }) (omega arith) ∙ sym (place_of_lem T (c + 1) 0 0 (x + 1) pos (omega arith) (omega arith)))))

pub place_neighbour : (T x : ℕ) → neighbour_at T (place_at T x) ≡ neighbour_over T x
place_neighbour T x = refl
