-- What a changed word does to a checksum, over any run of 16-bit words: two sums agree only where the words differ by a multiple of 65,535.
use mathlib.Core.Path.{◌≡◌, ◌∙◌, ap, sym}
use mathlib.Core.Bool.{true, false}
use Prim.Native.Nat.{ℕ, ◌+◌, ◌-◌, ◌≤◌, ◌<◌}
use native.Mathlib.Omega.{arith}
use lib.Dec.{eqb, ltb}
use borrow.Author.Tests.{eqb-true, eqb-false, ltb-true, ltb-false}
use Rattle.combine.proofs.Tests.{cases, never}
use Rattle.frame.specs.Checksum.{without, checksum_of, total, folded, unseen}
use Rattle.frame.proofs.Sums.{folded_zero, folded_some, folded_fits, sum_folded, total_cong, total_has, total_without, without_here, without_there, without_fits}

folded_apart : (r a b : ℕ) → a < b → b < a + 65535 → folded (r + a) ≡ folded (r + b) → ⊥
folded_apart r a b h k e =
    let y = folded_some (r + b) (omega arith) in
    cases (eqb (r + a) 0)
    (λ q.
    let z : r + a ≡ 0 = eqb-true (r + a) 0 q in
    omega (arith, ap folded z, folded_zero))
    (λ q.
    let d = eqb-false (r + a) 0 q in
    omega (arith, folded_some (r + a) (omega arith)))

-- two words that a sum can't tell apart are equal, or 0000 and FFFF
unseen_here : (a b : ℕ) → a ≡ 0 → b ≡ 65535 → unseen a b ≡ true
unfolding unseen
unseen_here a b p q = rw (p, q)

unseen_there : (a b : ℕ) → a ≡ 65535 → b ≡ 0 → unseen a b ≡ true
unfolding unseen
unseen_there a b p q = rw (p, q)

pub folded_tells : (r a b : ℕ) → a ≤ 65535 → b ≤ 65535 → (a ≡ b → ⊥) → unseen a b ≡ false → folded (r + a) ≡ folded (r + b) → ⊥
folded_tells r a b p q d u e =
    cases (ltb a b)
    (λ l.
    let m = ltb-true a b l in
    cases (ltb b (a + 65535)) (λ k. folded_apart r a b m (ltb-true b (a + 65535) k) e)
    (λ k. let o = ltb-false b (a + 65535) k in never (unseen_here a b (omega arith) (omega arith)) u))
    (λ l.
    let m = ltb-false a b l in
    cases (ltb a (b + 65535)) (λ k. folded_apart r b a (omega arith) (ltb-true a (b + 65535) k) (sym e))
    (λ k. let o = ltb-false a (b + 65535) k in never (unseen_there a b (omega arith) (omega arith)) u))

-- a checksum from the plain sum of the other words
checksum_total : (place : ℕ) (run : ℕ → ℕ) (n : ℕ) → ((i : ℕ) → run i ≤ 65535) → checksum_of place run n ≡ 65535 - folded (total (without place run) n)
unfolding checksum_of
checksum_total place run n fit = rw (sum_folded (without place run) n (λ i. without_fits place run i (fit i)))

-- a checksum is never FFFF where another word is not 0
pub checksum_not_ones : (place : ℕ) (run : ℕ → ℕ) (n i : ℕ) → ((i : ℕ) → run i ≤ 65535) → i < n → (i ≡ place → ⊥) → 0 < run i → checksum_of place run n ≡ 65535 → ⊥
checksum_not_ones place run n i fit h d p e =
    let t = total_has (without place run) i n h in
    let w = without_there place run i d in
    omega (arith, checksum_total place run n fit, folded_some (total (without place run) n) (omega arith))

-- of two runs that differ in one word, and both have their checksums, the two words are equal, or 0000 and FFFF
pub change_seen : (place i n : ℕ) (run other : ℕ → ℕ) → ((j : ℕ) → run j ≤ 65535) → ((j : ℕ) → other j ≤ 65535) → i < n
    → ((j : ℕ) → (j ≡ i → ⊥) → run j ≡ other j) → run place ≡ checksum_of place run n → other place ≡ checksum_of place other n
    → (run i ≡ other i → ⊥) → unseen (run i) (other i) ≡ false → ⊥
change_seen place i n run other fit fit' h same c c' d u =
    cases (eqb i place)
    (λ q.
    let e : i ≡ place = eqb-true i place q in
    let t : total (without place run) n ≡ total (without place other) n =
    total_cong (without place run) (without place other) n
    (λ j l.
    cases (eqb j place)
    (λ p. let z : j ≡ place = eqb-true j place p in rw z (without_here place run ∙ sym (without_here place other)))
    (λ p.
    let z = eqb-false j place p in
    without_there place run j z ∙ same j (λ w. z (w ∙ e)) ∙ sym (without_there place other j z))) in
    d
    (ap run e
    ∙ c
    ∙ checksum_total place run n fit
    ∙ ap (λ (s : ℕ). 65535 - folded s) t
    ∙ sym (checksum_total place other n fit')
    ∙ sym c'
    ∙ sym (ap other e)))
    (λ q.
    let z = eqb-false i place q in
    let s : ℕ = total (without i (without place run)) n in
    let t : total (without i (without place run)) n ≡ total (without i (without place other)) n =
    total_cong (without i (without place run)) (without i (without place other)) n
    (λ j l.
    cases (eqb j i)
    (λ p. let y : j ≡ i = eqb-true j i p in rw y (without_here i (without place run) ∙ sym (without_here i (without place other))))
    (λ p.
    let y = eqb-false j i p in
    without_there i (without place run) j y
    ∙ cases (eqb j place)
    (λ w. let x : j ≡ place = eqb-true j place w in rw x (without_here place run ∙ sym (without_here place other)))
    (λ w.
    let x = eqb-false j place w in
    without_there place run j x ∙ same j y ∙ sym (without_there place other j x))
    ∙ sym (without_there i (without place other) j y))) in
    let a : total (without place run) n ≡ s + run i = omega (arith, total_without i (without place run) n h, without_there place run i z) in
    let b : total (without place other) n ≡ s + other i = omega (arith, t, total_without i (without place other) n h, without_there place other i z) in
    let x = folded_fits (total (without place run) n) in
    let y = folded_fits (total (without place other) n) in
    let p : run place ≡ other place = same place (λ w. z (sym w)) in
    let f : folded (total (without place run) n) ≡ folded (total (without place other) n) =
    omega (arith, c, c', p, checksum_total place run n fit, checksum_total place other n fit') in
    folded_tells s (run i) (other i) (fit i) (fit' i) d u (ap folded (sym a) ∙ f ∙ ap folded b))
