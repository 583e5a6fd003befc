-- Laws of sums over ranges: sums of equals, of sums, of blocks, in the other order; counts; products that grow.
use mathlib.Core.Path.{◌≡◌, refl, sym, ◌∙◌, ap, ap₂}
use mathlib.Core.Bool.{Bool, true, false, not}
use Prim.Native.Nat.{ℕ, zero, suc, ◌+◌, ◌*◌, ◌<◌, ◌≤◌}
use native.Mathlib.Nat.{add-zero, add-suc}
use native.Mathlib.Omega.{arith}
use lib.Dec.{eqb}
use borrow.Author.Tests.{eqb-true, eqb-false, ne_eqb}
use Rattle.combine.specs.Tests.{both}
use Rattle.combine.proofs.Tests.{cases}
use Rattle.sums.specs.Sums.{sum, one, count}

pub sum_ext : (f g : ℕ → ℕ) (m : ℕ) → ((y : ℕ) → y < m → f y ≡ g y) → sum f m ≡ sum g m
unfolding sum
sum_ext f g zero h = refl
sum_ext f g (suc m) h = ap₂ ◌+◌ (sum_ext f g m (λ y k. h y (omega arith))) (h m (omega arith))

pub sum_const : (a m : ℕ) → sum (λ _. a) m ≡ m * a
unfolding sum
sum_const a zero = omega arith
sum_const a (suc m) = omega (arith, sum_const a m)

pub sum-times : (a : ℕ) (f : ℕ → ℕ) (m : ℕ) → sum (λ y. a * f y) m ≡ a * sum f m
unfolding sum
sum-times a f zero = omega arith
sum-times a f (suc m) = omega (arith, sum-times a f m)

pub sum-add : (f g : ℕ → ℕ) (m : ℕ) → sum (λ y. f y + g y) m ≡ sum f m + sum g m
unfolding sum
sum-add f g zero = omega arith
sum-add f g (suc m) = omega (arith, sum-add f g m)

-- a sum of sums may be taken in the other order
pub sum_swap : (f : ℕ → ℕ → ℕ) (l m : ℕ) → sum (λ x. sum (f x) m) l ≡ sum (λ y. sum (λ x. f x y) l) m
unfolding sum
sum_swap f zero m = sym (sum_const 0 m ∙ omega arith)
sum_swap f (suc l) m = ap (λ (k : ℕ). k + sum (f l) m) (sum_swap f l m) ∙ sym (sum-add (λ y. sum (λ x. f x y) l) (f l) m)

pub sum-append : (f : ℕ → ℕ) (a b : ℕ) → sum f (a + b) ≡ sum f a + sum (λ r. f (a + r)) b
unfolding sum
sum-append f a zero = rw (add-zero a) (omega arith)
sum-append f a (suc b) = rw (add-suc a b) (ap (λ (k : ℕ). k + f (a + b)) (sum-append f a b) ∙ omega arith)

-- the first of a sum apart
pub sum_first : (f : ℕ → ℕ) (m : ℕ) → sum f (suc m) ≡ f 0 + sum (λ a. f (suc a)) m
unfolding sum
sum_first f zero = omega arith
sum_first f (suc m) = ap (λ (k : ℕ). k + f (suc m)) (sum_first f m) ∙ omega arith

-- q blocks of T numbers each
pub sum_blocks : (f : ℕ → ℕ) (T q : ℕ) → sum f (q * T) ≡ sum (λ p. sum (λ r. f (p * T + r)) T) q
unfolding sum
sum_blocks f T zero = let e : 0 * T ≡ 0 = omega arith in rw e
sum_blocks f T (suc q) =
    let e : suc q * T ≡ q * T + T = omega arith in
    rw e (sum-append f (q * T) T ∙ ap (λ (k : ℕ). k + sum (λ r. f (q * T + r)) T) (sum_blocks f T q))

-- exactly one number below m is a
count_none : (a m : ℕ) → m ≤ a → count (eqb a) m ≡ 0
unfolding sum one
count_none a zero h = refl
count_none a (suc m) h = rw (ne_eqb a m (λ z. omega arith)) (omega (arith, count_none a m (omega arith)))

pub count_one : (a m : ℕ) → a < m → count (eqb a) m ≡ 1
unfolding sum one
count_one a zero h = absurd (omega arith)
count_one a (suc m) h = cases (eqb a m)
    (λ q. let e = eqb-true a m q in rw q (omega (arith, count_none a m (omega arith))))
    (λ q. let e = eqb-false a m q in let d : a < m = omega arith in rw q (omega (arith, count_one a m d)))

-- those that pass and those that do not
one_not : (b : Bool) → one b + one (not b) ≡ 1
unfolding one
one_not true = omega arith
one_not false = omega arith

pub count_not : (p : ℕ → Bool) (m : ℕ) → count p m + count (λ y. not (p y)) m ≡ m
unfolding sum
count_not p zero = omega arith
count_not p (suc m) = omega (arith, count_not p m, one_not (p m))

pub one_both : (a b : Bool) → one (both a b) ≡ one a * one b
unfolding one
one_both true b = omega arith
one_both false b = omega arith
