-- Sums and products over a range of numbers, and how many numbers of a range pass a test.
use Rattle.std.specs.Prelude.{Bool, true, false, ℕ, zero, suc, ◌+◌, ◌*◌}

-- f 0 + .. + f (m - 1)
unfoldable pub sum : (ℕ → ℕ) → ℕ → ℕ
sum f zero = 0
sum f (suc m) = sum f m + f m

-- f (a + 1) × .. × f (a + d)
unfoldable pub product : (ℕ → ℕ) → ℕ → ℕ → ℕ
product f a zero = 1
product f a (suc d) = product f a d * f (a + suc d)

-- 1 where a test holds, else 0
unfoldable pub one : Bool → ℕ
one true = 1
one false = 0

-- how many numbers below m pass the test p
abbrev pub count : (ℕ → Bool) → ℕ → ℕ
count p m = sum (λ y. one (p y)) m
