-- Laws of joined tests: by cases of a test with its equation, and what is known of some and of every number below n.
use mathlib.Core.Path.{◌≡◌, refl, ◌∙◌, ap, sym}
use mathlib.Core.Bool.{Bool, true, false, true≢false}
use mathlib.Core.Logic.{⊎_elim}
use Prim.Native.Nat.{ℕ, zero, suc, ◌+◌, ◌<◌}
use native.Mathlib.Nat.{eq-or-lt_of_le}
use native.Mathlib.Numerals.{add-one}
use native.Mathlib.Omega.{arith}
use Rattle.combine.specs.Tests.{pick, both, either, any_below, all_below}

-- by cases of a test, with its equation
pub cases {ℓ} : {A : Type ℓ} (b : Bool) → (b ≡ true → A) → (b ≡ false → A) → A
cases true f g = f refl
cases false f g = g refl

-- a test is not both
pub never {ℓ} : {A : Type ℓ} {b : Bool} → b ≡ true → b ≡ false → A
never p q = absurd (true≢false (sym p ∙ q))

-- two tests that hold together are equal
pub both_ways : (a b : Bool) → (a ≡ true → b ≡ true) → (b ≡ true → a ≡ true) → a ≡ b
both_ways true b f g = sym (f refl)
both_ways false true f g = g refl
both_ways false false f g = refl

pub both_left : (a b : Bool) → both a b ≡ true → a ≡ true
both_left true b e = refl
both_left false b e = e

pub both_right : (a b : Bool) → both a b ≡ true → b ≡ true
both_right true b e = e
both_right false b e = absurd (true≢false (sym e))

pub both_true : (a b : Bool) → a ≡ true → b ≡ true → both a b ≡ true
both_true true b p q = q
both_true false b p q = p

pub both_false : (a b : Bool) → b ≡ false → both a b ≡ false
both_false true b q = q
both_false false b q = refl

pub both_alone : (a : Bool) → both a true ≡ a
both_alone true = refl
both_alone false = refl

pub both_swap : (a b : Bool) → both a b ≡ both b a
both_swap true true = refl
both_swap true false = refl
both_swap false true = refl
both_swap false false = refl

pub both_joined : (a b c : Bool) → both a (both b c) ≡ both (both a b) c
both_joined true b c = refl
both_joined false b c = refl

pub either_false : (b : Bool) → either b false ≡ b
either_false true = refl
either_false false = refl

pub either_true : (b : Bool) → either b true ≡ true
either_true true = refl
either_true false = refl

pub either_left : (a b : Bool) → a ≡ true → either a b ≡ true
either_left a b e = rw e

pub either_right : (a b : Bool) → b ≡ true → either a b ≡ true
either_right a b e = rw e (either_true a)

pub both_either : (c a b : Bool) → both c (either a b) ≡ either (both c a) (both c b)
both_either true a b = refl
both_either false a b = refl

pub either_cases {ℓ} : {A : Type ℓ} (a b : Bool) → either a b ≡ true → (a ≡ true → A) → (b ≡ true → A) → A
either_cases true b e f g = f refl
either_cases false b e f g = g e

-- the same way either way
pub pick_same {ℓ} : {A : Type ℓ} (b : Bool) (a : A) → pick b a a ≡ a
pick_same true a = refl
pick_same false a = refl

-- what holds of both ways holds of the one taken
pub pick_holds {ℓ κ} : {A : Type ℓ} (P : A → Type κ) (b : Bool) (x y : A) → P x → P y → P (pick b x y)
pick_holds P true x y p q = p
pick_holds P false x y p q = q

module _ (p : ℕ → Bool) where
  pub any_none : any_below p 0 ≡ false
  unfolding any_below
  any_none = refl

  pub any_more : (n : ℕ) → any_below p (n + 1) ≡ either (any_below p n) (p n)
  unfolding any_below
  any_more n = rw (add-one n)

  pub any_miss : (n : ℕ) → p n ≡ false → any_below p n ≡ any_below p (n + 1)
  any_miss n e = rw (any_more n, e) (sym (either_false (any_below p n)))

  -- one that passes is enough
  pub any_in : (n i : ℕ) → i < n → p i ≡ true → any_below p n ≡ true
  unfolding any_below
  any_in zero i h e = absurd (omega arith)
  any_in (suc n) i h e = ⊎_elim (λ q. let w : p n ≡ true = ap p (sym q) ∙ e in rw w (either_true (any_below p n))) (λ l. rw (any_in n i l e)) (eq-or-lt_of_le {n = i} {m = n} (omega arith))

  -- where some pass, here is one
  pub any_some : (n : ℕ) → any_below p n ≡ true → (i : ℕ) × (i < n) × (p i ≡ true)
  unfolding any_below
  any_some zero e = absurd (true≢false (sym e))
  any_some (suc n) e = either_cases (any_below p n) (p n) e
      (λ q. let k = any_some n q in (k.0, omega (arith, k.1), k.2))
      (λ q. (n, omega arith, q))

  -- where none passes, each fails
  pub any_each : (n : ℕ) → any_below p n ≡ false → (i : ℕ) → i < n → p i ≡ false
  any_each n e i h = cases (p i) (λ q. never (any_in n i h q) e) (λ q. q)

  pub all_none : all_below p 0 ≡ true
  unfolding all_below
  all_none = refl

  pub all_more : (n : ℕ) → all_below p (n + 1) ≡ both (all_below p n) (p n)
  unfolding all_below
  all_more n = rw (add-one n)

  -- where all pass, each does
  pub all_each : (n : ℕ) → all_below p n ≡ true → (i : ℕ) → i < n → p i ≡ true
  unfolding all_below
  all_each zero e i h = absurd (omega arith)
  all_each (suc n) e i h = ⊎_elim (λ q. rw q (both_right (all_below p n) (p n) e)) (λ l. all_each n (both_left (all_below p n) (p n) e) i l) (eq-or-lt_of_le {n = i} {m = n} (omega arith))

  -- where each passes, all do
  pub each_all : (n : ℕ) → ((i : ℕ) → i < n → p i ≡ true) → all_below p n ≡ true
  unfolding all_below
  each_all zero h = refl
  each_all (suc n) h = both_true (all_below p n) (p n) (each_all n (λ i l. h i (omega arith))) (h n (omega arith))

  -- one that fails is enough
  pub all_fails : (n i : ℕ) → i < n → p i ≡ false → all_below p n ≡ false
  all_fails n i h e = cases (all_below p n) (λ q. never (all_each n q i h) e) (λ q. q)

-- two tests that agree below n
pub any_cong : (p q : ℕ → Bool) (n : ℕ) → ((y : ℕ) → y < n → p y ≡ q y) → any_below p n ≡ any_below q n
unfolding any_below
any_cong p q zero h = refl
any_cong p q (suc n) h = rw (any_cong p q n (λ y l. h y (omega arith)), h n (omega arith))

pub all_cong : (p q : ℕ → Bool) (n : ℕ) → ((y : ℕ) → y < n → p y ≡ q y) → all_below p n ≡ all_below q n
unfolding all_below
all_cong p q zero h = refl
all_cong p q (suc n) h = rw (all_cong p q n (λ y l. h y (omega arith)), h n (omega arith))
