-- A server that n links do not reach is reached by no number of links: each round reaches one server more, of n, or is the last that does.
use mathlib.Core.Path.{◌≡◌, refl, ◌∙◌, ap, sym}
use mathlib.Core.Bool.{Bool, true, false}
use mathlib.Core.Logic.{◌⊎◌, inl, inr, ⊎_elim}
use Prim.Native.Nat.{ℕ, zero, suc, ◌+◌, ◌≤◌, ◌<◌}
use native.Mathlib.Nat.{eq-or-lt_of_le}
use native.Mathlib.Omega.{arith}
use Rattle.combine.specs.Tests.{pick, both, either, any_below}
use Rattle.combine.proofs.Tests.{any_cong}
use Rattle.combine.proofs.Tests as tests
use Rattle.search.specs.Reach.{reach, Far}
use Rattle.search.proofs.Reach.{reach_origin, reach_more, reach_fewer}

-- how many numbers below n pass
abbrev pub count : (ℕ → Bool) → ℕ → ℕ
count p zero = 0
count p (suc n) = count p n + pick (p n) 1 0

bit : (b : Bool) → pick b 1 0 ≤ 1
bit true = omega arith
bit false = omega arith

pub count_most : (p : ℕ → Bool) (n : ℕ) → count p n ≤ n
count_most p zero = omega arith
count_most p (suc n) = omega (arith, count_most p n, bit (p n))

pub count_in : (p : ℕ → Bool) (n i : ℕ) → i < n → p i ≡ true → 0 < count p n
count_in p zero i h e = absurd (omega arith)
count_in p (suc n) i h e =
    ⊎_elim (λ q. let w : p n ≡ true = ap p (sym q) ∙ e in rw w (omega arith)) (λ l. omega (arith, count_in p n i l e))
    (eq-or-lt_of_le {n = i} {m = n} (omega arith))

-- where one fails the count is short
pub count_misses : (p : ℕ → Bool) (n i : ℕ) → i < n → p i ≡ false → count p n < n
count_misses p zero i h e = absurd (omega arith)
count_misses p (suc n) i h e =
    ⊎_elim (λ q. let w : p n ≡ false = ap p (sym q) ∙ e in rw w (omega (arith, count_most p n))) (λ l. omega (arith, count_misses p n i l e, bit (p n)))
    (eq-or-lt_of_le {n = i} {m = n} (omega arith))

-- where q passes whenever p does, they agree below n or q passes more
module _ (p q : ℕ → Bool) (more : (i : ℕ) → p i ≡ true → q i ≡ true) where
  abbrev Grown : ℕ → Type 0
  Grown n = ((count p n ≡ count q n) × ((i : ℕ) → i < n → p i ≡ q i)) ⊎ (count p n < count q n)

  same : (n : ℕ) (a : Bool) → p n ≡ a → q n ≡ a → Grown n → Grown (suc n)
  same n a e f g =
      ⊎_elim
      (λ s. inl (rw (e, f, s.0), λ i h. ⊎_elim (λ w. rw w (e ∙ sym f)) (λ l. s.1 i l) (eq-or-lt_of_le {n = i} {m = n} (omega arith))))
      (λ (l : count p n < count q n). inr (rw (e, f) (omega arith))) g

  go : (n : ℕ) (a b : Bool) → p n ≡ a → q n ≡ b → Grown n → Grown (suc n)
  go n true true e f g = same n true e f g
  go n false false e f g = same n false e f g
  go n true false e f g = tests.never (more n e) f
  go n false true e f g = inr (rw (e, f) (⊎_elim (λ s. omega (arith, s.0)) (λ (l : count p n < count q n). omega arith) g))

  grown : (n : ℕ) → Grown n
  grown zero = inl (refl, λ i h. absurd (omega arith))
  grown (suc n) = go n (p n) (q n) refl refl (grown n)

module _ (adj : ℕ → ℕ → Bool) (n o : ℕ) where
  -- one link more reaches no more
  abbrev Still : ℕ → Type 0
  Still r = (v : ℕ) → v < n → reach adj n o r v ≡ reach adj n o (suc r) v

  still_again : (r : ℕ) → Still r → Still (suc r)
  unfolding reach
  still_again r s v h =
      let e = s v h in
      let l = any_cong (λ (y : ℕ). both (reach adj n o r y) (adj y v)) (λ (y : ℕ). both (reach adj n o (suc r) y) (adj y v)) n
      (λ y i. ap (λ (b : Bool). both b (adj y v)) (s y i)) in
      ap (λ (b : Bool). either b (any_below (λ (y : ℕ). both (reach adj n o r y) (adj y v)) n)) e
      ∙ ap (λ (b : Bool). either (reach adj n o (suc r) v) b) l

  pub still_after : (r : ℕ) → Still r → (f v : ℕ) → v < n → reach adj n o r v ≡ reach adj n o (f + r) v
  still_after r s zero v h = let e : 0 + r ≡ r = omega arith in rw e
  still_after r s (suc f) v h =
      let e : suc f + r ≡ f + suc r = omega arith in rw e (s v h ∙ still_after (suc r) (still_again r s) f v h)

  -- up to r links one has reached no more, or r + 1 servers are reached
  still_or_more : o < n → (r : ℕ) → ((k : ℕ) × ((k ≤ r) × Still k)) ⊎ (r < count (reach adj n o r) n)
  still_or_more h zero = inr (count_in (reach adj n o 0) n o h (reach_origin adj n o))
  still_or_more h (suc r) =
      ⊎_elim
      (λ s. inl (s.0, (omega (arith, s.1.0), s.1.1)))
      (λ (l : r < count (reach adj n o r) n).
      ⊎_elim (λ g. inl (r, (omega arith, g.1)))
      (λ (g : count (reach adj n o r) n < count (reach adj n o (suc r)) n). inr (omega arith))
      (grown (reach adj n o r) (reach adj n o (suc r)) (λ i e. reach_more adj n o r (suc r) i (omega arith) e) n))
      (still_or_more h r)

  -- what r + 1 links do not reach, where n is at most r + 1, no number of links reaches
  pub never_reached : o < n → (r v : ℕ) → n ≤ suc r → v < n → reach adj n o r v ≡ false → Far adj n o v
  never_reached h r v k i e s =
      ⊎_elim
      (λ w.
      let m : ℕ = w.0 in
      let low : reach adj n o m v ≡ false = reach_fewer adj n o m r v w.1.0 e in
      reach_fewer adj n o s (s + m) v (omega arith) (sym (still_after m w.1.1 s v i) ∙ low))
      (λ (l : r < count (reach adj n o r) n). absurd (omega (arith, count_misses (reach adj n o r) n v i e)))
      (still_or_more h r)
