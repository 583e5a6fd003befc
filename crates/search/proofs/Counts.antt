-- How many servers are reached, and in which round the last is: what a loop over the marks counts, and what the counts mean.
use mathlib.Core.Path.{◌≡◌, refl, ◌∙◌, ap, sym}
use mathlib.Core.Bool.{Bool, true, false}
use mathlib.Core.List.{List, ◌++◌}
use mathlib.Core.Logic.{◌⊎◌, inl, inr, ⊎_elim}
use Prim.Native.Nat.{ℕ, zero, suc, ◌+◌, ◌≤◌, ◌<◌}
use native.Mathlib.Nat.{eq-or-lt_of_le, le-max_left, le-max_right, max-eq_left, max-eq_right, max-zero}
use native.Mathlib.Numerals.{add-one}
use native.Mathlib.Omega.{arith}
use lib.Dec.{eqb, leb}
use lib.ListN.{length, get_or, get_or-append}
use borrow.Author.Tests.{eq-eqb, ne_eqb, eqb-true, eqb-false, leb-true, leb-false}
use Rattle.combine.specs.Tests.{pick}
use Rattle.combine.proofs.Tests.{cases}
use Rattle.search.specs.Rounds.{reached_count, last_round}

module _ (none : ℕ) (old : List ℕ) where
  pub reached_start : reached_count none old 0 ≡ 0
  unfolding reached_count
  reached_start = refl

  -- a server that is not reached is not counted
  pub reached_skip : (n : ℕ) → get_or old n 0 ≡ none → reached_count none old (n + 1) ≡ reached_count none old n
  unfolding reached_count
  reached_skip n e = rw (add-one n, eq-eqb (get_or old n 0) none e) (omega arith)

  -- one that is counts
  pub reached_more : (n : ℕ) → (get_or old n 0 ≡ none → ⊥) → reached_count none old (n + 1) ≡ reached_count none old n + 1
  unfolding reached_count
  reached_more n e = rw (add-one n, ne_eqb (get_or old n 0) none e)

  pub reached_most : (n : ℕ) → reached_count none old n ≤ n
  unfolding reached_count
  reached_most zero = omega arith
  reached_most (suc n) = omega (arith, reached_most n, bit (eqb (get_or old n 0) none))
    where
      bit : (b : Bool) → pick b 0 1 ≤ 1
      bit true = omega arith
      bit false = omega arith

  -- where one is reached the count is not 0
  pub reached_some : (n v : ℕ) → v < n → (get_or old v 0 ≡ none → ⊥) → 0 < reached_count none old n
  unfolding reached_count
  reached_some zero v h e = absurd (omega arith)
  reached_some (suc n) v h e =
      ⊎_elim
      (λ q. let w : eqb (get_or old n 0) none ≡ false = ap (λ (k : ℕ). eqb (get_or old k 0) none) (sym q) ∙ ne_eqb (get_or old v 0) none e in rw w (omega arith))
      (λ l. omega (arith, reached_some n v l e))
      (eq-or-lt_of_le {n = v} {m = n} (omega arith))

  pub last_start : last_round none old 0 ≡ 0
  unfolding last_round
  last_start = refl

  pub last_skip : (n : ℕ) → get_or old n 0 ≡ none → last_round none old (n + 1) ≡ last_round none old n
  unfolding last_round
  last_skip n e = rw (add-one n, eq-eqb (get_or old n 0) none e) (max-zero (last_round none old n))

  -- no later than the last so far
  pub last_keep : (n : ℕ) → get_or old n 0 ≤ last_round none old n → last_round none old (n + 1) ≡ last_round none old n
  unfolding last_round
  last_keep n h =
      rw (add-one n)
      (cases (eqb (get_or old n 0) none)
      (λ e. rw e (max-zero (last_round none old n)))
      (λ e. rw e (max-eq_left h)))

  -- later than the last so far
  pub last_more : (n : ℕ) → (get_or old n 0 ≡ none → ⊥) → last_round none old n ≤ get_or old n 0 → last_round none old (n + 1) ≡ get_or old n 0
  unfolding last_round
  last_more n e h = rw (add-one n, ne_eqb (get_or old n 0) none e) (max-eq_right h)

  -- no server that is reached is later than the last
  pub last_greatest : (n v : ℕ) → v < n → (get_or old v 0 ≡ none → ⊥) → get_or old v 0 ≤ last_round none old n
  unfolding last_round
  last_greatest zero v h e = absurd (omega arith)
  last_greatest (suc n) v h e =
      ⊎_elim
      (λ q.
      let w : eqb (get_or old n 0) none ≡ false = ap (λ (k : ℕ). eqb (get_or old k 0) none) (sym q) ∙ ne_eqb (get_or old v 0) none e in
      rw (q, w) (le-max_right (last_round none old n) (get_or old n 0)))
      (λ l. omega (arith, last_greatest n v l e, le-max_left (last_round none old n) (pick (eqb (get_or old n 0) none) 0 (get_or old n 0))))
      (eq-or-lt_of_le {n = v} {m = n} (omega arith))

  -- one is reached in the last round, where one is reached at all
  abbrev pub InLast : ℕ → Type 0
  InLast n = (w : ℕ) × (w < n) × (get_or old w 0 ≡ last_round none old n) × (get_or old w 0 ≡ none → ⊥)

  abbrev Nobody : ℕ → Type 0
  Nobody n = ((v : ℕ) → v < n → get_or old v 0 ≡ none) × (last_round none old n ≡ 0)

  nobody_or_last : (n : ℕ) → Nobody n ⊎ InLast n
  nobody_or_last zero = inl ((λ v h. absurd (omega arith)), last_start)
  nobody_or_last (suc n) = rw (sym (add-one n)) (cases (eqb (get_or old n 0) none) (skipped (nobody_or_last n)) (counted (nobody_or_last n)))
    where
      skipped : Nobody n ⊎ InLast n → eqb (get_or old n 0) none ≡ true → Nobody (n + 1) ⊎ InLast (n + 1)
      skipped before q =
          let e = eqb-true (get_or old n 0) none q in
          rw (last_skip n e)
          (⊎_elim
          (λ (f : Nobody n). inl ((λ v h. ⊎_elim (λ (w : v ≡ n). rw w e) (λ l. f.0 v l) (eq-or-lt_of_le {n = v} {m = n} (omega arith))), f.1))
          (λ (w : InLast n). inr (w.0, omega (arith, w.1), w.2, w.3))
          before)

      counted : Nobody n ⊎ InLast n → eqb (get_or old n 0) none ≡ false → Nobody (n + 1) ⊎ InLast (n + 1)
      counted before q =
          let ne = eqb-false (get_or old n 0) none q in
          cases (leb (last_round none old n) (get_or old n 0))
          (λ l. inr (n, omega arith, sym (last_more n ne (leb-true (last_round none old n) (get_or old n 0) l)), ne))
          (λ l.
          let k : get_or old n 0 < last_round none old n = leb-false (last_round none old n) (get_or old n 0) l in
          let same = last_keep n (omega arith) in
          ⊎_elim (λ (f : Nobody n). absurd (omega (arith, f.1))) (λ (w : InLast n). inr (w.0, omega (arith, w.1), w.2 ∙ sym same, w.3)) before)

  -- nobody from m on is reached: those before m are all to count
  module _ (m : ℕ) where
    pub reached_front : (n : ℕ) → m ≤ n → ((v : ℕ) → m ≤ v → v < n → get_or old v 0 ≡ none) → reached_count none old n ≡ reached_count none old m
    reached_front zero h f = let z : m ≡ 0 = omega arith in rw z
    reached_front (suc n) h f =
        ⊎_elim
        (λ q. rw q)
        (λ l. rw (sym (add-one n)) (reached_skip n (f n (omega arith) (omega arith)) ∙ reached_front n (omega arith) (λ v i k. f v i (omega arith))))
        (eq-or-lt_of_le h)

    pub last_front : (n : ℕ) → m ≤ n → ((v : ℕ) → m ≤ v → v < n → get_or old v 0 ≡ none) → last_round none old n ≡ last_round none old m
    last_front zero h f = let z : m ≡ 0 = omega arith in rw z
    last_front (suc n) h f =
        ⊎_elim
        (λ q. rw q)
        (λ l. rw (sym (add-one n)) (last_skip n (f n (omega arith) (omega arith)) ∙ last_front n (omega arith) (λ v i k. f v i (omega arith))))
        (eq-or-lt_of_le h)

  pub last_reached : (n v : ℕ) → v < n → (get_or old v 0 ≡ none → ⊥) → InLast n
  last_reached n v h e = ⊎_elim (λ (f : Nobody n). absurd (e (f.0 v h))) (λ w. w) (nobody_or_last n)

-- what stands behind the n servers is not counted
pub reached_tail : (none : ℕ) (old tail : List ℕ) (n : ℕ) → n ≤ length old → reached_count none (old ++ tail) n ≡ reached_count none old n
unfolding reached_count
reached_tail none old tail zero h = refl
reached_tail none old tail (suc n) h = rw (reached_tail none old tail n (omega arith), get_or-append old tail 0 n (omega arith))

pub last_tail : (none : ℕ) (old tail : List ℕ) (n : ℕ) → n ≤ length old → last_round none (old ++ tail) n ≡ last_round none old n
unfolding last_round
last_tail none old tail zero h = refl
last_tail none old tail (suc n) h = rw (last_tail none old tail n (omega arith), get_or-append old tail 0 n (omega arith))
