-- The planner's loop fills the places of a tuple from the highest down; what it fills is the prefix in its places.
use mathlib.Core.Path.{◌≡◌, refl, sym, ◌∙◌}
use mathlib.Core.List.{List}
use Prim.Native.Nat.{ℕ, zero, suc, ◌+◌, ◌-◌, ◌<◌, ◌≤◌}
use native.Mathlib.Omega.{arith}
use lib.Dec.{leb}
use lib.ListN.{length, get_or, set, replicate, length-set, length-replicate, get_or-replicate}
use lib.Seq.{get_or-set_same, get_or-set_other, ext_get_or}
use borrow.Author.Tests.{leb-true, leb-false}
use Rattle.combine.specs.Lists.{up_to}
use Rattle.combine.proofs.Tests.{cases}
use Rattle.combine.proofs.Lists.{length-up_to, get_or-up_to}
use Rattle.hall.specs.Cells.{t}
use Rattle.hall.specs.Halls.{top, places, racks}
use Rattle.plan.specs.Plan.{index, inside, place}
use Rattle.plan.specs.Answers.{prefix_at}

-- what the loop makes of a tuple, from level m + 1 down, where c are fitted
unfoldable pub filled : ℕ → ℕ → ℕ → List ℕ → List ℕ
filled n zero c a = a
filled n (suc m) c a = filled n m (inside (t n 1 + 1) (racks n m) c) (set a (suc m + 1) (index (t n 1 + 1) (racks n m) c))

module _ (n : ℕ) where
  pub length_filled : (m c : ℕ) (a : List ℕ) → length (filled n m c a) ≡ length a
  unfolding filled
  length_filled zero c a = refl
  length_filled (suc m) c a =
      length_filled m (inside (t n 1 + 1) (racks n m) c) (set a (suc m + 1) (index (t n 1 + 1) (racks n m) c))
      ∙ length-set a (suc m + 1) (index (t n 1 + 1) (racks n m) c)

  -- places outside 2 .. m + 1 stay
  pub filled_other : (m c i : ℕ) (a : List ℕ) → (2 ≤ i → m + 1 < i) → get_or (filled n m c a) i 0 ≡ get_or a i 0
  unfolding filled
  filled_other zero c i a h = refl
  filled_other (suc m) c i a h =
      let q = index (t n 1 + 1) (racks n m) c in
      filled_other m (inside (t n 1 + 1) (racks n m) c) i (set a (suc m + 1) q) (λ l. let k = h l in omega arith)
      ∙ get_or-set_other a (suc m + 1) i q 0 (λ e. let k = h (omega arith) in omega arith)

  -- place i has a(i)
  pub filled_at : (m c i : ℕ) (a : List ℕ) → m + 1 < length a → 2 ≤ i → i ≤ m + 1 → get_or (filled n m c a) i 0 ≡ get_or (place n m c) (m + 1 - i) 0
  unfolding filled place
  filled_at zero c i a h l k = absurd (omega arith)
  filled_at (suc m) c i a h l k =
      let q = index (t n 1 + 1) (racks n m) c in
      let d = inside (t n 1 + 1) (racks n m) c in
      let w = length-set a (suc m + 1) q in
      cases (leb i (m + 1))
      (λ e.
      let b = leb-true i (m + 1) e in
      let z : suc m + 1 - i ≡ suc (m + 1 - i) = omega arith in
      filled_at m d i (set a (suc m + 1) q) (omega arith) l b ∙ rw z)
      (λ e.
      let b = leb-false i (m + 1) e in
      let z : i ≡ suc m + 1 = omega arith in
      let y : suc m + 1 - (suc m + 1) ≡ 0 = omega arith in
      rw (z, y) (filled_other m d (suc m + 1) (set a (suc m + 1) q) (λ x. omega arith) ∙ get_or-set_same a (suc m + 1) q 0 h))

  -- the zeros filled are the prefix in its places
  pub filled_all : (m c : ℕ) → m + 1 ≤ top → filled n m c (replicate places 0) ≡ up_to (prefix_at n (m + 1) c) places
  unfolding prefix_at
  filled_all m c h =
      let z : List ℕ = replicate places 0 in
      let l : length z ≡ places = length-replicate {A = ℕ} places 0 in
      let f = length_filled m c z in
      let w = length-up_to (prefix_at n (m + 1) c) places in
      let y : m + 1 - 1 ≡ m = omega arith in
      ext_get_or 0 (filled n m c z) (up_to (prefix_at n (m + 1) c) places) (omega arith)
      (λ i b. get_or_is i (omega arith) ∙ sym (get_or-up_to (prefix_at n (m + 1) c) places i 0 (omega arith)))
    where
      outside : (i : ℕ) → i < places → (2 ≤ i → m + 1 < i) → get_or (filled n m c (replicate places 0)) i 0 ≡ 0
      outside i b o = filled_other m c i (replicate places 0) o ∙ get_or-replicate {A = ℕ} places i 0 0 b

      get_or_is : (i : ℕ) → i < places → get_or (filled n m c (replicate places 0)) i 0 ≡ prefix_at n (m + 1) c i
      get_or_is i b = cases (leb 2 i)
          (λ p. cases (leb i (m + 1))
          (λ q.
          let y : m + 1 - 1 ≡ m = omega arith in
          rw (p, q, y) (filled_at m c i (replicate places 0) (omega (arith, length-replicate {A = ℕ} places 0)) (leb-true 2 i p) (leb-true i (m + 1) q)))
          (λ q. rw (p, q) (outside i b (λ x. leb-false i (m + 1) q))))
          (λ p. rw p (outside i b (λ x. let k = leb-false 2 i p in absurd (omega arith))))
