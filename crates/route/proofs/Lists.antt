-- Lists of servers and links: what holds of two lists, one after the other, holds of their join.
use mathlib.Core.Path.{◌≡◌, refl, ◌∙◌, ap}
use mathlib.Core.Bool.{Bool, true, false}
use mathlib.Core.List.{List, [], ◌∷◌, ◌++◌, cons≢nil}
use Prim.Native.Nat.{ℕ, ◌+◌, ◌≤◌}
use native.Mathlib.Omega.{arith}
use lib.ListN.{length}
use Rattle.combine.proofs.Tests.{cases}
use Rattle.hall.specs.Cells.{Joined, switch, link}
use Rattle.route.specs.Routes.{select, hops}
use Rattle.route.specs.Walks.{Each, Walk, done, step}

module _ {ℓ} {A : Type ℓ} where
  pub each_append : (P : A → Type 0) (r s : List A) → Each P r → Each P s → Each P (r ++ s)
  each_append P [] s v w = w
  each_append P (a ∷ r) s v w = (v.0, each_append P r s v.1 w)

  pub each_map : (P Q : A → Type 0) (r : List A) → ((a : A) → P a → Q a) → Each P r → Each Q r
  each_map P Q [] f v = tt
  each_map P Q (a ∷ r) f v = (f a v.0, each_map P Q r f v.1)

  -- the member that stands between two parts satisfies it
  pub each_at : (P : A → Type 0) (r : List A) (a : A) (s : List A) → Each P (r ++ (a ∷ s)) → P a
  each_at P [] a s v = v.0
  each_at P (b ∷ r) a s v = each_at P r a s v.1

pub joined_more : (n : ℕ) {l m u v : ℕ} → l ≤ m → Joined n l u v → Joined n m u v
joined_more n h (switch e d) = switch e d
joined_more n h (link j i e) = link j (omega arith) e

pub walk_more : (n : ℕ) {l m x y : ℕ} {r : List ℕ} → l ≤ m → Walk n l x y r → Walk n m x y r
walk_more n h done = done
walk_more n h (step e w) = step (joined_more n h e) (walk_more n h w)

pub walk_append : (n : ℕ) {l x u v y : ℕ} {r s : List ℕ} → Walk n l x u r → Joined n l u v → Walk n l v y s → Walk n l x y (r ++ s)
walk_append n done e w = step e w
walk_append n (step d v) e w = step d (walk_append n v e w)

-- a walk starts with x, ends with y, and goes on where they differ
pub walk_starts : (n : ℕ) {l x y : ℕ} {r : List ℕ} → Walk n l x y r → (q : List ℕ) × (r ≡ x ∷ q)
walk_starts n done = ([], refl)
walk_starts n (step {r = r} e w) = (r, refl)

pub walk_ends : (n : ℕ) {l x y : ℕ} {r : List ℕ} → Walk n l x y r → (q : List ℕ) × (r ≡ q ++ (y ∷ []))
walk_ends n done = ([], refl)
walk_ends n (step {x = x} e w) = let k = walk_ends n w in (x ∷ k.0, ap (λ (q : List ℕ). x ∷ q) k.1)

pub walk_second : (n : ℕ) {l x y : ℕ} {r : List ℕ} → Walk n l x y r → (x ≡ y → ⊥) → (z : ℕ) × (q : List ℕ) × (r ≡ x ∷ z ∷ q)
walk_second n done ne = absurd (ne refl)
walk_second n (step {x = x} {z = z} e w) ne = let k = walk_starts n w in (z, k.0, ap (λ (q : List ℕ). x ∷ q) k.1)

-- what follows each other in two walks, one after the other
hops_cons : (n : ℕ) {l z y : ℕ} {r : List ℕ} (x : ℕ) → Walk n l z y r → hops (x ∷ r) ≡ (x, z) ∷ hops r
unfolding hops
hops_cons n x done = refl
hops_cons n x (step e w) = refl

pub hops_append : (n : ℕ) {l x u v y : ℕ} {r s : List ℕ} → Walk n l x u r → Joined n l u v → Walk n l v y s
    → hops (r ++ s) ≡ hops r ++ ((u, v) ∷ hops s)
unfolding hops
hops_append n (done {x = x}) e w = hops_cons n x w
hops_append n (step {x = x} d v) e w = rw (hops_cons n x (walk_append n v e w), hops_cons n x v, hops_append n v e w)

-- a walk has one link less than servers
pub hops_length : (n : ℕ) {l x y : ℕ} {r : List ℕ} → Walk n l x y r → length (hops r) + 1 ≡ length r
unfolding hops
hops_length n done = refl
hops_length n (step {x = x} {r = r} e w) = let i = hops_length n w in rw (hops_cons n x w) (omega arith)

-- selecting
module _ (f : ℕ → ℕ → Bool) where
  pub select_keep : (e : ℕ × ℕ) (r : List (ℕ × ℕ)) → f e.0 e.1 ≡ true → select f (e ∷ r) ≡ e ∷ select f r
  unfolding select
  select_keep e r h = rw (h, select)

  pub select_drop : (e : ℕ × ℕ) (r : List (ℕ × ℕ)) → f e.0 e.1 ≡ false → select f (e ∷ r) ≡ select f r
  unfolding select
  select_drop e r h = rw (h, select)

  pub select_append : (r s : List (ℕ × ℕ)) → select f (r ++ s) ≡ select f r ++ select f s
  unfolding select
  select_append [] s = refl
  select_append (e ∷ r) s = cases (f e.0 e.1)
      (λ h. rw (select_keep e (r ++ s) h, select_keep e r h, select_append r s))
      (λ h. rw (select_drop e (r ++ s) h, select_drop e r h, select_append r s))

  pub select_none : (r : List (ℕ × ℕ)) → Each (λ e. f e.0 e.1 ≡ false) r → select f r ≡ []
  unfolding select
  select_none [] v = refl
  select_none (e ∷ r) v = select_drop e r v.0 ∙ select_none r v.1

  pub select_length : (r : List (ℕ × ℕ)) → length (select f r) ≤ length r
  unfolding select
  select_length [] = omega arith
  select_length (e ∷ r) = let ih = select_length r in cases (f e.0 e.1)
      (λ h. rw (select_keep e r h) (omega arith))
      (λ h. rw (select_drop e r h) (omega arith))

pub select_select : (f g : ℕ → ℕ → Bool) (r : List (ℕ × ℕ)) → length (select g (select f r)) ≤ length (select g r)
unfolding select
select_select f g [] = omega arith
select_select f g (e ∷ r) = let ih = select_select f g r in
    cases (f e.0 e.1)
    (λ h. cases (g e.0 e.1)
    (λ k. rw (select_keep f e r h, select_keep g e (select f r) k, select_keep g e r k) (omega arith))
    (λ k. rw (select_keep f e r h, select_drop g e (select f r) k, select_drop g e r k) ih))
    (λ h. cases (g e.0 e.1)
    (λ k. rw (select_drop f e r h, select_keep g e r k) (omega arith))
    (λ k. rw (select_drop f e r h, select_drop g e r k) ih))

-- where a member of two lists, one after the other, stands
pub split_append {ℓ κ} : {A : Type ℓ} {C : Type κ} (r s p : List A) (a : A) (q : List A) → r ++ s ≡ p ++ (a ∷ q)
    → ((m : List A) → r ≡ p ++ (a ∷ m) → q ≡ m ++ s → C)
    → ((p' : List A) → s ≡ p' ++ (a ∷ q) → C) → C
split_append [] s p a q e f g = g p e
split_append (b ∷ r) s [] a q e f g = f r (cc) (cc)
split_append (b ∷ r) s (c ∷ p) a q e f g = split_append r s p a q (cc) (λ m v w. f m (cc) w) g

pub append_not_nil {ℓ κ} : {A : Type ℓ} {C : Type κ} (p : List A) (a : A) (q : List A) → p ++ (a ∷ q) ≡ [] → C
append_not_nil [] a q e = absurd (cons≢nil e)
append_not_nil (b ∷ p) a q e = absurd (cons≢nil e)

-- what holds of each holds of the selected, which pass the test too
pub each_select : (P : ℕ × ℕ → Type 0) (f : ℕ → ℕ → Bool) (r : List (ℕ × ℕ)) → Each P r → Each (λ e. P e × (f e.0 e.1 ≡ true)) (select f r)
unfolding select
each_select P f [] v = tt
each_select P f (e ∷ r) v = cases (f e.0 e.1)
    (λ h. rw (select_keep f e r h) ((v.0, h), each_select P f r v.1))
    (λ h. rw (select_drop f e r h) (each_select P f r v.1))

-- tests that agree on each member select the same
pub select_cong : (f g : ℕ → ℕ → Bool) (r : List (ℕ × ℕ)) → Each (λ e. f e.0 e.1 ≡ g e.0 e.1) r → select f r ≡ select g r
unfolding select
select_cong f g [] v = refl
select_cong f g (e ∷ r) v = cases (g e.0 e.1)
    (λ h. rw (select_keep f e r (v.0 ∙ h), select_keep g e r h, select_cong f g r v.1))
    (λ h. rw (select_drop f e r (v.0 ∙ h), select_drop g e r h, select_cong f g r v.1))
