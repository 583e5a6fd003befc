-- With every port up each hop leaves one less to go, and at first fewer than 2 ^ suc l are left: the links above b are the
-- same from each server of a DCell of level b, and behind the first of them the rest is left.
use mathlib.Core.Path.{◌≡◌, refl, sym, ◌∙◌, ap}
use mathlib.Core.Bool.{true}
use mathlib.Core.List.{List, [], ◌∷◌, ◌++◌}
use Prim.Native.Nat.{ℕ, zero, suc, ◌+◌, ◌-◌, ◌*◌, ◌^◌, ◌<◌, ◌≤◌}
use native.Mathlib.Nat.{mul-le-mul_right, le_trans}
use native.Mathlib.Omega.{arith}
use lib.Dec.{eqb}
use lib.Pow.{pow-add}
use lib.ListN.{length}
use borrow.Author.Tests.{eqb-true, eqb-false, eq-eqb}
use Rattle.hall.specs.Cells.{same}
use Rattle.route.specs.Routes.{above}
use Rattle.route.specs.Delivery.{hop_by, hop, passed, left, Local}
use Rattle.combine.proofs.Tests.{cases}
use Rattle.hall.proofs.Cells.{same_refl, same_left, same_mono}
use Rattle.route.proofs.Above.{above_left, above_nil, above_none, above_next, above_length}

-- at its destination a packet passes nobody else
pub passed_still : (next : ℕ → ℕ → ℕ) (n b l f x : ℕ) → passed next n b l f x x ≡ x ∷ []
unfolding passed
passed_still next n b l zero x = refl
passed_still next n b l (suc f) x = rw (eq-eqb x x refl, passed)

module _ (n b l : ℕ) (low : b ≤ l) (next d : ℕ → ℕ → ℕ) (L : Local n b next d) where
  -- a hop stays in the DCell of level l, and leaves one less to go
  Nearer : ℕ → ℕ → ℕ → Type 0
  Nearer z x y = (same n l z y ≡ true) × (left d (above n b l z y) z y + 1 ≡ left d (above n b l x y) x y)

  hop_by_lem : (x y : ℕ) → same n l x y ≡ true → (x ≡ y → ⊥) → (a : List (ℕ × ℕ)) → above n b l x y ≡ a → Nearer (hop_by next a x y) x y
  unfolding Nearer hop_by left
  hop_by_lem x y s ne [] e =
      let h = above_nil n b l x y s e in
      let k = L.stays x y h ne in (
        (same_left n l x (next x y) y (same_mono n x (next x y) low k)) ∙ s,
        rw (above_left n b l x (next x y) y k, e) (L.nearer x y h ne),
      )
  hop_by_lem x y s ne ((u, v) ∷ r) e =
      let i = above_next n b l x y s u v r e in
      cases (eqb x u)
      (λ q.
      let h = eqb-true x u q in
      let z : d x u ≡ 0 = rw (← h) (L.self x) in
      rw (q, hop_by) ((same_left n l x v y i.1) ∙ s, rw (i.2, e) (omega arith)))
      (λ q.
      let h = eqb-false x u q in
      let k = L.stays x u i.0 h in
      rw (q, hop_by) (
        (same_left n l x (next x u) y (same_mono n x (next x u) low k)) ∙ s,
        rw (above_left n b l x (next x u) y k, e) (omega (arith, L.nearer x u i.0 h)),
      ))

  pub left_short : (a : List (ℕ × ℕ)) (x y : ℕ) → same n l x y ≡ true → above n b l x y ≡ a → left d a x y + 1 ≤ (length a + 1) * 2 ^ suc b
  unfolding left
  left_short [] x y s e = omega (arith, L.short x y (above_nil n b l x y s e))
  left_short (m ∷ r) x y s e =
      let i = above_next n b l x y s m.0 m.1 r e in
      omega (arith, L.short x m.0 i.0, left_short r m.1 y ((same_left n l x m.1 y i.1) ∙ s) i.2)

  -- the bound: 2 ^ suc l
  pub left_bound : (x y : ℕ) → same n l x y ≡ true → left d (above n b l x y) x y < 2 ^ suc l
  left_bound x y s =
      let p : 2 ^ (l - b) * 2 ^ suc b ≡ 2 ^ suc l = sym (pow-add 2 (l - b) (suc b)) ∙ ap (λ (k : ℕ). 2 ^ k) (omega arith) in
      let m : (length (above n b l x y) + 1) * 2 ^ suc b ≤ 2 ^ (l - b) * 2 ^ suc b = mul-le-mul_right (2 ^ suc b) (above_length n b l x y low) in
      let k = left_short (above n b l x y) x y s refl in
      let w : left d (above n b l x y) x y + 1 ≤ 2 ^ suc l = rw p at (le_trans k m) in
      omega arith

  -- nothing is left to go exactly at y
  left_self : (x : ℕ) → left d (above n b l x x) x x ≡ 0
  unfolding left
  left_self x = rw (above_none n b l x x (same_refl n b x)) (L.self x)

  -- delivered: the passed ends at y, over exactly what was left to go
  pub delivered : (f x y : ℕ) → same n l x y ≡ true → left d (above n b l x y) x y ≤ f
      → (p : List ℕ) × (passed next n b l f x y ≡ p ++ (y ∷ [])) × (length p ≡ left d (above n b l x y) x y)
  unfolding passed hop Nearer
  delivered zero x y s h = cases (eqb x y)
      (λ q. let e = eqb-true x y q in rw (← e) ([], refl, sym (left_self x)))
      (λ q. let k = hop_by_lem x y s (eqb-false x y q) (above n b l x y) refl in absurd (omega arith))
  delivered (suc f) x y s h = cases (eqb x y)
      (λ q. let e = eqb-true x y q in rw (← e) ([], passed_still next n b l (suc f) x, sym (left_self x)))
      (λ q.
      let k = hop_by_lem x y s (eqb-false x y q) (above n b l x y) refl in
      let i = delivered f (hop next n b l x y) y k.0 (omega arith) in
      (x ∷ i.0, rw (q, passed) (ap (λ (k : List ℕ). x ∷ k) i.1), omega arith))

  pub delivered_soon : (x y : ℕ) → same n l x y ≡ true
      → (p : List ℕ) × (passed next n b l (2 ^ suc l - 1) x y ≡ p ++ (y ∷ [])) × (length p ≤ 2 ^ suc l - 1)
  delivered_soon x y s =
      let h = left_bound x y s in
      let i = delivered (2 ^ suc l - 1) x y s (omega arith) in
      (i.0, i.1, omega arith)
