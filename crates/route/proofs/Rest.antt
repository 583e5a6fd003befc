-- The rest of a route from any server on it is the route from that server: a server before the link of a join has the same
-- near and far end, one behind it is in the sub-cell of the goal.
use mathlib.Core.Path.{◌≡◌, sym, ◌∙◌}
use mathlib.Core.Bool.{true}
use mathlib.Core.List.{List, [], ◌∷◌, ◌++◌}
use Prim.Native.Nat.{ℕ, zero, suc}
use lib.Dec.{eqb}
use borrow.Author.Tests.{eqb-true, eqb-false}
use Rattle.hall.specs.Cells.{same, near, far}
use Rattle.route.specs.Routes.{route}
use Rattle.combine.proofs.Tests.{cases}
use Rattle.hall.proofs.Cells.{crossing, same_left, near_left, far_left}
use Rattle.route.proofs.Lists.{each_at, split_append, append_not_nil}
use Rattle.route.proofs.Routes.{route_here, route_step, route_same, route_apart, route_stays}

module _ (n : ℕ) where
  -- who stands on a route is in its DCell
  pub on_route : (l x y : ℕ) → same n l x y ≡ true → (p : List ℕ) (z : ℕ) (q : List ℕ) → route n l x y ≡ p ++ (z ∷ q) → same n l x z ≡ true
  on_route l x y s p z q e = each_at (λ k. same n l x k ≡ true) p z q (rw e at (route_stays n l x y s))

  one : (x : ℕ) (p : List ℕ) (z : ℕ) (q : List ℕ) → x ∷ [] ≡ p ++ (z ∷ q) → (x ≡ z) × (q ≡ [])
  one x [] z q e = (cc, cc)
  one x (b ∷ p) z q e = append_not_nil p z q (cc)

  two : (x y : ℕ) → (x ≡ y → ⊥) → (p : List ℕ) (z : ℕ) (q : List ℕ) → x ∷ y ∷ [] ≡ p ++ (z ∷ q) → route n zero z y ≡ z ∷ q
  two x y d [] z q e = cc (route_step n x y d)
  two x y d (b ∷ p) z q e = let o = one y p z q (cc) in cc (route_here n y)

  pub rest : (l x y : ℕ) → same n l x y ≡ true → (p : List ℕ) (z : ℕ) (q : List ℕ) → route n l x y ≡ p ++ (z ∷ q) → route n l z y ≡ z ∷ q
  rest zero x y s p z q e = cases (eqb x y)
      (λ k. let h = eqb-true x y k in let r : route n zero x y ≡ x ∷ [] = rw (← h) (route_here n x) in let o = one x p z q (sym r ∙ e) in cc)
      (λ k. let d = eqb-false x y k in two x y d p z q (sym (route_step n x y d) ∙ e))
  rest (suc j) x y s p z q e = cases (same n j x y)
      (λ k. let e' = sym (route_same n j x y k) ∙ e in
      let m = on_route j x y k p z q e' in
      route_same n j z y (same_left n j x z y m ∙ k) ∙ rest j x y k p z q e')
      (λ k. let c = crossing n j x y s k in
      split_append (route n j x (near n j x y)) (route n j (far n j x y) y) p z q (sym (route_apart n j x y k) ∙ e)
      (λ m v w.
      let i = on_route j x (near n j x y) c.here p z m v in
      rw (route_apart n j z y (same_left n j x z y i ∙ k), near_left n j x z y i, far_left n j x z y i, rest j x (near n j x y) c.here p z m v, w))
      (λ p' v.
      let i = on_route j (far n j x y) y c.there p' z q v in
      route_same n j z y (same_left n j (far n j x y) z y i ∙ c.there) ∙ rest j (far n j x y) y c.there p' z q v))
