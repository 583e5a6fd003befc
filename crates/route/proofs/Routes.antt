-- A route is a walk that stays in its DCell and is short, by one induction over the four ways in which a route is made.
use mathlib.Core.Path.{◌≡◌, refl, sym}
use mathlib.Core.Bool.{true, false}
use mathlib.Core.List.{List, [], ◌∷◌, ◌++◌}
use Prim.Native.Nat.{ℕ, zero, suc, ◌^◌, ◌≤◌}
use native.Mathlib.Omega.{arith}
use lib.Dec.{eqb}
use lib.ListN.{length, length-append}
use borrow.Author.Tests.{eqb-true, eqb-false, eq-eqb, ne_eqb}
use Rattle.hall.specs.Cells.{same, near, far, Joined, switch, link}
use Rattle.route.specs.Routes.{route, links, hops}
use Rattle.route.specs.Walks.{Walk, done, step, Each}
use Rattle.combine.proofs.Tests.{cases}
use Rattle.hall.proofs.Cells.{Crossing, crossing, same_refl, same_trans, same_up}
use Rattle.route.proofs.Lists.{each_append, each_map, walk_more, walk_append, hops_append}

-- the clauses of route, by the test's value
pub route_here : (n x : ℕ) → route n zero x x ≡ x ∷ []
unfolding route
route_here n x = rw (eq-eqb x x refl, route)

pub route_step : (n x y : ℕ) → (x ≡ y → ⊥) → route n zero x y ≡ x ∷ y ∷ []
unfolding route
route_step n x y d = rw (ne_eqb x y d, route)

pub route_same : (n j x y : ℕ) → same n j x y ≡ true → route n (suc j) x y ≡ route n j x y
unfolding route
route_same n j x y e = rw (e, route)

pub route_apart : (n j x y : ℕ) → same n j x y ≡ false → route n (suc j) x y ≡ route n j x (near n j x y) ++ route n j (far n j x y) y
unfolding route
route_apart n j x y e = rw (e, route)

-- and those of links
pub links_here : (n x : ℕ) → links n zero x x ≡ []
unfolding links
links_here n x = rw (eq-eqb x x refl, links)

pub links_step : (n x y : ℕ) → (x ≡ y → ⊥) → links n zero x y ≡ (x, y) ∷ []
unfolding links
links_step n x y d = rw (ne_eqb x y d, links)

pub links_same : (n j x y : ℕ) → same n j x y ≡ true → links n (suc j) x y ≡ links n j x y
unfolding links
links_same n j x y e = rw (e, links)

pub links_apart : (n j x y : ℕ) → same n j x y ≡ false
    → links n (suc j) x y ≡ links n j x (near n j x y) ++ ((near n j x y, far n j x y) ∷ links n j (far n j x y) y)
unfolding links
links_apart n j x y e = rw (e, links)

-- both ends of the link e are in one DCell of level l
abbrev pub Within : ℕ → ℕ → ℕ × ℕ → Type 0
Within n l e = same n l e.0 e.1 ≡ true

module _ (n : ℕ) where
  pub within_up : (j : ℕ) (e : List (ℕ × ℕ)) → Each (Within n j) e → Each (Within n (suc j)) e
  within_up j e v = each_map (Within n j) (Within n (suc j)) e (λ k. same_up n j k.0 k.1) v

  -- the induction of routes: what holds of the four ways to make one, with its links, holds of all
  module _ (Q : ℕ → ℕ → ℕ → List ℕ → List (ℕ × ℕ) → Type 0)
      (here : (x : ℕ) → Q zero x x (x ∷ []) [])
      (crossed : (x y : ℕ) → same n zero x y ≡ true → (x ≡ y → ⊥) → Q zero x y (x ∷ y ∷ []) ((x, y) ∷ []))
      (lower : (j x y : ℕ) (r : List ℕ) (e : List (ℕ × ℕ)) → same n j x y ≡ true → Q j x y r e → Q (suc j) x y r e)
      (joined : (j x y : ℕ) (r s : List ℕ) (e f : List (ℕ × ℕ)) → Crossing n j x y
      → Q j x (near n j x y) r e → Q j (far n j x y) y s f → Q (suc j) x y (r ++ s) (e ++ ((near n j x y, far n j x y) ∷ f))) where
    pub route_ind : (l x y : ℕ) → same n l x y ≡ true → Q l x y (route n l x y) (links n l x y)
    route_ind zero x y e = cases (eqb x y)
        (λ q. let h = eqb-true x y q in rw (← h, route_here, links_here) (here x))
        (λ q. let d = eqb-false x y q in rw (route_step n x y d, links_step n x y d) (crossed x y e d))
    route_ind (suc j) x y e = cases (same n j x y)
        (λ q. rw (route_same n j x y q, links_same n j x y q) (lower j x y (route n j x y) (links n j x y) q (route_ind j x y q)))
        (λ q. let c = crossing n j x y e q in
        rw (route_apart n j x y q, links_apart n j x y q)
        (joined j x y _ _ _ _ c (route_ind j x (near n j x y) c.here) (route_ind j (far n j x y) y c.there)))

  -- a route is a walk from x to y, stays in the DCell, and is short
  pub route_walk : (l x y : ℕ) → same n l x y ≡ true → Walk n l x y (route n l x y)
  route_walk = route_ind (λ l x y r _. Walk n l x y r)
      (λ x. done)
      (λ x y e d. step (switch e d) done)
      (λ j x y r _ e w. walk_more n (omega arith) w)
      (λ j x y r s _ _ c v w. walk_append n (walk_more n (omega arith) v) (link j (omega arith) c.across) (walk_more n (omega arith) w))

  pub route_stays : (l x y : ℕ) → same n l x y ≡ true → Each (λ z. same n l x z ≡ true) (route n l x y)
  route_stays = route_ind (λ l x y r _. Each (λ z. same n l x z ≡ true) r)
      (λ x. (same_refl n zero x, tt))
      (λ x y e d. (same_refl n zero x, (e, tt)))
      (λ j x y r _ e v. each_map (λ z. same n j x z ≡ true) (λ z. same n (suc j) x z ≡ true) r (λ z. same_up n j x z) v)
      (λ j x y r s _ _ c v w. each_append (λ z. same n (suc j) x z ≡ true) r s
      (each_map (λ z. same n j x z ≡ true) (λ z. same n (suc j) x z ≡ true) r (λ z. same_up n j x z) v)
      (each_map (λ z. same n j (far n j x y) z ≡ true) (λ z. same n (suc j) x z ≡ true) s
      (λ z k. same_trans n (suc j) x (far n j x y) z c.far_up (same_up n j (far n j x y) z k)) w))

  pub route_length : (l x y : ℕ) → same n l x y ≡ true → length (route n l x y) ≤ 2 ^ suc l
  route_length = route_ind (λ l x y r _. length r ≤ 2 ^ suc l)
      (λ x. omega arith)
      (λ x y e d. omega arith)
      (λ j x y r _ e w. omega arith)
      (λ j x y r s _ _ c v w. simp length-append (omega arith))

  -- its links are the pairs of servers that follow each other, and stay
  pub links_hops : (l x y : ℕ) → same n l x y ≡ true → links n l x y ≡ hops (route n l x y)
  unfolding hops
  links_hops l x y s = (route_ind (λ l x y r e. Walk n l x y r × (e ≡ hops r))
      (λ x. (done, refl))
      (λ x y e d. (step (switch e d) done, refl))
      (λ j x y r _ e w. (walk_more n (omega arith) w.0, w.1))
      (λ j x y r s e f c v w.
      let v' = walk_more n {m = suc j} (omega arith) v.0 in
      let w' = walk_more n {m = suc j} (omega arith) w.0 in
      let m : Joined n (suc j) (near n j x y) (far n j x y) = link j (omega arith) c.across in
      (walk_append n v' m w', rw (v.1, w.1) (sym (hops_append n v' m w')))) l x y s).1

  pub links_stay : (l x y : ℕ) → same n l x y ≡ true → Each (Within n l) (links n l x y)
  links_stay = route_ind (λ l x y r e. Each (Within n l) e)
      (λ x. tt)
      (λ x y e d. (e, tt))
      (λ j x y r e s v. within_up j e v)
      (λ j x y r s e f c v w. each_append (Within n (suc j)) e ((near n j x y, far n j x y) ∷ f) (within_up j e v) (c.link_up, within_up j f w))

  -- the same induction for what is said of the links alone, which are known to stay
  module _ (Q : ℕ → ℕ → ℕ → List (ℕ × ℕ) → Type 0)
      (here : (x : ℕ) → Q zero x x [])
      (crossed : (x y : ℕ) → same n zero x y ≡ true → (x ≡ y → ⊥) → Q zero x y ((x, y) ∷ []))
      (lower : (j x y : ℕ) (e : List (ℕ × ℕ)) → same n j x y ≡ true → Each (Within n j) e → Q j x y e → Q (suc j) x y e)
      (joined : (j x y : ℕ) (e f : List (ℕ × ℕ)) → Crossing n j x y → Each (Within n j) e → Each (Within n j) f
      → Q j x (near n j x y) e → Q j (far n j x y) y f → Q (suc j) x y (e ++ ((near n j x y, far n j x y) ∷ f))) where
    pub links_ind : (l x y : ℕ) → same n l x y ≡ true → Q l x y (links n l x y)
    links_ind l x y s = (route_ind (λ l x y r e. Each (Within n l) e × Q l x y e)
        (λ x. (tt, here x))
        (λ x y e d. ((e, tt), crossed x y e d))
        (λ j x y r e s v. (within_up j e v.0, lower j x y e s v.0 v.1))
        (λ j x y r s e f c v w. (
          each_append (Within n (suc j)) e ((near n j x y, far n j x y) ∷ f) (within_up j e v.0) (c.link_up, within_up j f w.0),
          joined j x y e f c v.0 w.0 v.1 w.1,
        )) l x y s).1
