-- No server stands twice on a route: the two parts of a join lie in two DCells of level j, which share no server.
use mathlib.Core.Path.{◌≡◌}
use mathlib.Core.Bool.{true}
use mathlib.Core.List.{List, [], ◌∷◌, ◌++◌}
use Prim.Native.Nat.{ℕ, zero, suc}
use Rattle.combine.proofs.Tests.{never}
use Rattle.hall.specs.Cells.{same, far}
use Rattle.hall.proofs.Cells.{Crossing, same_refl, same_sym, same_trans, same_up}
use Rattle.route.specs.Routes.{route}
use Rattle.route.specs.Walks.{Each, Once}
use Rattle.route.proofs.Lists.{each_append, each_map}
use Rattle.route.proofs.Routes.{route_ind}

-- a is no member
abbrev pub Apart : List ℕ → ℕ → Type 0
Apart s a = Each (λ z. a ≡ z → ⊥) s

pub once_append : (r s : List ℕ) → Once r → Once s → Each (Apart s) r → Once (r ++ s)
once_append [] s v w k = w
once_append (a ∷ r) s v w k = (each_append (λ z. a ≡ z → ⊥) r s v.0 k.0, once_append r s v.1 w k.1)

module _ (n : ℕ) where
  -- z is in the DCell of level l of x
  abbrev In : ℕ → ℕ → ℕ → Type 0
  In l x z = same n l x z ≡ true

  -- who is in the DCell of x is not in that of far, where those are two
  apart : (j x y : ℕ) (r s : List ℕ) → Crossing n j x y → Each (In j x) r → Each (In j (far n j x y)) s → Each (Apart s) r
  apart j x y r s c v w =
      each_map (In j x) (Apart s) r
      (λ a p. each_map (In j (far n j x y)) (λ z. a ≡ z → ⊥) s
      (λ z q e. never
      (same_trans n j x a y p
      (same_trans n j a (far n j x y) y (same_sym n j (far n j x y) a (rw e q)) c.there))
      c.apart) w) v

  pub route_once : (l x y : ℕ) → same n l x y ≡ true → Once (route n l x y)
  route_once l x y s = (route_ind n (λ l x y r _. Each (In l x) r × Once r)
      (λ x. ((same_refl n zero x, tt), (tt, tt)))
      (λ x y e d. ((same_refl n zero x, (e, tt)), ((d, tt), (tt, tt))))
      (λ j x y r _ e v. (each_map (In j x) (In (suc j) x) r (λ z. same_up n j x z) v.0, v.1))
      (λ j x y r s _ _ c v w. (
        each_append (In (suc j) x) r s
            (each_map (In j x) (In (suc j) x) r (λ z. same_up n j x z) v.0)
            (each_map (In j (far n j x y)) (In (suc j) x) s
            (λ z k. same_trans n (suc j) x (far n j x y) z c.far_up (same_up n j (far n j x y) z k)) w.0),
        once_append r s v.1 w.1 (apart j x y r s c v.0 w.0),
      )) l x y s).1
