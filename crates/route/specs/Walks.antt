-- What the laws say of a list of servers: the level of a link, a walk over links, all of its members, none of them twice.
-- Section "The hall and its numbers".
use Rattle.std.specs.Prelude.{◌≡◌, true, List, [], ◌∷◌, ℕ, zero, suc}
use Rattle.hall.specs.Cells.{same, neighbour, Joined}

-- u and v are joined by a link of level i: two servers of one DCell0, or neighbours
abbrev pub LinkOf : ℕ → ℕ → ℕ → ℕ → Type 0
LinkOf n zero u v = (same n zero u v ≡ true) × (u ≡ v → ⊥)
LinkOf n (suc j) u v = neighbour n j u ≡ v

-- a list of servers that starts with x, ends with y, and has each two that follow each other joined
pub data Walk (n l : ℕ) : ℕ → ℕ → List ℕ → Type 0 where
  done : {x : ℕ} → Walk n l x x (x ∷ [])
  step : {x z y : ℕ} {r : List ℕ} → Joined n l x z → Walk n l z y r → Walk n l x y (x ∷ r)

-- each member satisfies P
abbrev pub Each {ℓ} : {A : Type ℓ} → (A → Type 0) → List A → Type 0
Each P [] = Unit {0}
Each P (a ∷ r) = P a × Each P r

-- no member stands there twice
abbrev pub Once : List ℕ → Type 0
Once [] = Unit {0}
Once (a ∷ r) = Each (λ z. a ≡ z → ⊥) r × Once r
