-- What a distance means: the least number of links that reach a server, or that no number of links does.
-- Sections "Local distance" and "Broadcast".
use Rattle.std.specs.Prelude.{ℕ, zero, suc, ◌<◌, ◌≡◌, Bool, true, false, List, [], ◌∷◌, eqb}
use Rattle.combine.specs.Tests.{both, either, any_below}

-- v is reached from o in at most r links, over the servers below n
unfoldable pub reach : (ℕ → ℕ → Bool) → ℕ → ℕ → ℕ → ℕ → Bool
reach adj n o zero v = eqb v o
reach adj n o (suc r) v = either (reach adj n o r v) (any_below (λ y. both (reach adj n o r y) (adj y v)) n)

-- d is the least number of links that reach v from o
pub record Least (adj : ℕ → ℕ → Bool) (n o v d : ℕ) : Type 0 where
  pub reached : reach adj n o d v ≡ true
  pub sooner : (r : ℕ) → r < d → reach adj n o r v ≡ false

-- no number of links reaches v from o
abbrev pub Far : (ℕ → ℕ → Bool) → ℕ → ℕ → ℕ → Type 0
Far adj n o v = (r : ℕ) → reach adj n o r v ≡ false

-- what d says of v: `none` that it is never reached, else the least number of links
pub data Means (adj : ℕ → ℕ → Bool) (n none o v d : ℕ) : Type 0 where
  far : d ≡ none → Far adj n o v → Means adj n none o v d
  near : d < n → Least adj n o v d → Means adj n none o v d

-- a walk from x to y by the list of its servers, each joined to the next
pub data Walk (adj : ℕ → ℕ → Bool) (n : ℕ) : ℕ → ℕ → List ℕ → Type 0 where
  done : {x : ℕ} → Walk adj n x x (x ∷ [])
  step : {x z y : ℕ} {r : List ℕ} → x < n → adj x z ≡ true → Walk adj n z y r → Walk adj n x y (x ∷ r)

-- a link that can be crossed can be crossed back
abbrev pub Symmetric : (ℕ → ℕ → Bool) → ℕ → Type 0
Symmetric adj n = (y x : ℕ) → y < n → x < n → adj y x ≡ adj x y

-- two adjacencies of the servers below n that are one
abbrev pub Agree : (ℕ → ℕ → Bool) → (ℕ → ℕ → Bool) → ℕ → Type 0
Agree a b n = (y x : ℕ) → y < n → x < n → a y x ≡ b y x
