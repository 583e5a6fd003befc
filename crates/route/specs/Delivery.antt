-- What is left to go for a packet with every port up: local distances, and one for each link above b between them.
-- Section "One forwarding step", steps 4 to 8, for any local next hop and distance.
use Rattle.std.specs.Prelude.{◌≡◌, true, List, [], ◌∷◌, ℕ, zero, suc, ◌+◌, ◌^◌, ◌≤◌, ◌<◌, eqb, length}
use Rattle.combine.specs.Tests.{pick}
use Rattle.hall.specs.Cells.{same, Joined}
use Rattle.route.specs.Routes.{above}
use Rattle.route.specs.Walks.{Walk}

-- the hop from x towards y: with no link above b, the local next hop to y; at the first link's near end, its far end; else
-- the local next hop to its near end. next x y is the local next hop from x towards y in their DCell of level b
unfoldable pub hop_by : (ℕ → ℕ → ℕ) → List (ℕ × ℕ) → ℕ → ℕ → ℕ
hop_by next [] x y = next x y
hop_by next (e ∷ r) x y = pick (eqb x e.0) e.1 (next x e.0)

unfoldable pub hop : (ℕ → ℕ → ℕ) → ℕ → ℕ → ℕ → ℕ → ℕ → ℕ
hop next n b l x y = hop_by next (above n b l x y) x y

-- the servers that a packet from x to y passes in at most f hops
unfoldable pub passed : (ℕ → ℕ → ℕ) → ℕ → ℕ → ℕ → ℕ → ℕ → ℕ → List ℕ
passed next n b l zero x y = x ∷ []
passed next n b l (suc f) x y = pick (eqb x y) (x ∷ []) (x ∷ passed next n b l f (hop next n b l x y) y)

-- what is left to go over these links above b; d x y is the local distance
unfoldable pub left : (ℕ → ℕ → ℕ) → List (ℕ × ℕ) → ℕ → ℕ → ℕ
left d [] x y = d x y
left d (e ∷ r) x y = d x e.0 + 1 + left d r e.1 y

-- the potential of x towards y
unfoldable pub left_from : (ℕ → ℕ → ℕ) → ℕ → ℕ → ℕ → ℕ → ℕ → ℕ
left_from d n b l x y = left d (above n b l x y) x y

-- what delivery asks of the local next hop and distance
pub record Local (n b : ℕ) (next d : ℕ → ℕ → ℕ) : Type 0 where
  pub self : (x : ℕ) → d x x ≡ 0
  pub stays : (x y : ℕ) → same n b x y ≡ true → (x ≡ y → ⊥) → same n b x (next x y) ≡ true
  pub nearer : (x y : ℕ) → same n b x y ≡ true → (x ≡ y → ⊥) → d (next x y) y + 1 ≡ d x y
  pub short : (x y : ℕ) → same n b x y ≡ true → d x y < 2 ^ suc b

-- d x y + 1 is the least number of servers on a walk from x to y by links of level at most b
pub record Least (n b : ℕ) (d : ℕ → ℕ → ℕ) : Type 0 where
  pub least : (x y : ℕ) (r : List ℕ) → Walk n b x y r → d x y + 1 ≤ length r
  pub reached : (x y : ℕ) → same n b x y ≡ true → (r : List ℕ) × Walk n b x y r × (length r ≡ d x y + 1)

-- next x y is joined to x, and one link nearer to y
pub record Toward (n b : ℕ) (next d : ℕ → ℕ → ℕ) : Type 0 where
  pub crosses : (x y : ℕ) → same n b x y ≡ true → (x ≡ y → ⊥) → Joined n b x (next x y)
  pub gains : (x y : ℕ) → same n b x y ≡ true → (x ≡ y → ⊥) → d (next x y) y + 1 ≡ d x y

-- the second of a list, or z
unfoldable pub second : List ℕ → ℕ → ℕ
second [] z = z
second (x ∷ []) z = z
second (x ∷ (y ∷ r)) z = y
