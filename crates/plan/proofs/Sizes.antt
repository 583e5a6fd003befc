-- What the planner's numbers are at most: a sub-cell has its DCell1s among those of its cell, so the largest hall bounds them all.
use Prim.Native.Nat.{ℕ, suc, ◌+◌, ◌*◌, ◌<◌, ◌≤◌}
use native.Mathlib.Nat.{mul-le-mul_right}
use native.Mathlib.Omega.{arith}
use Rattle.hall.specs.Cells.{sub}
use Rattle.hall.specs.Halls.{largest, Sized, racks}
use Rattle.hall.proofs.Cells.{sub_fits}
use Rattle.hall.proofs.Racks.{fit}
use Rattle.plan.specs.Plan.{rank, prefix_of}
use Rattle.plan.proofs.Place.{place_rank}
use Rattle.plan.proofs.Servers.{prefix_fits}

-- a server's sub-cell has its DCell1s below those of the cell
pub sub_racks : (n k j : ℕ) → 0 < n → Sized n k → suc j < k → (u : ℕ) → sub n (suc j) u * racks n j + racks n j ≤ largest
sub_racks n k j pos z l u = let f = (fit n k j pos z l).r_fits in omega (arith, mul-le-mul_right (racks n j) (sub_fits n (suc j) u))

-- a server's DCell1 is one of its DCell's
pub rank_below : (n j u : ℕ) → rank n j (prefix_of n j u) < racks n j
rank_below n j u = (place_rank n j (prefix_of n j u) (prefix_fits n j u)).0
