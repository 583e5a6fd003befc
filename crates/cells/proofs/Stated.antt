-- Laws of answers: a refusal that `?` hands on, and the neighbour that is found where nothing is refused.
use mathlib.Core.Path.{◌≡◌, ◌∙◌, ap}
use Prim.Native.Nat.{ℕ, ◌-◌, ◌<◌, ◌≤◌}
use mathlib.Core.Bool.{true}
use Rattle.std.proofs.Common.{Result, Ok, Err, IsOk}
use Rattle.hall.specs.declared.Hall.{Hall}
use Rattle.hall.specs.declared.refusals.Refusal.{Refusal}
use Rattle.hall.specs.Cells.{neighbour}
use Rattle.hall.specs.Halls.{valid, servers}
use Rattle.hall.proofs.Stated.{number_not_zero}
use Rattle.cells.specs.Answers.{NeighbourAnswer, neighbour_of, neighbour_stated}
use Rattle.cells.proofs.Asks.{neighbour_sound}

-- the neighbour call where nothing is refused: it answers, and with the neighbour
module _ (h : Hall) (u i : ℕ) (v : valid h ≡ true) (l : u < servers h) (low : 0 < i) (high : i ≤ h.k) where
  sound : neighbour_of h u i ≡ record { refusal = 0; uid = neighbour h.n (i - 1) u }
  sound = neighbour_sound h u i v l low high

  pub neighbour_found : (r : Result ℕ Refusal) → neighbour_stated r ≡ neighbour_of h u i → r ≡ Ok (neighbour h.n (i - 1) u)
  neighbour_found (Ok x) e = ap Ok (ap (λ (a : NeighbourAnswer). a.uid) (e ∙ sound))
  neighbour_found (Err x) e = absurd (number_not_zero x (ap (λ (a : NeighbourAnswer). a.refusal) (e ∙ sound)))

  pub neighbour_known : (r : Result ℕ Refusal) → neighbour_stated r ≡ neighbour_of h u i → IsOk r
  neighbour_known r e = rw (neighbour_found r e)

  pub neighbour_is : (r : Result ℕ Refusal) (x : ℕ) → neighbour_stated r ≡ neighbour_of h u i → r ≡ Ok x → x ≡ neighbour h.n (i - 1) u
  neighbour_is r x e q = let o = neighbour_found r e in cc
