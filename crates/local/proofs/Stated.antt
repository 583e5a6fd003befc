-- Laws of the answers where nothing is refused: the distances and the next hop that are told, for callers that have asked the hall before.
use mathlib.Core.Path.{◌≡◌, refl, ◌∙◌, ap}
use mathlib.Core.Bool.{true}
use mathlib.Core.List.{List}
use Prim.Native.Nat.{ℕ, ◌+◌, ◌<◌}
use native.Mathlib.Omega.{arith}
use lib.Dec.{ltb}
use lib.ListN.{length}
use borrow.Author.Tests.{eq-eqb, lt-ltb}
use Rattle.std.specs.Prelude.{Option, Some, None}
use Rattle.std.proofs.Common.{Result, Ok, Err, IsOk}
use Rattle.combine.specs.Tests.{pick}
use Rattle.combine.proofs.Tests.{cases}
use Rattle.hall.specs.declared.Hall.{Hall}
use Rattle.hall.specs.declared.refusals.Refusal.{Refusal}
use Rattle.hall.specs.Refusals.{refusal}
use Rattle.hall.specs.Cells.{same}
use Rattle.hall.specs.Halls.{valid, servers}
use Rattle.hall.proofs.Stated.{number_not_zero}
use Rattle.ports.specs.Codes.{cell_length}
use Rattle.local.specs.declared.Distances.{Distances}
use Rattle.local.specs.Local.{cell_size, place_of, first_of, counting, record_from, hop}
use Rattle.local.specs.Answers.{DistancesAnswer, distances_of, distances_stated, NextHopAnswer, hop_at, hop_told, next_hop_of, next_hop_stated}

-- the next hop at a place of the cell around u, none behind the cell
abbrev pub hop_found : Hall → ℕ → ℕ → Option ℕ
hop_found h u z = pick (ltb z (cell_size h)) (Some (first_of h u + z)) None

-- a next hop can be read off what is told of it
told_one : (x y : Option ℕ) → hop_told x ≡ hop_told y → x ≡ y
told_one (Some a) (Some b) e = ap (λ (n : NextHopAnswer). Some n.uid) e
told_one (Some a) None e = let z : ◌≡◌ {A = ℕ} 1 0 = ap (λ (n : NextHopAnswer). n.found) e in absurd (omega arith)
told_one None (Some b) e = let z : ◌≡◌ {A = ℕ} 0 1 = ap (λ (n : NextHopAnswer). n.found) e in absurd (omega arith)
told_one None None e = refl

told_refusal : (x : Option ℕ) → (hop_told x).refusal ≡ 0
told_refusal (Some a) = refl
told_refusal None = refl

found_at : (h : Hall) (u z : ℕ) → hop_at h u z ≡ hop_told (hop_found h u z)
unfolding hop_at
found_at h u z = cases (ltb z (cell_size h)) (λ q. rw q) (λ q. rw q)

-- the record of the distances from u, and the next hop from u towards w in its cell
abbrev pub record_told : Hall → ℕ → List ℕ → Distances
record_told h u table = record { origin = u; count = cell_size h; distance = record_from h (counting h u table) (place_of h u) }

abbrev pub hop_towards : Hall → ℕ → ℕ → List ℕ → Option ℕ
hop_towards h u w table = hop_found h u (hop h (counting h u table) (place_of h u) (place_of h w))

-- both are told where nothing is refused
module _ (h : Hall) (u : ℕ) (table : List ℕ) (v : valid h ≡ true) (long : length table ≡ cell_length h h.b) (l : u < servers h) where
  distances_sound : distances_of h u table ≡ distances_stated (Ok (record_told h u table))
  unfolding refusal
  distances_sound = rw (v, eq-eqb (length table) (cell_length h h.b) long, lt-ltb u (servers h) l)

  pub distances_found : (r : Result Distances Refusal) → distances_stated r ≡ distances_of h u table → r ≡ Ok (record_told h u table)
  distances_found (Ok d) e =
      ap (λ (a : DistancesAnswer). Ok (record { origin = a.origin; count = a.count; distance = a.distance })) (e ∙ distances_sound)
  distances_found (Err x) e = absurd (number_not_zero x (ap (λ (a : DistancesAnswer). a.refusal) (e ∙ distances_sound)))

  pub distances_known : (r : Result Distances Refusal) → distances_stated r ≡ distances_of h u table → IsOk r
  distances_known r e = rw (distances_found r e)

  pub distances_are : (r : Result Distances Refusal) (d : Distances) → distances_stated r ≡ distances_of h u table → r ≡ Ok d → d ≡ record_told h u table
  distances_are r d e q = let o = distances_found r e in cc

  module _ (w : ℕ) (k : w < servers h) (s : same h.n h.b u w ≡ true) where
    hop_sound : next_hop_of h u w table ≡ hop_told (hop_towards h u w table)
    unfolding refusal
    hop_sound =
        rw (v, eq-eqb (length table) (cell_length h h.b) long, lt-ltb u (servers h) l, lt-ltb w (servers h) k, s)
        (found_at h u (hop h (counting h u table) (place_of h u) (place_of h w)))

    pub next_hop_found : (r : Result (Option ℕ) Refusal) → next_hop_stated r ≡ next_hop_of h u w table → r ≡ Ok (hop_towards h u w table)
    next_hop_found (Ok x) e = ap Ok (told_one x (hop_towards h u w table) (e ∙ hop_sound))
    next_hop_found (Err x) e = absurd (number_not_zero x (ap (λ (a : NextHopAnswer). a.refusal) (e ∙ hop_sound) ∙ told_refusal (hop_towards h u w table)))

    pub next_hop_known : (r : Result (Option ℕ) Refusal) → next_hop_stated r ≡ next_hop_of h u w table → IsOk r
    next_hop_known r e = rw (next_hop_found r e)

    pub next_hop_is : (r : Result (Option ℕ) Refusal) (x : Option ℕ) → next_hop_stated r ≡ next_hop_of h u w table → r ≡ Ok x → x ≡ hop_towards h u w table
    next_hop_is r x e q = let o = next_hop_found r e in cc
