-- What a broadcast's numbers mean: each is the least number of usable links from the source, or says that no number of links will do;
-- with every port up everyone is reached, in fewer than 2 ^ (s + 1) rounds.
use mathlib.Core.Path.{◌≡◌, sym, ◌∙◌, ap}
use mathlib.Core.Bool.{true}
use mathlib.Core.List.{List}
use Prim.Native.Nat.{ℕ, zero, suc, ◌+◌, ◌%◌, ◌^◌, ◌≤◌, ◌<◌}
use native.Mathlib.Nat.{mod-lt}
use native.Mathlib.Omega.{arith}
use native.Mathlib.Numerals.{add-one}
use lib.Dec.{lit≤}
use lib.ListN.{get_or}
use Rattle.hall.specs.declared.Hall.{Hall}
use Rattle.hall.specs.Cells.{t, Joined}
use Rattle.hall.proofs.Links.{hall_same}
use Rattle.hall.proofs.Growth.{Valid, valid_known, valid_pos}
use Rattle.route.specs.Walks as walks
use Rattle.route.proofs.Routes.{route_walk, route_length}
use Rattle.route.proofs.Local as route_local
use Rattle.ports.specs.Codes.{EveryUp, SameUps, cell_length, run}
use Rattle.ports.proofs.Links.{same_below, link_wired, joined_symmetric, joined_agrees}
use Rattle.ports.proofs.Parts.{Sound}
use Rattle.ports.proofs.Runs.{joined_run, joined_every, length_run, run_every}
use Rattle.search.specs.Rounds.{reached_count, last_round}
use Rattle.search.specs.Reach.{Means, Symmetric, Walk, done, step}
use Rattle.search.proofs.Reach.{walk_long}
use Rattle.search.proofs.Distance.{distance_means, distance_only, distance_self, distance_walk, distances_agree}
use Rattle.search.proofs.Counts.{reached_start, reached_more, last_reached}
use Rattle.broadcast.specs.Broadcasts.{none, scope_fits, scope_size, first_in, linked, rounds}
use Rattle.broadcast.proofs.Refusals.{scope_low, scope_two, scope_small}

-- where each number is below m, all are counted, and the last round is below m
pub counts_all : (old : List ℕ) (n m : ℕ) → m ≤ none → ((v : ℕ) → v < n → get_or old v 0 < m) → reached_count none old n ≡ n
counts_all old zero m h f = reached_start none old
counts_all old (suc n) m h f =
    let b = f n (omega arith) in
    rw (sym (add-one n)) (reached_more none old n (λ e. absurd (omega (arith, e))) ∙ ap (λ (k : ℕ). k + 1) (counts_all old n m h (λ v l. f v (omega arith))))

pub last_below : (old : List ℕ) (n m : ℕ) → 0 < n → m ≤ none → ((v : ℕ) → v < n → get_or old v 0 < m) → last_round none old n < m
last_below old n m pos h f =
    let b = f 0 pos in
    let w = last_reached none old n 0 pos (λ e. absurd (omega (arith, e))) in
    omega (arith, w.2, f w.0 w.1)

small_power : (s : ℕ) → s ≤ 2 → 2 ^ suc s ≤ 8
small_power zero h = lit≤ tt
small_power (suc zero) h = lit≤ tt
small_power (suc (suc zero)) h = lit≤ tt
small_power (suc (suc (suc s))) h = absurd (omega arith)

module _ (h : Hall) (table : List ℕ) (u s : ℕ) (k : Sound h table u) (f : scope_fits h s ≡ true) where
  known : Valid h
  known = valid_known h k.is_valid

  n_pos : 0 < h.n
  n_pos = omega (arith, known.n_low)

  scope_pos : 0 < scope_size h s
  unfolding scope_size
  scope_pos = valid_pos h known s

  few : scope_size h s < none
  few = scope_small h s k.is_valid f

  origin_in : u % scope_size h s < scope_size h s
  origin_in = mod-lt u scope_pos

  -- the number of a server is the least number of links from the source, or says that no number of links will do
  pub round_means : (v : ℕ) → v < scope_size h s → Means (linked h table u s) (scope_size h s) none (u % scope_size h s) v (get_or (rounds h table u s) v 0)
  unfolding rounds
  round_means v l = distance_means (linked h table u s) (scope_size h s) none few (u % scope_size h s) origin_in v l

  -- and nothing else is
  pub round_only : (v d : ℕ) → v < scope_size h s → Means (linked h table u s) (scope_size h s) none (u % scope_size h s) v d → get_or (rounds h table u s) v 0 ≡ d
  unfolding rounds
  round_only v d l m = distance_only (linked h table u s) (scope_size h s) none few (u % scope_size h s) origin_in v d l m

  -- the source is reached in round 0
  pub source_zero : get_or (rounds h table u s) (u % scope_size h s) 0 ≡ 0
  unfolding rounds
  source_zero = distance_self (linked h table u s) (scope_size h s) none few (u % scope_size h s) origin_in

  -- a link joins both ways
  pub linked_turns : Symmetric (linked h table u s) (scope_size h s)
  unfolding linked
  linked_turns y x i j = joined_symmetric h table n_pos s (first_in h u s + y) (first_in h u s + x)

  -- tables with code 1 at the same places have the same rounds
  pub rounds_agree : (other : List ℕ) → SameUps table other → rounds h table u s ≡ rounds h other u s
  unfolding rounds linked
  rounds_agree other e =
      distances_agree (linked h table u s) (linked h other u s) (scope_size h s) none (u % scope_size h s) few origin_in
      (λ y x i j. joined_agrees h table other e s (first_in h u s + y) (first_in h u s + x))

  module _ (ups : EveryUp table) where
    every_linked : (x y : ℕ) → x < scope_size h s → y < scope_size h s → Joined h.n s x y → linked h table u s x y ≡ true
    unfolding linked first_in scope_size cell_length
    every_linked x y i j e =
        let low = scope_low h s f in
        sym (joined_run h table n_pos s u s x y (omega arith) low i j)
        ∙ joined_every h (run h table s u) (t h.n s) (run_every h table s u ups k low) (length_run h table u s k low) s x y low i j
        ∙ link_wired h.n e

    walk_linked : {x y : ℕ} {r : List ℕ} → x < scope_size h s → walks.Walk h.n s x y r → Walk (linked h table u s) (scope_size h s) x y r
    unfolding scope_size
    walk_linked i walks.done = done
    walk_linked {x} i (walks.step {z = z} e w) =
        let j : z < t h.n s = same_below h.n s x z n_pos (route_local.joined_same h.n n_pos e) i in
        step i (every_linked x z i j e) (walk_linked j w)

    -- with every port up each number is below 2 ^ (s + 1)
    pub every_soon : (v : ℕ) → v < scope_size h s → get_or (rounds h table u s) v 0 < 2 ^ suc s
    unfolding rounds scope_size
    every_soon v l =
        let o : ℕ = u % t h.n s in
        let one = hall_same h.n n_pos s o v origin_in l in
        let w = walk_linked origin_in (route_walk h.n s o v one) in
        let d = distance_walk (linked h table u s) (t h.n s) none few o origin_in v l w in
        let m = walk_long (linked h table u s) (t h.n s) w in
        omega (arith, route_length h.n s o v one)

    -- so everyone is reached, and the last round is below 2 ^ (s + 1)
    pub every_reached : reached_count none (rounds h table u s) (scope_size h s) ≡ scope_size h s
    every_reached = counts_all (rounds h table u s) (scope_size h s) (2 ^ suc s) (omega (arith, small_power s (scope_two h s f))) every_soon

    pub every_last : last_round none (rounds h table u s) (scope_size h s) < 2 ^ suc s
    every_last = last_below (rounds h table u s) (scope_size h s) (2 ^ suc s) scope_pos (omega (arith, small_power s (scope_two h s f))) every_soon
