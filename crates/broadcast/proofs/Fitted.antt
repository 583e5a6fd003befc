-- The rounds of a broadcast by the hall table as its codes count: from a server that is not fitted, the server alone; within a DCell1 or in a full
-- hall, as the table stands; within a DCell2, the rounds among its fitted servers, which are its first, and nobody behind them.
use mathlib.Core.Path.{◌≡◌, refl, sym, ◌∙◌, ap}
use mathlib.Core.Bool.{true, false}
use mathlib.Core.List.{List, [], ◌++◌, append-nil}
use Prim.Native.Nat.{ℕ, zero, suc, ◌+◌, ◌-◌, ◌*◌, ◌/◌, ◌%◌, ◌<◌, ◌≤◌}
use native.Mathlib.Nat.{mod-lt, div-add-mod', mul-le-mul_right, mul-div_cancel}
use native.Mathlib.Omega.{arith}
use lib.Dec.{ltb}
use lib.ListN.{length, get_or, replicate, get_or-replicate}
use lib.Seq.{get_or-append-add}
use borrow.Author.Tests.{ltb-true, ltb-false, lt-ltb, le-ltb, le-leb}
use Rattle.combine.specs.Tests.{both}
use Rattle.combine.proofs.Tests.{cases}
use Rattle.hall.specs.declared.Hall.{Hall}
use Rattle.hall.specs.Cells.{t, cell}
use Rattle.hall.specs.Halls.{valid, is_full, servers}
use Rattle.hall.specs.Answers.{racks_of}
use Rattle.hall.proofs.Growth.{valid_known, valid_pos}
use Rattle.ports.proofs.Parts.{t_whole}
use Rattle.search.specs.Rounds.{start, distances, reached_count, last_round}
use Rattle.search.proofs.Rounds.{length-marks}
use Rattle.search.proofs.Distance.{distances_agree}
use Rattle.search.proofs.Cut.{reached_alone, last_alone, distances_alone, distances_front}
use Rattle.plan.specs.Answers.{fitted, is_fitted, front, fitted_servers}
use Rattle.plan.proofs.Asks.{full_is, told_fitted}
use Rattle.plan.proofs.Halls.{fitted_full}
use Rattle.plan.proofs.Front.{front_servers, front_most}
use Rattle.counted.specs.Counted.{counted}
use Rattle.counted.proofs.Counted.{counted_full, cell_fitted}
use Rattle.counted.proofs.Links.{joined_hall}
use Rattle.broadcast.specs.Broadcasts.{none, scope_fits, scope_size, first_in, linked, rounds, rounds_of}
use Rattle.broadcast.specs.Sweeps.{fitted_places, Scoped}
use Rattle.broadcast.proofs.Refusals.{scope_low, scope_two, scope_small}

module _ (h : Hall) (table : List ℕ) (source s : ℕ) where
  -- IN A FULL HALL: AS THE TABLE STANDS
  pub rounds_full : is_full h ≡ true → rounds_of h table source s ≡ rounds h table source s
  rounds_full e = ap (λ (l : List ℕ). rounds h l source s) (counted_full h 0 table e)

  module _ (v : valid h ≡ true) (f : scope_fits h s ≡ true) where
    n_pos : 0 < h.n
    n_pos = let w = valid_known h v in omega (arith, w.n_low)

    few : scope_size h s < none
    few = scope_small h s v f

    origin_in : source % scope_size h s < scope_size h s
    unfolding scope_size
    origin_in = mod-lt source (valid_pos h (valid_known h v) s)

    source_at : first_in h source s + source % scope_size h s ≡ source
    unfolding first_in scope_size cell
    source_at = div-add-mod' source (t h.n s)

    -- a link by places of the DCell(s): both servers fitted, and usable by the table
    linked_counted : (y x : ℕ) → linked h (counted h 0 table) source s y x
        ≡ both (both (fitted h (first_in h source s + y)) (fitted h (first_in h source s + x))) (linked h table source s y x)
    unfolding linked
    linked_counted y x = joined_hall h n_pos table s (first_in h source s + y) (first_in h source s + x) (scope_low h s f)

    -- FROM A SERVER THAT IS NOT FITTED: THE SERVER ITSELF IN ROUND 0
    module _ (e : fitted h source ≡ false) where
      pub rounds_unfitted : rounds_of h table source s ≡ start (scope_size h s) none (source % scope_size h s)
      unfolding rounds
      rounds_unfitted =
          let o : ℕ = source % scope_size h s in
          let w : fitted h (first_in h source s + o) ≡ false = ap (fitted h) source_at ∙ e in
          distances_alone (linked h (counted h 0 table) source s) (scope_size h s) none o origin_in few (λ x l. linked_counted o x ∙ rw w)

      pub reached_unfitted : reached_count none (rounds_of h table source s) (scope_size h s) ≡ 1
      reached_unfitted =
          ap (λ (l : List ℕ). reached_count none l (scope_size h s)) rounds_unfitted
          ∙ reached_alone (scope_size h s) none (source % scope_size h s) origin_in (omega arith)

      pub last_unfitted : last_round none (rounds_of h table source s) (scope_size h s) ≡ 0
      last_unfitted =
          ap (λ (l : List ℕ). last_round none l (scope_size h s)) rounds_unfitted
          ∙ last_alone (scope_size h s) none (source % scope_size h s) origin_in (omega arith)

    -- WITHIN A DCELL1: AS THE TABLE STANDS
    module _ (low : s < 2) (e : fitted h source ≡ true) where
      whole_cell : (y : ℕ) → y < scope_size h s → fitted h (first_in h source s + y) ≡ true
      unfolding first_in scope_size
      whole_cell y l = cell_fitted h n_pos s source (omega arith) y l ∙ e

      pub rounds_local : rounds_of h table source s ≡ rounds h table source s
      unfolding rounds
      rounds_local =
          distances_agree (linked h (counted h 0 table) source s) (linked h table source s) (scope_size h s) none (source % scope_size h s) few origin_in
          (λ y x ly lx. linked_counted y x ∙ rw (whole_cell y ly, whole_cell x lx))

-- in a full hall every DCell1 is fitted
front_full : (h : Hall) → is_full h ≡ true → (first most : ℕ) → front h first most ≡ most
unfolding front
front_full h e first zero = refl
front_full h e first (suc most) = rw (front_full h e first most, fitted_full h (first + most * t h.n 1) e) (omega arith)

-- WITHIN A DCELL2: THE ROUNDS AMONG ITS FITTED SERVERS
module _ (h : Hall) (table : List ℕ) (source : ℕ) (v : valid h ≡ true) (b : source < servers h) (f : scope_fits h 2 ≡ true) where
  servers_are : fitted_servers h source ≡ front h (first_in h source 2) (t h.n 1 + 1) * t h.n 1
  unfolding first_in scope_size
  servers_are = rw (v, le-leb 2 h.k (scope_low h 2 f), lt-ltb source (servers h) b)

  among : (x : ℕ) → x < scope_size h 2 → fitted h (first_in h source 2 + x) ≡ ltb x (fitted_servers h source)
  among x l = rw servers_are (unfold first_in scope_size in (front_servers h (n_pos h table source 2 v f) (cell h.n 2 source) x l))

  pub servers_most : fitted_servers h source ≤ scope_size h 2
  unfolding scope_size t
  servers_most = rw servers_are (mul-le-mul_right (t h.n 1) (front_most h (first_in h source 2) (t h.n 1 + 1)))

  pub source_among : fitted h source ≡ true → source % scope_size h 2 < fitted_servers h source
  source_among e =
      let o : ℕ = source % scope_size h 2 in
      let w : fitted h (first_in h source 2 + o) ≡ true = ap (fitted h) (source_at h table source 2 v f) ∙ e in
      ltb-true o (fitted_servers h source) (sym (among o (origin_in h table source 2 v f)) ∙ w)

  pub rounds_front : fitted h source ≡ true → rounds_of h table source 2
      ≡ distances (linked h table source 2) (fitted_servers h source) none (source % scope_size h 2) ++ replicate (scope_size h 2 - fitted_servers h source) none
  unfolding rounds
  rounds_front e =
      distances_front (linked h table source 2) (linked h (counted h 0 table) source 2) (scope_size h 2) (fitted_servers h source) none (source % scope_size h 2)
      servers_most (source_among e) (λ y x ly lx. linked_counted h table source 2 v f y x ∙ rw (among y ly, among x lx)) (few h table source 2 v f)

  -- in a full hall all of them
  pub servers_full : is_full h ≡ true → fitted_servers h source ≡ scope_size h 2
  unfolding scope_size t
  servers_full e = servers_are ∙ ap (λ (q : ℕ). q * t h.n 1) (front_full h e (first_in h source 2) (t h.n 1 + 1))

-- a whole number of switches
whole_of : (n q size : ℕ) → 0 < n → size ≡ q * n → size / n * n ≡ size
whole_of n q size pos e =
    let d : size / n ≡ q = ap (λ (k : ℕ). k / n) e ∙ mul-div_cancel q pos in
    ap (λ (k : ℕ). k * n) d ∙ sym e

-- the rounds go over the first `count` places of the source's DCell(s)
pub record Over (h : Hall) (table : List ℕ) (source s count : ℕ) : Type 0 where
  pub origin : source % scope_size h s < count
  pub most : count ≤ scope_size h s
  pub whole : count / h.n * h.n ≡ count
  pub rounds_are : rounds_of h table source s ≡ distances (linked h table source s) count none (source % scope_size h s) ++ replicate (scope_size h s - count) none

-- so nobody behind them is reached
pub rounds_behind : (h : Hall) (table : List ℕ) (source s count : ℕ) → Over h table source s count
    → (y : ℕ) → count ≤ y → y < scope_size h s → get_or (rounds_of h table source s) y 0 ≡ none
rounds_behind h table source s count o y l b =
    let a : List ℕ = distances (linked h table source s) count none (source % scope_size h s) in
    let e : y ≡ length a + (y - count) = omega (arith, length-marks (linked h table source s) count none (source % scope_size h s) count) in
    ap (λ (d : List ℕ). get_or d y 0) o.rounds_are
    ∙ ap (λ (i : ℕ). get_or (a ++ replicate (scope_size h s - count) none) i 0) e
    ∙ get_or-append-add a (replicate (scope_size h s - count) none) (y - count) 0
    ∙ get_or-replicate {A = ℕ} (scope_size h s - count) (y - count) none 0 (omega arith)

module _ (h : Hall) (source s size : ℕ) (k : Scoped h source s size) where
  source_fitted : is_fitted h source ≡ fitted h source
  source_fitted = told_fitted h source k.sound k.below

  -- a scope that is not below 2 is 2
  high : 2 ≤ s → s ≡ 2
  high l = let w = scope_two h s k.scope in omega arith

  -- what the code tests
  pub places_full : (c : ℕ) → c ≡ racks_of h.n h.k → h.count ≡ c → size ≡ fitted_places h source s
  unfolding fitted_places
  places_full c e m =
      let full : is_full h ≡ true = full_is h c k.sound e m in
      k.size_is
      ∙ rw (fitted_full h source full)
      (cases (ltb s 2)
      (λ l. rw l)
      (λ l.
      let z = high (ltb-false s 2 l) in
      let w : fitted_servers h source ≡ scope_size h 2 = servers_full h [] source k.sound k.below (rw z at k.scope) full in
      rw (l, w, z)))

  pub places_unfitted : fitted h source ≡ false → 0 ≡ fitted_places h source s
  unfolding fitted_places
  places_unfitted e = rw e

  pub places_none : is_fitted h source ≡ false → 0 ≡ fitted_places h source s
  places_none e = places_unfitted (sym source_fitted ∙ e)

  pub places_local : is_fitted h source ≡ true → s < 2 → size ≡ fitted_places h source s
  unfolding fitted_places
  places_local e l = let w : fitted h source ≡ true = sym source_fitted ∙ e in k.size_is ∙ rw (w, lt-ltb s 2 l)

  pub places_front : is_fitted h source ≡ true → 2 ≤ s → fitted_servers h source ≡ fitted_places h source s
  unfolding fitted_places
  places_front e l = let w : fitted h source ≡ true = sym source_fitted ∙ e in rw (w, le-ltb s 2 l)

  module _ (table : List ℕ) where
    -- a fitted source has rounds over the places of the fitted servers
    pub places_over : fitted h source ≡ true → Over h table source s (fitted_places h source s)
    unfolding fitted_places rounds
    places_over e = cases (ltb s 2) (λ l. rw (e, l) (local (ltb-true s 2 l))) (λ l. rw (e, l) (among_first (high (ltb-false s 2 l))))
      where
        pos : 0 < h.n
        pos = n_pos h table source s k.sound k.scope

        local : s < 2 → Over h table source s (scope_size h s)
        local l =
            let z : scope_size h s - scope_size h s ≡ 0 = omega arith in
            let w : scope_size h s ≡ (t_whole h.n 0 s (omega arith)).0 * h.n = unfold scope_size t in (t_whole h.n 0 s (omega arith)).1 in
            record {
              origin = origin_in h table source s k.sound k.scope;
              most = omega arith;
              whole = whole_of h.n (t_whole h.n 0 s (omega arith)).0 (scope_size h s) pos w;
              rounds_are = rounds_local h table source s k.sound k.scope l e ∙ rw z (sym (append-nil (rounds h table source s)));
            }

        among_first : s ≡ 2 → Over h table source s (fitted_servers h source)
        among_first z =
            let f : scope_fits h 2 ≡ true = rw z at k.scope in
            let q : ℕ = front h (first_in h source 2) (t h.n 1 + 1) in
            let w : fitted_servers h source ≡ q * (h.n + 1) * h.n = servers_are h table source k.sound k.below f ∙ unfold t in (omega arith) in
            rw z (record {
              origin = source_among h table source k.sound k.below f e;
              most = servers_most h table source k.sound k.below f;
              whole = whole_of h.n (q * (h.n + 1)) (fitted_servers h source) pos w;
              rounds_are = rounds_front h table source k.sound k.below f e;
            })

    -- only one that is not fitted has none
    pub none_unfitted : fitted_places h source s ≡ 0 → fitted h source ≡ false
    none_unfitted z = cases (fitted h source) (λ e. absurd (omega (arith, (places_over e).origin))) (λ e. e)
