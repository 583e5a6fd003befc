-- The search for a proxy by level, then distance, then uid: the first that it meets is the choice.
use mathlib.Core.Path.{◌≡◌, refl, sym, ◌∙◌, ap}
use mathlib.Core.Bool.{Bool, true, false, not, false≢true}
use mathlib.Core.List.{List}
use mathlib.Core.Logic.{⊎_elim}
use Prim.Native.Nat.{ℕ, suc, ◌+◌, ◌-◌, ◌<◌, ◌≤◌}
use native.Mathlib.Nat.{eq-or-lt_of_le}
use native.Mathlib.Numerals.{add-one}
use native.Mathlib.Omega.{arith}
use lib.Dec.{eqb, ltb}
use lib.ListN.{length, get_or}
use borrow.Author.Tests.{eq-eqb, ne_eqb, ltb-true, ltb-false, eqb-true, eqb-false}
use Rattle.std.proofs.Common.{Option, Some, None, Result, Ok, IsOk}
use Rattle.combine.specs.Tests.{both}
use Rattle.combine.proofs.Tests.{cases, never, both_left, both_right, both_true}
use Rattle.hall.specs.declared.Hall.{Hall}
use Rattle.hall.specs.declared.refusals.Refusal.{Refusal}
use Rattle.hall.proofs.Growth.{valid_known}
use Rattle.ports.specs.Codes.{cell_length}
use Rattle.local.specs.declared.Distances.{Distances}
use Rattle.local.specs.Local.{none, cell_size, place_of, counting, record_from, distance}
use Rattle.local.specs.Answers.{distances_of, distances_stated}
use Rattle.local.proofs.Stated.{distances_known, distances_are}
use Rattle.local.proofs.Linked.{record_at}
use Rattle.local.proofs.Distance.{local_bounded}
use Rattle.local.proofs.Sizes.{size_fits, place_fits}
use Rattle.forward.specs.declared.Candidate.{Candidate}
use Rattle.forward.specs.Seen.{Seen}
use Rattle.forward.specs.Proxies.{is_candidate, candidate, best_below, or_else, first_found, choice}
use Rattle.ends.specs.Tables.{cell_part}
use Rattle.forward.specs.Inside.{Here, held, lent}
use Rattle.forward.proofs.CodeTables.{own_long, counting_own}
use Rattle.forward.proofs.Chosen.{Nearest, Best, found, missing, best_found}

-- the first that a search by distance and then by uid meets is the best of its level
module _ (s : Seen) (me i count : ℕ) where
  one_nearest : (p q : ℕ) → Nearest s me i count p → Nearest s me i count q → q ≡ p
  one_nearest p q n m =
      let a = n.nearest q m.below m.candidate in
      let b = m.nearest p n.below n.candidate in
      cases (ltb q p)
      (λ e. absurd (omega (arith, n.lowest q (ltb-true q p e) m.candidate)))
      (λ e. ⊎_elim (λ (r : p ≡ q). sym r) (λ (l : p < q). absurd (omega (arith, m.lowest p l n.candidate))) (eq-or-lt_of_le (ltb-false q p e)))

  pub nearest_best : (p : ℕ) → Nearest s me i count p → best_below s me i count ≡ candidate p i
  nearest_best p n = go (best_below s me i count) (best_found s me i count)
    where
      go : (b : Option Candidate) → Best s me i count b → b ≡ candidate p i
      go (Some c) (found {p = q} m) = ap (λ (v : ℕ). candidate v i) (one_nearest p q n m)
      go None (missing none) = never n.candidate (none p n.below)

  pub none_best : ((q : ℕ) → q < count → is_candidate s me i q ≡ false) → best_below s me i count ≡ None
  none_best f = go (best_below s me i count) (best_found s me i count)
    where
      go : (b : Option Candidate) → Best s me i count b → b ≡ None
      go (Some c) (found {p = q} m) = never m.candidate (f q m.below)
      go None (missing _) = refl

-- one look at a place, by its distance x, for a candidate at distance d
module _ (s : Seen) (me i p d : ℕ) (small : d < none) (x : ℕ) (xs : x ≡ s.distance me p) (t : Bool) (ts : t ≡ both (eqb x d) (s.usable i p)) where
  pub look_finds : t ≡ true → (is_candidate s me i p ≡ true) × (s.distance me p ≡ d)
  unfolding is_candidate
  look_finds e =
      let w = sym ts ∙ e in
      let q : s.distance me p ≡ d = sym xs ∙ eqb-true x d (both_left (eqb x d) (s.usable i p) w) in
      let n : eqb (s.distance me p) none ≡ false = ne_eqb (s.distance me p) none (λ z. omega arith) in
      (rw n (both_right (eqb x d) (s.usable i p) w), q)

  pub look_passes : t ≡ false → is_candidate s me i p ≡ true → d ≤ s.distance me p → d < s.distance me p
  unfolding is_candidate
  look_passes e c l =
      let u = both_right (not (eqb (s.distance me p) none)) (s.usable i p) c in
      cases (eqb x d)
      (λ q. never (both_true (eqb x d) (s.usable i p) q u) (sym ts ∙ e))
      (λ q. let n = eqb-false x d q in ⊎_elim (λ (z : d ≡ s.distance me p). absurd (n (xs ∙ sym z))) (λ z. z) (eq-or-lt_of_le l))

-- a candidate is at a distance
pub candidate_distance : (s : Seen) (me i p : ℕ) → is_candidate s me i p ≡ true → s.distance me p ≡ none → ⊥
unfolding is_candidate
candidate_distance s me i p c e =
    let w = both_left (not (eqb (s.distance me p) none)) (s.usable i p) c in
    let v : not true ≡ true = rw (eq-eqb (s.distance me p) none e) at w in
    false≢true v

-- no candidate at distance d among the first places: one place more
pub passed_more : (s : Seen) (me i d place : ℕ) → ((q : ℕ) → q < place → is_candidate s me i q ≡ true → d < s.distance me q)
    → (is_candidate s me i place ≡ true → d < s.distance me place)
    → (q : ℕ) → q < place + 1 → is_candidate s me i q ≡ true → d < s.distance me q
passed_more s me i d place before here q l w =
    ⊎_elim (λ (e : q ≡ place). rw e (here (rw e at w))) (λ (k : q < place). before q k w) (eq-or-lt_of_le {n = q} {m = place} (omega arith))

-- behind the greatest distance there is no candidate
pub none_behind : (s : Seen) (me i q last d x : ℕ) → x ≡ s.distance me q → s.distance me q ≤ none → (x < none → x ≤ last) → last < d
    → (is_candidate s me i q ≡ true → d ≤ s.distance me q) → is_candidate s me i q ≡ false
none_behind s me i q last d x e small far l low =
    cases (is_candidate s me i q)
    (λ w.
    let a = low w in
    ⊎_elim (λ (z : s.distance me q ≡ none). absurd (candidate_distance s me i q w z))
    (λ (z : s.distance me q < none). let b = far (omega arith) in absurd (omega arith))
    (eq-or-lt_of_le small))
    (λ w. w)

-- a search that goes up by one level: what is left of it
module _ (find : ℕ → Option Candidate) (n l : ℕ) where
  found_step : l < n → first_found find (n - l) l ≡ or_else (find l) (first_found find (n - (l + 1)) (l + 1))
  unfolding first_found
  found_step h = let e : n - l ≡ suc (n - (l + 1)) = omega arith in rw (e, add-one l)

  pub found_here : (p i : ℕ) → l < n → find l ≡ candidate p i → first_found find (n - l) l ≡ candidate p i
  found_here p i h e = found_step h ∙ rw e

  pub found_later : l < n → find l ≡ None → first_found find (n - (l + 1)) (l + 1) ≡ first_found find (n - l) l
  found_later h e = rw (found_step h, e)

  pub found_never : n ≤ l → first_found find (n - l) l ≡ None
  unfolding first_found
  found_never h = let e : n - l ≡ 0 = omega arith in rw e

-- the levels from l to k, of a choice
abbrev pub choice_from : Hall → Seen → ℕ → ℕ → Option Candidate
choice_from h s me l = first_found (λ i. best_below s me i (cell_size h)) (suc h.k - l) l

pub choice_whole : (h : Hall) (s : Seen) (me m : ℕ) → choice_from h s me m ≡ choice h s me m
unfolding choice
choice_whole h s me m = refl

-- the record of distances from a server of a sound hall
module _ {whole : Bool} (h : Hall) (table : List ℕ) (me : ℕ) (a : Here h whole table me) (part : List ℕ) (o : part ≡ cell_part h (held h whole table me))
    (r : Result Distances Refusal) (e : distances_stated r ≡ distances_of h me part) where
  abbrev own : List ℕ
  own = cell_part h (lent h whole table me)

  long : length part ≡ cell_length h h.b
  long = ap length o ∙ own_long h whole table me a

  pub distances_there : IsOk r
  distances_there = distances_known h me part a.sound long a.fits r e

  module _ (from : Distances) (q : r ≡ Ok from) where
    told : from ≡ record { origin = me; count = cell_size h; distance = record_from h own (place_of h me) }
    told = distances_are h me part a.sound long a.fits r from e q ∙ ap (λ (l : List ℕ). record { origin = me; count = cell_size h; distance = record_from h l (place_of h me) }) (ap (counting h me) o ∙ counting_own h whole table me a)

    pub count_is : from.count ≡ cell_size h
    count_is = ap (λ (d : Distances). d.count) told

    pub count_fits : from.count ≤ 72
    count_fits = omega (arith, count_is, size_fits h (valid_known h a.sound))

    pub distance_is : (place : ℕ) → place < from.count → get_or from.distance place 0 ≡ distance h (cell_part h (lent h whole table me)) (place_of h me) place
    unfolding distance
    distance_is place l =
        ap (λ (d : Distances). get_or d.distance place 0) told ∙ record_at h own (place_of h me) place (omega (arith, count_is))

    pub distance_small : (place : ℕ) → place < from.count → distance h (cell_part h (lent h whole table me)) (place_of h me) place ≤ none
    distance_small place l =
        let v = valid_known h a.sound in
        let f = size_fits h v in
        ⊎_elim (λ (q : distance h own (place_of h me) place ≡ none). omega arith) (λ (q : distance h own (place_of h me) place < cell_size h). omega arith)
        (local_bounded h own v (place_of h me) place (place_fits h v me) (omega (arith, count_is)))
