-- What the calls refuse, and what is known where nothing is refused: by the laws of asks that stand in the order of refusals.
use mathlib.Core.Path.{◌≡◌, refl, ap}
use mathlib.Core.Bool.{true, false, not}
use mathlib.Core.List.{[], ◌∷◌}
use Prim.Native.Nat.{ℕ, ◌-◌, ◌<◌, ◌≤◌}
use lib.Dec.{eqb, leb, ltb}
use borrow.Author.Tests.{eqb-false, not-true, ltb-true, lt-ltb, leb-true, le-leb, lt-leb}
use Rattle.combine.specs.Tests.{pick, both}
use Rattle.combine.proofs.Tests.{both_left, both_right, both_false}
use Rattle.hall.specs.declared.Hall.{Hall}
use Rattle.hall.specs.Refusals.{refusal, in_order, bad_range}
use Rattle.hall.specs.Halls.{valid, servers, asks_hall, asks_uid, asks_level}
use Rattle.hall.specs.Cells.{g, neighbour}
use Rattle.hall.proofs.Asks.{Hold, unrefused_hold, refused_before, decided_after}
use Rattle.hall.proofs.Growth.{Valid, valid_known}
use Rattle.cells.specs.Answers.{NeighbourAnswer, neighbour_of, subcells_fit, asks_link}

-- what is known where nothing is refused
pub record SoundUid (h : Hall) (u : ℕ) : Type 0 where
  pub known : Valid h
  pub below : u < servers h

pub record SoundLevel (h : Hall) (u lowest i : ℕ) : Type 0 where
  pub sound : valid h ≡ true
  pub known : Valid h
  pub below : u < servers h
  pub low : lowest ≤ i
  pub high : i ≤ h.k

pub uid_known : (h : Hall) (u : ℕ) → refusal (asks_hall h ∷ asks_uid h u ∷ []) ≡ 0 → SoundUid h u
uid_known h u e =
    let a = unrefused_hold (asks_hall h ∷ asks_uid h u ∷ []) refl e in
    record { known = valid_known h a.0; below = ltb-true u (servers h) a.1.0 }

level_held : (h : Hall) (u lowest i : ℕ) → Hold (asks_hall h ∷ asks_uid h u ∷ asks_level h lowest i ∷ []) → SoundLevel h u lowest i
level_held h u lowest i a =
    record {
      sound = a.0;
      known = valid_known h a.0;
      below = ltb-true u (servers h) a.1.0;
      low = leb-true lowest i (both_left (leb lowest i) (leb i h.k) a.1.1.0);
      high = leb-true i h.k (both_right (leb lowest i) (leb i h.k) a.1.1.0);
    }

pub level_known : (h : Hall) (u lowest i : ℕ) → refusal (asks_hall h ∷ asks_uid h u ∷ asks_level h lowest i ∷ []) ≡ 0 → SoundLevel h u lowest i
level_known h u lowest i e = level_held h u lowest i (unrefused_hold (asks_hall h ∷ asks_uid h u ∷ asks_level h lowest i ∷ []) refl e)

-- what is refused of the hall and the uid is refused with a level too, by the same number
pub level_later : (h : Hall) (u lowest i r : ℕ) → r ≡ refusal (asks_hall h ∷ asks_uid h u ∷ []) → (r ≡ 0 → ⊥)
    → r ≡ refusal (asks_hall h ∷ asks_uid h u ∷ asks_level h lowest i ∷ [])
level_later h u lowest i = refused_before (asks_hall h ∷ asks_uid h u ∷ []) (asks_level h lowest i ∷ []) refl refl

-- the level decides where nothing is refused before it
module _ (h : Hall) (u lowest i : ℕ) (e : refusal (asks_hall h ∷ asks_uid h u ∷ []) ≡ 0) where
  decided : refusal (asks_hall h ∷ asks_uid h u ∷ asks_level h lowest i ∷ []) ≡ pick (both (leb lowest i) (leb i h.k)) 0 3
  unfolding in_order
  decided = decided_after (asks_hall h ∷ asks_uid h u ∷ []) (asks_level h lowest i ∷ []) refl refl e

  pub level_low : i < lowest → 3 ≡ refusal (asks_hall h ∷ asks_uid h u ∷ asks_level h lowest i ∷ [])
  level_low l = rw (decided, lt-leb lowest i l)

  pub level_high : h.k < i → 3 ≡ refusal (asks_hall h ∷ asks_uid h u ∷ asks_level h lowest i ∷ [])
  level_high l = rw (decided, lt-leb i h.k l, both_false (leb lowest i) false refl)

  pub level_sound : lowest ≤ i → i ≤ h.k → 0 ≡ refusal (asks_hall h ∷ asks_uid h u ∷ asks_level h lowest i ∷ [])
  level_sound l m = rw (decided, le-leb lowest i l, le-leb i h.k m)

-- the same of a level and the sub-cells of a link
module _ (h : Hall) (u i p q : ℕ) where
  pub link_later : (r : ℕ) → r ≡ refusal (asks_hall h ∷ asks_uid h u ∷ asks_level h 1 i ∷ []) → (r ≡ 0 → ⊥) → r ≡ refusal (asks_link h u i p q)
  link_later = refused_before (asks_hall h ∷ asks_uid h u ∷ asks_level h 1 i ∷ []) ((bad_range, subcells_fit h i p q) ∷ []) refl refl

  pub link_alone : refusal (asks_hall h ∷ asks_uid h u ∷ asks_level h 1 i ∷ []) ≡ 0 → refusal (asks_link h u i p q) ≡ pick (subcells_fit h i p q) 0 3
  unfolding in_order
  link_alone = decided_after (asks_hall h ∷ asks_uid h u ∷ asks_level h 1 i ∷ []) ((bad_range, subcells_fit h i p q) ∷ []) refl refl

pub record SoundLink (h : Hall) (u i p q : ℕ) : Type 0 where
  pub level : SoundLevel h u 1 i
  pub p_below : p < g h.n i
  pub q_below : q < g h.n i
  pub apart : p ≡ q → ⊥

pub link_known : (h : Hall) (u i p q : ℕ) → refusal (asks_link h u i p q) ≡ 0 → SoundLink h u i p q
link_known h u i p q e =
    let a = unrefused_hold (asks_link h u i p q) refl e in
    let fit = a.1.1.1.0 in
    let pb = ltb p (g h.n i) in
    let qb = ltb q (g h.n i) in
    let pq = both_left (both pb qb) (not (eqb p q)) fit in
    record {
      level = level_held h u 1 i (a.0, (a.1.0, (a.1.1.0, tt)));
      p_below = ltb-true p (g h.n i) (both_left pb qb pq);
      q_below = ltb-true q (g h.n i) (both_right pb qb pq);
      apart = eqb-false p q (not-true (eqb p q) (both_right (both pb qb) (not (eqb p q)) fit));
    }

-- what the neighbour call answers where nothing is refused
module _ (h : Hall) (u i : ℕ) (v : valid h ≡ true) (l : u < servers h) (low : 0 < i) (high : i ≤ h.k) where
  pub neighbour_sound : neighbour_of h u i ≡ record { refusal = 0; uid = neighbour h.n (i - 1) u }
  unfolding refusal
  neighbour_sound = rw (v, lt-ltb u (servers h) l, le-leb 1 i low, le-leb i h.k high)

  pub neighbour_told : (neighbour_of h u i).uid ≡ neighbour h.n (i - 1) u
  neighbour_told = ap (λ (a : NeighbourAnswer). a.uid) neighbour_sound
