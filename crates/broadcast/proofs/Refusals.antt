-- Laws of refusals: which number the broadcast call gives, by the table and the uid, then the scope, then the room.
use mathlib.Core.Path.{◌≡◌, refl, sym}
use mathlib.Core.Bool.{true, false}
use mathlib.Core.List.{List, [], ◌∷◌}
use Prim.Native.Nat.{ℕ, min, ◌≤◌, ◌<◌}
use native.Mathlib.Nat.{le_trans}
use native.Mathlib.Omega.{arith}
use lib.Dec.{leb}
use lib.ListN.{length}
use borrow.Author.Tests.{leb-true, le-leb, lt-leb}
use Rattle.combine.specs.Tests.{pick}
use Rattle.hall.specs.declared.Hall.{Hall}
use Rattle.hall.specs.Cells.{t}
use Rattle.hall.specs.Halls.{valid, asks_hall, asks_uid}
use Rattle.hall.specs.declared.refusals.Refusal.{Refusal}
use Rattle.hall.specs.Refusals.{in_order, number_of, bad_address, short_room}
use Rattle.hall.proofs.Asks.{refused_before, decided_after}
use Rattle.hall.proofs.Growth.{valid_known, t_more, t_up}
use Rattle.hall.proofs.Stated.{number_not_zero}
use Rattle.ports.specs.Answers.{asks_table, part_refusal}
use Rattle.broadcast.specs.Broadcasts.{none, scope_fits, scope_size, asks_scope, asks_room, broadcast_refusal}

module _ (h : Hall) (table : List ℕ) (u s : ℕ) (room : List ℕ) where
  -- what the table and the uid are refused for comes first
  pub table_refused : (r : Refusal) → number_of r ≡ part_refusal h table u → number_of r ≡ broadcast_refusal h table u s room
  table_refused r e =
      refused_before (asks_hall h ∷ asks_table h table ∷ asks_uid h u ∷ []) (asks_scope h s ∷ asks_room h s room ∷ []) refl refl (number_of r) e (number_not_zero r)

  -- then the scope, then the room
  module _ (z : 0 ≡ part_refusal h table u) where
    decided : broadcast_refusal h table u s room ≡ pick (scope_fits h s) (pick (leb (scope_size h s) (length room)) 0 short_room) bad_address
    unfolding in_order
    decided = decided_after (asks_hall h ∷ asks_table h table ∷ asks_uid h u ∷ []) (asks_scope h s ∷ asks_room h s room ∷ []) refl refl (sym z)

    pub scope_refused : scope_fits h s ≡ false → 11 ≡ broadcast_refusal h table u s room
    scope_refused d = rw (decided, d)

    pub room_refused : scope_fits h s ≡ true → length room < scope_size h s → 6 ≡ broadcast_refusal h table u s room
    room_refused d e = rw (decided, d, lt-leb (scope_size h s) (length room) e)

    pub not_refused : scope_fits h s ≡ true → scope_size h s ≤ length room → 0 ≡ broadcast_refusal h table u s room
    not_refused d e = rw (decided, d, le-leb (scope_size h s) (length room) e)

-- a scope that fits is a level of the hall
pub scope_low : (h : Hall) (s : ℕ) → scope_fits h s ≡ true → s ≤ h.k
unfolding scope_fits
scope_low h s e = let l = leb-true s (min h.k 2) e in omega arith

pub scope_two : (h : Hall) (s : ℕ) → scope_fits h s ≡ true → s ≤ 2
unfolding scope_fits
scope_two h s e = let l = leb-true s (min h.k 2) e in omega arith

-- and its servers are fewer than the mark of one that is not reached
pub scope_small : (h : Hall) (s : ℕ) → valid h ≡ true → scope_fits h s ≡ true → scope_size h s < none
unfolding scope_size t
scope_small h s v f =
    let e : t h.n s ≤ t 8 2 = le_trans (t_more h.n 8 s (valid_known h v).n_high) (t_up 8 s 2 (scope_two h s f)) in
    omega arith
