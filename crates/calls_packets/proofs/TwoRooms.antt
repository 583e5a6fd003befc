-- A broadcast's two rooms: asked without room it tells its own refusal, or 6, which is what it tells where the room for the counts is short;
-- where that room suffices, the rounds are written exactly where the counts are told.
use mathlib.Core.Path.{◌≡◌, sym, ◌∙◌, ap}
use mathlib.Core.Bool.{Bool, true, false}
use mathlib.Core.List.{List, []}
use Prim.Native.Nat.{ℕ, ◌≤◌, ◌<◌}
use native.Mathlib.Omega.{arith}
use lib.Dec.{eqb, leb, ltb}
use lib.ListN.{length}
use borrow.Author.Tests.{eq-eqb, lt-leb, lt-ltb, le-ltb, eqb-true}
use Rattle.combine.specs.Tests.{pick}
use Rattle.combine.proofs.Tests.{cases, never}
use Rattle.hall.specs.declared.Hall.{Hall}
use Rattle.hall.specs.Refusals.{refusal, short_room}
use Rattle.hall.specs.Halls.{valid, servers}
use Rattle.hall.specs.Rooms.{told, written}
use Rattle.hall.proofs.Cells.{t_pos}
use Rattle.hall.proofs.Growth.{valid_known}
use Rattle.ports.specs.Codes.{table_length}
use Rattle.broadcast.specs.Broadcasts.{scope_fits, scope_size, broadcast_refusal, broadcast_of, room_of}
use Rattle.calls_packets.specs.Outcomes.{of_broadcast, rounds_told}

module _ (h : Hall) (table : List ℕ) (source scope : ℕ) where
  -- the answer's refusal is the broadcast's
  refusal_told : (rounds : List ℕ) → (broadcast_of h table source scope rounds).refusal ≡ broadcast_refusal h table source scope rounds
  refusal_told rounds =
      cases (eqb (broadcast_refusal h table source scope rounds) 0)
      (λ e. rw e (sym (eqb-true (broadcast_refusal h table source scope rounds) 0 e)))
      (λ e. rw e)

  some_server : valid h ≡ true → 0 < scope_size h scope
  unfolding scope_size
  some_server v = let k = valid_known h v in t_pos h.n (omega (arith, k.n_low)) scope

  -- without room: the refusal with room, or 6 where there is none
  without_room : (rounds : List ℕ) → broadcast_refusal h table source scope []
      ≡ pick (eqb (broadcast_refusal h table source scope rounds) 0) short_room (broadcast_refusal h table source scope rounds)
  unfolding refusal
  without_room rounds =
      cases (valid h)
      (λ v.
      cases (eqb (length table) (table_length h))
      (λ l.
      cases (ltb source (servers h))
      (λ u.
      cases (scope_fits h scope)
      (λ f.
      let z : leb (scope_size h scope) 0 ≡ false = lt-leb (scope_size h scope) 0 (some_server v) in
      cases (leb (scope_size h scope) (length rounds)) (λ r. rw (v, l, u, f, z, r)) (λ r. rw (v, l, u, f, z, r)))
      (λ f. rw (v, l, u, f)))
      (λ u. rw (v, l, u)))
      (λ l. rw (v, l)))
      (λ v. rw v)

  -- so without room it is always refused, and nothing is written
  never_taken : eqb (broadcast_refusal h table source scope []) 0 ≡ false
  never_taken =
      cases (eqb (broadcast_refusal h table source scope []) 0)
      (λ e.
      let n : ℕ = broadcast_refusal h table source scope [] in
      let z : n ≡ short_room = without_room [] ∙ ap (λ (t : Bool). pick t short_room n) e in
      absurd (omega (arith, z, eqb-true n 0 e)))
      (λ e. e)

  pub always_refused : 0 ≡ (broadcast_of h table source scope []).refusal → ⊥
  always_refused e = never (eq-eqb (broadcast_refusal h table source scope []) 0 (sym (e ∙ refusal_told []))) never_taken

  pub nothing_written : room_of h table source scope [] ≡ []
  nothing_written = rw never_taken

  module _ (rounds room : List ℕ) where
    abbrev number : ℕ
    number = broadcast_refusal h table source scope rounds

    -- the counts have no room
    module _ (short : length room < 2) where
      told_without : told (of_broadcast (broadcast_of h table source scope rounds)) room ≡ broadcast_refusal h table source scope []
      unfolding told
      told_without =
          rw (lt-ltb (length room) 2 short)
          (ap (λ (n : ℕ). pick (eqb n 0) short_room n) (refusal_told rounds) ∙ sym (without_room rounds))

      pub short_told : (broadcast_of h table source scope []).refusal ≡ told (of_broadcast (broadcast_of h table source scope rounds)) room
      short_told = refusal_told [] ∙ sym told_without

      pub short_rounds : rounds ≡ rounds_told h table source scope rounds room
      short_rounds = rw (told_without, never_taken)

      pub short_counts : room ≡ written (of_broadcast (broadcast_of h table source scope rounds)) room
      unfolding written
      short_counts = rw (told_without, never_taken)

    -- the counts have room
    pub long_rounds : 2 ≤ length room → room_of h table source scope rounds ≡ rounds_told h table source scope rounds room
    unfolding told
    long_rounds l =
        cases (eqb number 0)
        (λ e. rw (le-ltb (length room) 2 l, e))
        (λ e. simp (le-ltb (length room) 2 l, e))
