-- Laws of the call: what an input that is not refused is like, and that rounds over the run of the table for the source's DCell(s)
-- are the rounds over the hall table.
use mathlib.Core.Path.{◌≡◌, refl, sym, ◌∙◌, ap, ap₂}
use mathlib.Core.Bool.{true, false}
use mathlib.Core.List.{List, ◌++◌, append_assoc}
use Prim.Native.Nat.{ℕ, ◌+◌, ◌-◌, ◌*◌, ◌/◌, ◌%◌, ◌≤◌, ◌<◌}
use native.Mathlib.Nat.{mod-lt}
use native.Mathlib.Omega.{arith}
use lib.ListN.{length, get_or, take, drop, replicate, length-set, length-replicate, length-append, get_or-append}
use lib.Seq.{take_at, drop_at}
use borrow.Author.Tests.{eqb-true, leb-true, ltb-true}
use Rattle.std.specs.Prelude.{Ok}
use Rattle.combine.proofs.Tests.{cases}
use Rattle.hall.specs.declared.Hall.{Hall}
use Rattle.hall.specs.Cells.{cell}
use Rattle.hall.specs.Halls.{valid, servers}
use Rattle.hall.specs.Answers.{size_of}
use Rattle.hall.proofs.Asks.{unrefused_hold}
use Rattle.hall.proofs.Growth.{valid_known, valid_pos, size_of_lem}
use Rattle.ports.specs.Codes.{table_length, cell_length, run}
use Rattle.ports.specs.Links.{joined}
use Rattle.ports.proofs.Parts.{Sound, run_within}
use Rattle.ports.proofs.Runs.{joined_run}
use Rattle.search.specs.Rounds.{start, distances}
use Rattle.search.specs.Reach.{Agree}
use Rattle.search.proofs.Rounds.{length-marks, start_tail}
use Rattle.search.proofs.Distance.{distances_agree}
use Rattle.search.proofs.Counts.{reached_front, last_front, reached_tail, last_tail}
use Rattle.search.proofs.Cut.{start_other}
use Rattle.plan.specs.Answers.{fitted}
use Rattle.counted.specs.Counted.{counted}
use Rattle.broadcast.specs.declared.Broadcast.{Broadcast}
use Rattle.broadcast.specs.Broadcasts.{BroadcastAnswer, none, scope_fits, scope_size, first_in, linked, rounds, rounds_of, tally_of, broadcast_refusal, broadcast_of, broadcast_stated, room_of}
use Rattle.broadcast.specs.Sweeps.{fitted_places, Scoped, Behind, Ready}
use Rattle.broadcast.proofs.Refusals.{scope_low, scope_two, scope_small}
use Rattle.broadcast.proofs.Fitted.{rounds_unfitted, reached_unfitted, last_unfitted, Over, rounds_behind, places_unfitted, places_over, none_unfitted}

-- the size that the code works out is that of the scope's DCell
pub scope_size_lem : (h : Hall) (s size : ℕ) → valid h ≡ true → scope_fits h s ≡ true → size ≡ size_of h s → size ≡ scope_size h s
unfolding scope_size
scope_size_lem h s size v f e = size_of_lem h s size v (scope_low h s f) e

-- an input that is not refused
pub record Accepted (h : Hall) (table : List ℕ) (u s : ℕ) (room : List ℕ) : Type 0 where
  pub sound : Sound h table u
  pub scope : scope_fits h s ≡ true
  pub long : scope_size h s ≤ length room

module _ {h : Hall} {table : List ℕ} {u s : ℕ} {room : List ℕ} where
  pub accepted : 0 ≡ broadcast_refusal h table u s room → Accepted h table u s room
  accepted e =
      let a = unrefused_hold _ refl (sym e) in
      record {
        sound = record { is_valid = a.0; long = eqb-true (length table) (table_length h) a.1.0; below = ltb-true u (servers h) a.1.1.0 };
        scope = a.1.1.1.0;
        long = leb-true (scope_size h s) (length room) a.1.1.1.1.0;
      }

  module _ (k : Accepted h table u s room) {size : ℕ} (size_is : size ≡ scope_size h s) where
    pub low : s ≤ h.k
    low = scope_low h s k.scope

    pub size_pos : 0 < size
    unfolding scope_size
    size_pos = rw size_is (valid_pos h (valid_known h k.sound.is_valid) s)

    pub scoped : Scoped h u s size
    scoped = record { sound = k.sound.is_valid; below = k.sound.below; scope = k.scope; size_is = size_is }

    pub origin_low : u % size < size
    origin_low = mod-lt u size_pos

    -- the run of the table for the source's DCell(s)
    module _ (bytes : ℕ) (wide : bytes ≡ size * (h.k + 1)) where
      pub run_ends : u / size * bytes + bytes ≤ length table
      unfolding scope_size cell cell_length
      run_ends = rw (wide, size_is) (run_within h table u s k.sound low)

      pub run_is : take (u / size * bytes + bytes - u / size * bytes) (drop (u / size * bytes) table) ≡ run h table s u
      unfolding scope_size run cell cell_length
      run_is =
          let d : u / size * bytes + bytes - u / size * bytes ≡ bytes = omega arith in
          rw (d, wide, size_is)

    length-rounds : length (rounds_of h table u s) ≡ size
    unfolding rounds
    length-rounds = length-marks (linked h (counted h 0 table) u s) (scope_size h s) none (u % scope_size h s) (scope_size h s) ∙ sym size_is

    length-start : length (start size none (u % size)) ≡ size
    length-start = length-set {A = ℕ} (replicate size none) (u % size) 0 ∙ length-replicate {A = ℕ} size none

    -- the room behind `begin`, and the places that the rounds go over
    module _ {count : ℕ} (count_is : count ≡ fitted_places h u s) {mid : List ℕ} (begun : mid ≡ start size none (u % size) ++ drop size room)
        (e : 0 ≡ broadcast_refusal h table u s room) where
      -- none: the source alone
      module _ (nobody : count ≡ 0) where
        unfitted : fitted h u ≡ false
        unfitted = none_unfitted h u s size scoped table (sym count_is ∙ nobody)

        pub room_alone : mid ≡ room_of h table u s room
        room_alone =
            begun
            ∙ ap (λ (m : ℕ). start m none (u % m) ++ drop m room) size_is
            ∙ ap (λ (l : List ℕ). l ++ drop (scope_size h s) room) (sym (rounds_unfitted h table u s k.sound.is_valid k.scope unfitted))
            ∙ rw (← e)

        pub answer_alone : broadcast_stated (Ok (record { reached = 1; last = 0 })) ≡ broadcast_of h table u s room
        answer_alone =
            let counts : ℕ → ℕ → BroadcastAnswer = λ a b. record { refusal = 0; reached = a; last = b } in
            sym (ap₂ counts (reached_unfitted h table u s k.sound.is_valid k.scope unfitted) (last_unfitted h table u s k.sound.is_valid k.scope unfitted))
            ∙ rw (← e)

      -- some: the source is among them
      module _ (somebody : count ≡ 0 → ⊥) where
        over : Over h table u s count
        over = rw count_is (places_over h u s size scoped table (cases (fitted h u) (λ w. w) (λ w. absurd (somebody (count_is ∙ sym (places_unfitted h u s size scoped w))))))

        origin_among : u % size < count
        origin_among = rw size_is over.origin

        count_most : count ≤ size
        count_most = rw size_is over.most

        mid_is : mid ≡ start count none (u % size) ++ (replicate (size - count) none ++ drop size room)
        mid_is =
            begun
            ∙ ap (λ (l : List ℕ). l ++ drop size room) (start_tail (linked h table u s) count none size (u % size) origin_among count_most)
            ∙ append_assoc (start count none (u % size)) (replicate (size - count) none) (drop size room)

        length_first : length (start count none (u % size)) ≡ count
        length_first = length-set {A = ℕ} (replicate count none) (u % size) 0 ∙ length-replicate {A = ℕ} count none

        length_mid : size ≤ length mid
        length_mid = omega (arith, ap length begun, length-append (start size none (u % size)) (drop size room), length-start)

        behind : Behind h s count mid
        unfolding scope_size
        behind y l b =
            let w : y < size = rw size_is b in
            ap (λ (a : List ℕ). get_or a y 0) begun
            ∙ get_or-append (start size none (u % size)) (drop size room) 0 y (omega (arith, length-start))
            ∙ start_other size none (u % size) origin_low y w (λ q. absurd (omega (arith, q, origin_among)))

        pub begun_ready : Ready h s count (u % size) mid
        unfolding scope_size
        begun_ready =
            let v = valid_known h k.sound.is_valid in
            record {
              fits = record {
                n_low = v.n_low;
                n_high = v.n_high;
                scope_high = scope_two h s k.scope;
                whole = over.whole;
                most = over.most;
                inside = rw (sym size_is) length_mid;
                small = omega arith;
              };
              low = origin_among;
              begun = ap (λ (l : List ℕ). take count l) mid_is ∙ take_at (start count none (u % size)) (replicate (size - count) none ++ drop size room) count length_first;
              behind = behind;
            }

        -- rounds over the run are rounds over the hall table
        agree : Agree (joined h (run h table s u) s) (linked h table u s) count
        unfolding linked first_in scope_size
        agree y x a b =
            let v = valid_known h k.sound.is_valid in
            let m = over.most in
            joined_run h table (omega (arith, v.n_low)) s u s y x (omega arith) low (omega arith) (omega arith)

        rounds_are : distances (joined h (run h table s u) s) count none (u % size) ++ replicate (size - count) none ≡ rounds_of h table u s
        rounds_are =
            ap (λ (l : List ℕ). l ++ replicate (size - count) none)
            (distances_agree (joined h (run h table s u) s) (linked h table u s) count none (u % size) (omega (arith, count_most, size_is, scope_small h s k.sound.is_valid k.scope)) origin_among agree)
            ∙ ap (λ (m : ℕ). distances (linked h table u s) count none (u % m) ++ replicate (m - count) none) size_is
            ∙ sym over.rounds_are

        -- the room behind the rounds
        module _ {part : List ℕ} (part_is : part ≡ run h table s u) {end : List ℕ} (ran : end ≡ distances (joined h part s) count none (u % size) ++ drop count mid) where
          room_holds : end ≡ rounds_of h table u s ++ drop size room
          room_holds =
              ran
              ∙ ap (λ (l : List ℕ). distances (joined h l s) count none (u % size) ++ drop count mid) part_is
              ∙ ap (λ (l : List ℕ). distances (joined h (run h table s u) s) count none (u % size) ++ l)
              (ap (λ (l : List ℕ). drop count l) mid_is ∙ drop_at (start count none (u % size)) (replicate (size - count) none ++ drop size room) count length_first)
              ∙ sym (append_assoc (distances (joined h (run h table s u) s) count none (u % size)) (replicate (size - count) none) (drop size room))
              ∙ ap (λ (l : List ℕ). l ++ drop size room) rounds_are

          pub room_long : count ≤ length end
          room_long = omega (arith, count_most, ap length room_holds, length-append (rounds_of h table u s) (drop size room), length-rounds)

          pub room_at_exit : end ≡ room_of h table u s room
          room_at_exit = room_holds ∙ rw (← e, size_is)

          -- nobody behind the places is reached, so the counts over them are the counts over all
          pub answer_is : (b : Broadcast) → broadcast_stated (Ok b) ≡ tally_of count end → broadcast_stated (Ok b) ≡ broadcast_of h table u s room
          answer_is b f =
              let d : List ℕ = rounds_of h table u s in
              let l : count ≤ length d = omega (arith, count_most, length-rounds) in
              let behind = rounds_behind h table u s count over in
              let counts : ℕ → ℕ → BroadcastAnswer = λ a b. record { refusal = 0; reached = a; last = b } in
              f
              ∙ ap (λ (a : List ℕ). tally_of count a) room_holds
              ∙ ap₂ counts
              (reached_tail none d (drop size room) count l ∙ sym (reached_front none d count (scope_size h s) over.most behind))
              (last_tail none d (drop size room) count l ∙ sym (last_front none d count (scope_size h s) over.most behind))
              ∙ rw (← e)
