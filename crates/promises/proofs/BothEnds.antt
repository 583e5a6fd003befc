-- A link that is crossed is joined at the lowest level that holds both its ends, so both ports of that level are up; the step of a server is a
-- function of what it is lent; and with every port up it is that of the rule of before, wherever a packet may come.
use mathlib.Core.Path.{◌≡◌, sym, ◌∙◌, ap}
use mathlib.Core.Bool.{true, false, not}
use mathlib.Core.List.{List}
use Prim.Native.Nat.{ℕ, zero, suc, ◌≤◌, ◌<◌}
use native.Mathlib.Omega.{arith}
use lib.Dec.{eqb}
use lib.ListN.{length}
use borrow.Author.Tests.{eqb-true}
use Rattle.combine.specs.Tests.{pick, both}
use Rattle.combine.proofs.Tests.{both_left, both_right, either_cases}
use Rattle.hall.specs.declared.Hall.{Hall}
use Rattle.hall.specs.Cells.{same, neighbour, lowest}
use Rattle.hall.specs.Halls.{valid}
use Rattle.hall.proofs.Cells.{neighbour_stays, neighbour_leaves}
use Rattle.hall.proofs.Growth.{valid_known}
use Rattle.ports.specs.Codes.{up, table_length, EveryUp}
use Rattle.ports.specs.Links.{on_switch, both_up, joined}
use Rattle.ports.proofs.Tables.{up_is_one}
use Rattle.route.proofs.Lowest.{lowest_only, lowest_switch}
use Rattle.ports.proofs.Parts as parts
use Rattle.counted.specs.Counted.{counted}
use Rattle.counted.proofs.Links.{joined_stands}
use Rattle.ends.specs.Tables.{step_length, step_table, lent_counted}
use Rattle.ends.proofs.Tables.{same_bytes}
use Rattle.ends.proofs.Answers.{length-step}
use Rattle.forward.specs.declared.Packet.{Packet}
use Rattle.forward.specs.Journeys.{step_at}
use Rattle.forward.specs.Before.{step_before}
use Rattle.hall.specs.Refusals.{most_retry}
use Rattle.forward.specs.Steps.{step}
use Rattle.forward.specs.Answers.{refused_step, step_of}
use Rattle.promises.specs.Journeys as journeys
use Rattle.forward.proofs.Links.{n_pos}
use Rattle.forward.proofs.Trips.{trip_travels, each_hop}
use Rattle.forward.proofs.Agree.{lent_agrees, trip_on_same}
use Rattle.forward.proofs.Counting.{step_counting, step_counted}
use Rattle.forward.proofs.Before.{all_up_before}
use Rattle.forward.proofs.Sight.{usable_hall}
use Rattle.promises.specs.BothEnds.{UsableByBoth, EndsUp, EveryEndUp, StepsRest, StepLent, AllUpUnchanged}
use Rattle.promises.proofs.AnyCodes.{Stands, departs, known_at, stands_on, hops_usable, sound_counted}
use Rattle.promises.proofs.Counts.{sound_unrefused}

pub usable_by_both : UsableByBoth
usable_by_both h table me place i v long here = usable_hall h table me (known_at h table v long me here) i place

module _ (h : Hall) (table : List ℕ) (pos : 0 < h.n) (x y : ℕ) where
  ends_at : (i : ℕ) → lowest h.n h.k x y ≡ i → both_up h table i x y ≡ true → EndsUp h table x y
  unfolding both_up
  ends_at i e q = rw e (
    up_is_one h table x i (both_left (up h table x i) (up h table y i) q),
    up_is_one h table y i (both_right (up h table x i) (up h table y i) q),
  )

  joined_ends : (l : ℕ) → l ≤ h.k → joined h table l x y ≡ true → EndsUp h table x y
  unfolding joined on_switch
  joined_ends zero high e =
      let s = both_left (same h.n 0 x y) (not (eqb x y)) (both_left (on_switch h.n x y) (both_up h table 0 x y) e) in
      ends_at 0 (lowest_switch h.n h.k x y s) (both_right (on_switch h.n x y) (both_up h table 0 x y) e)
  joined_ends (suc j) high e =
      either_cases (joined h table j x y) (both (eqb (neighbour h.n j x) y) (both_up h table (suc j) x y)) e
      (λ q. joined_ends j (omega arith) q)
      (λ q.
      let w = eqb-true (neighbour h.n j x) y (both_left (eqb (neighbour h.n j x) y) (both_up h table (suc j) x y) q) in
      let a : same h.n j x y ≡ false = rw w at (neighbour_leaves h.n pos j x) in
      let s : same h.n (suc j) x y ≡ true = rw w at (neighbour_stays h.n pos j x) in
      ends_at (suc j) (lowest_only h.n h.k x y j high a s) (both_right (eqb (neighbour h.n j x) y) (both_up h table (suc j) x y) q))

pub every_end_up : EveryEndUp
every_end_up h table source p s =
    let pos = n_pos h (valid_known h s.hall_valid) in
    let c = sound_counted h table source p s in
    let T : List ℕ = counted h 0 table in
    each_hop h T (Stands h) (EndsUp h table) (stands_on h T c.hall_valid c.table_long)
    (λ me q k e. joined_ends h table pos me (step_at h T me q).next h.k (omega arith)
    (joined_stands h pos table me (step_at h T me q).next (hops_usable h T c.hall_valid c.table_long me q k e)))
    (trip_travels h T source p) (departs h T source p c)

-- a journey's step is the one that the call answers over what its server is lent
module _ (h : Hall) (table : List ℕ) (me : ℕ) (p : Packet) (s : journeys.Sound h table me p) where
  known : parts.Sound h table me
  known = known_at h table s.hall_valid s.table_long me s.source_in

  pub stands_lent : step h (lent_counted h me (step_table h table me)) me p ≡ step_at h (counted h 0 table) me p
  stands_lent = step_counting h table me known p

  answered_step : p.retry ≤ most_retry → (lent : List ℕ) → length lent ≡ step_length h → step_of h me p lent ≡ step h (lent_counted h me lent) me p
  answered_step r lent long =
      ap (λ (number : ℕ). pick (eqb number 0) (step h (lent_counted h me lent) me p) (refused_step number))
      (sound_unrefused h table me p s r lent (step_length h) long)

pub step_lent : StepLent
step_lent h table me p s r =
    let c = sound_counted h table me p s in
    record {
      as_written =
          answered_step h table me p s r (step_table h (counted h 0 table) me) (length-step h (counted h 0 table) me (known h (counted h 0 table) me p c))
          ∙ step_counted h table me (known h (counted h 0 table) me p c) p;
      as_it_stands = answered_step h table me p s r (step_table h table me) (length-step h table me (known h table me p s)) ∙ stands_lent h table me p s;
    }

pub steps_rest : StepsRest
steps_rest h a b me p s z = record {
  on_bytes = λ e. rests (same_bytes h a b me e.near e.far);
  on_ups = λ e. sym (stands_lent h a me p s) ∙ lent_agrees h me (step_table h a me) (step_table h b me) p (length-step h a me (known h a me p s) ∙ sym (length-step h b me (known h b me p z))) e ∙ stands_lent h b me p z;
}
  where
    rests : step_table h a me ≡ step_table h b me → step_at h (counted h 0 a) me p ≡ step_at h (counted h 0 b) me p
    rests e = sym (stands_lent h a me p s) ∙ ap (λ (l : List ℕ). step h (lent_counted h me l) me p) e ∙ stands_lent h b me p z

before_same : (h : Hall) (table : List ℕ) → valid h ≡ true → length table ≡ table_length h → EveryUp table
    → (me : ℕ) (p : Packet) → Stands h me p → step_before h table me p ≡ step_at h table me p
before_same h table v long all me p k = all_up_before h table me (known_at h table v long me k.0) all p

pub all_up_unchanged : AllUpUnchanged
all_up_unchanged h table source p s all =
    let v = s.hall_valid in
    let long = s.table_long in
    record {
      step = sym (before_same h table v long all source p (departs h table source p s));
      journey = sym (trip_on_same (λ u q. step_before h table u q) (λ u q. step_at h table u q) (Stands h) (before_same h table v long all)
          (stands_on h table v long) p.ttl source p (departs h table source p s));
    }
