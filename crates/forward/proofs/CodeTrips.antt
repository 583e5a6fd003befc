-- A journey as the code makes it: what is passed and counted so far, before what is left, is the whole journey.
use mathlib.Core.Path.{◌≡◌, refl, sym, ◌∙◌, ap}
use mathlib.Core.Bool.{true, false}
use mathlib.Core.List.{List, [], ◌∷◌, ◌++◌, append_assoc}
use Prim.Native.Nat.{ℕ, zero, suc, ◌+◌, ◌-◌, ◌*◌, ◌≤◌}
use native.Mathlib.Omega.{arith}
use lib.Dec.{eqb}
use lib.ListN.{length, set, replicate, length-append}
use lib.Seq.{set_at}
use borrow.Author.Tests.{eq-eqb, ne_eqb}
use Rattle.hall.specs.Refusals.{most_retry}
use Rattle.hall.specs.declared.Hall.{Hall}
use Rattle.hall.proofs.Growth.{valid_known}
use Rattle.local.specs.Local.{linked}
use Rattle.counted.specs.Counted.{counted}
use Rattle.counted.proofs.Counted.{counted_length}
use Rattle.ends.specs.Tables.{step_table, cell_part}
use Rattle.forward.specs.declared.endings.Ending.{Ending}
use Rattle.forward.specs.declared.endings.Ending.TheVariants.{DropTtl, DropRoute, DropRetry, DropProxy, Delivered}
use Rattle.forward.specs.declared.Packet.{Packet}
use Rattle.forward.specs.Packets.{ending_number, StepAnswer}
use Rattle.forward.specs.Answers.{JourneyAnswer}
use Rattle.forward.specs.Packets.{forwarded, tidied}
use Rattle.forward.specs.Journeys.{Trip, step_at, ends_at, goes_on, trip_on, trip, sight}
use Rattle.forward.specs.Answers.{most_passed, passed, journey_from}
use Rattle.forward.specs.Inside.{Departing}
use Rattle.forward.proofs.Trips.{tidied_retry, step_sends}
use Rattle.forward.proofs.Steps.{reroutes_few}
use Rattle.forward.proofs.Hops.{step_forwards}
use Rattle.forward.proofs.Sight.{seen_links}
use Rattle.forward.proofs.CodeSteps.{tidied_sound}

-- no ending has the number 0, which says that the packet goes on
pub ending_not_zero : (e : Ending) → ending_number e ≡ 0 → ⊥
ending_not_zero DropTtl z = absurd (omega (arith, z))
ending_not_zero DropRoute z = absurd (omega (arith, z))
ending_not_zero DropRetry z = absurd (omega (arith, z))
ending_not_zero DropProxy z = absurd (omega (arith, z))
ending_not_zero Delivered z = absurd (omega (arith, z))

-- a journey of this ending, these counts and these uids
abbrev pub journey_ending : ℕ → ℕ → ℕ → List ℕ → JourneyAnswer
journey_ending ending links reroutes uids = record { refusal = 0; ending = ending; links = links; reroutes = reroutes; uids = uids }

module _ (h : Hall) (table : List ℕ) (me : ℕ) (p : Packet) (a : Departing h table me p) where
  module _ (o : StepAnswer) (q : o ≡ step_at h table me p) where
    pub step_few : o.reroutes ≤ most_retry
    step_few =
        let r = reroutes_few h (sight h table me) me (tidied p) in
        let t = tidied_retry p in
        let b = a.packet.retry_fits in
        rw q (omega arith)

    -- where it ends, so does the journey
    pub trip_ends : (o.ending ≡ 0 → ⊥) → trip h table me p ≡ ends_at me o
    unfolding trip_on
    trip_ends ne = go p.ttl
      where
        stops : eqb (step_at h table me p).ending forwarded ≡ false
        stops = ne_eqb (step_at h table me p).ending forwarded (λ z. ne (ap (λ (s : StepAnswer). s.ending) q ∙ z))

        go : (f : ℕ) → trip_on f (λ u r. step_at h table u r) me p ≡ ends_at me o
        go zero = rw q
        go (suc f) = rw (q, stops)

    module _ (z : o.ending ≡ 0) where
      forwards : (step_at h table me p).ending ≡ forwarded
      forwards = sym (ap (λ (s : StepAnswer). s.ending) q) ∙ z

      pub ttl_falls : o.packet.ttl + 1 ≡ p.ttl
      ttl_falls = rw q (step_sends h table me p forwards).ttl

      -- else it goes on from the next server, with the packet sent on
      pub trip_goes : trip h table me p ≡ goes_on me o (trip h table o.next o.packet)
      unfolding trip_on
      trip_goes = go p.ttl (sym ttl_falls)
        where
          go : (f : ℕ) → f ≡ o.packet.ttl + 1 → trip_on f (λ u r. step_at h table u r) me p ≡ goes_on me o (trip h table o.next o.packet)
          go zero e = absurd (omega arith)
          go (suc f) e = let g : f ≡ o.packet.ttl = omega arith in rw (eq-eqb (step_at h table me p).ending forwarded forwards, ← q, g)

      pub departs_again : Departing h table o.next o.packet
      departs_again =
          let s = tidied_sound h p a.packet in
          let f = step_forwards h (sight h table me) (λ x w. linked h (cell_part h (step_table h table me)) x w ≡ true) (seen_links h (step_table h table me) (valid_known h a.sound))
          a.sound me (tidied p) a.fits (record { dst_in = s.dst_fits; proxy_in = s.proxy_fits }) forwards in
          let g = step_sends h table me p forwards in
          rw q (record {
            sound = a.sound;
            long = a.long;
            fits = f.inside_hall;
            packet = record {
              dst_fits = f.packet_fits.dst_in;
              proxy_fits = f.packet_fits.proxy_in;
              retry_fits = let b = a.packet.retry_fits in omega (arith, g.retry);
            };
          })

-- the journey goes by the hall table as its codes count, and each of its steps has the table as it stands
pub departs_counted : (h : Hall) (table : List ℕ) (me : ℕ) (p : Packet) → Departing h table me p → Departing h (counted h 0 table) me p
departs_counted h table me p a = record { sound = a.sound; long = counted_length h 0 table ∙ a.long; fits = a.fits; packet = a.packet }

-- what is passed so far, before a trip
abbrev behind : List ℕ → ℕ → ℕ → Trip → Trip
behind filled links reroutes rest = record { ending = rest.ending; links = links + rest.links; reroutes = reroutes + rest.reroutes; uids = filled ++ rest.uids }

-- on the way: `at` servers are passed and written down, and the journey is what is passed before what is left
pub record Underway (h : Hall) (table : List ℕ) (source : ℕ) (packet : Packet) (uids : List ℕ) (me : ℕ) (p : Packet) (reroutes at : ℕ) : Type 0 where
  pub filled : List ℕ
  pub count : length filled ≡ at
  pub room : uids ≡ filled ++ replicate (most_passed - at) 0
  pub left : at + p.ttl ≤ 255
  pub few : reroutes ≤ most_retry * at
  pub departing : Departing h table me p
  pub whole : trip h table source packet ≡ behind filled at reroutes (trip h table me p)

module _ (h : Hall) (table : List ℕ) (source : ℕ) (packet : Packet) where
  pub sets_off : (uids : List ℕ) → uids ≡ replicate most_passed 0 → packet.ttl ≤ 255 → Departing h table source packet
      → Underway h table source packet uids source packet 0 0
  sets_off uids e l a = record {
    filled = [];
    count = refl;
    room = e;
    left = omega arith;
    few = omega arith;
    departing = a;
    whole = from_start (trip h table source packet);
  }
    where
      from_start : (j : Trip) → j ≡ behind [] 0 0 j
      from_start j = let a : 0 + j.links ≡ j.links = omega arith in let b : 0 + j.reroutes ≡ j.reroutes = omega arith in rw (a, b)

  module _ (uids : List ℕ) (me : ℕ) (p : Packet) (reroutes at : ℕ) (w : Underway h table source packet uids me p reroutes at) where
    abbrev Filled : List ℕ
    Filled = w.filled ++ (me ∷ [])

    filled_count_lem : length Filled ≡ at + 1
    filled_count_lem = omega (arith, length-append w.filled (me ∷ []), w.count)

    written : set uids at me ≡ Filled ++ replicate (most_passed - (at + 1)) 0
    written =
        let l = w.left in
        let e : most_passed - at ≡ suc (most_passed - (at + 1)) = omega arith in
        ap (λ (u : List ℕ). set u at me) w.room ∙ rw e (set_at w.filled 0 (replicate (most_passed - (at + 1)) 0) me at w.count)
        ∙ sym (append_assoc w.filled (me ∷ []) (replicate (most_passed - (at + 1)) 0))

    passed_there : set uids at me ≡ passed Filled
    unfolding passed
    passed_there = rw filled_count_lem written

    module _ (o : StepAnswer) (q : o ≡ step_at h table me p) where
      -- the last step: the counts and the uids are the journey's
      pub ends_journey : (o.ending ≡ 0 → ⊥)
          → ◌≡◌ {A = JourneyAnswer} (record { refusal = 0; ending = o.ending; links = at; reroutes = reroutes + o.reroutes; uids = set uids at me })
          (journey_from (trip h table source packet))
      ends_journey ne =
          let e : trip h table source packet ≡ behind w.filled at reroutes (ends_at me o) =
          w.whole ∙ ap (behind w.filled at reroutes) (trip_ends h table me p w.departing o q ne) in
          let z : at + 0 ≡ at = omega arith in
          rw (passed_there, e, z)

      module _ (z : o.ending ≡ 0) where
        -- one step more
        pub goes_on_lem : Underway h table source packet (set uids at me) o.next o.packet (reroutes + o.reroutes) (at + 1)
        goes_on_lem = record {
          filled = Filled;
          count = filled_count_lem;
          room = written;
          left = omega (arith, ttl_falls h table me p w.departing o q z, w.left);
          few = omega (arith, step_few h table me p w.departing o q, w.few);
          departing = departs_again h table me p w.departing o q z;
          whole = w.whole ∙ ap (behind w.filled at reroutes) (trip_goes h table me p w.departing o q z) ∙ moved (trip h table o.next o.packet);
        }
          where
            moved : (j : Trip) → behind w.filled at reroutes (goes_on me o j) ≡ behind Filled (at + 1) (reroutes + o.reroutes) j
            moved j =
                let a : at + (j.links + 1) ≡ at + 1 + j.links = omega arith in
                let b : reroutes + (o.reroutes + j.reroutes) ≡ reroutes + o.reroutes + j.reroutes = omega arith in
                rw (a, b, append_assoc w.filled (me ∷ []) j.uids)
