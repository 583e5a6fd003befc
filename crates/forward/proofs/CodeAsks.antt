-- What the calls refuse, test by test in the order of refusals, and what is known of a packet that nothing refuses.
use mathlib.Core.Path.{◌≡◌, refl, sym, ◌∙◌}
use mathlib.Core.Bool.{Bool, true, false, not}
use mathlib.Core.List.{List, ◌∷◌}
use Prim.Native.Nat.{ℕ, ◌<◌, ◌≤◌}
use lib.Dec.{eqb, ltb, leb}
use lib.ListN.{length}
use borrow.Author.Tests.{eq-eqb, ne_eqb, eqb-true, lt-ltb, le-ltb, ltb-true, le-leb, lt-leb, leb-true}
use Rattle.combine.specs.Tests.{pick, either}
use Rattle.combine.proofs.Tests.{never}
use Rattle.hall.specs.declared.Hall.{Hall}
use Rattle.hall.specs.Halls.{valid, servers, asks_hall}
use Rattle.hall.specs.Refusals.{refusal, in_order, bad_length, most_retry}
use Rattle.hall.proofs.Asks.{refusal_in_order, first_refuses, first_passes, unrefused_hold, hold_unrefused}
use Rattle.ports.specs.Codes.{table_length}
use Rattle.ports.specs.Answers.{asks_table}
use Rattle.ends.specs.Tables.{step_length}
use Rattle.hall.proofs.Growth.{no_servers, some_servers, valid_servers}
use Rattle.forward.specs.declared.Packet.{Packet}
use Rattle.forward.specs.Packets.{StepAnswer}
use Rattle.forward.specs.Answers.{JourneyAnswer}
use Rattle.forward.specs.Steps.{step}
use Rattle.forward.specs.Journeys.{trip}
use Rattle.forward.specs.Answers.{asks_lent, asks_packet, refused_step, step_of, journey_from, refused_journey, journey_of}
use Rattle.counted.specs.Counted.{counted}
use Rattle.ends.specs.Tables.{lent_counted}
use Rattle.forward.specs.Inside.{Here, Sound, Departing, asks_below}

-- the tests of a packet, in order
module _ (count me : ℕ) (p : Packet) (fit : Bool) (is : fit ≡ either (not p.has_proxy) (ltb p.proxy count)) where
  by_tests : refusal (asks_below count me p) ≡ pick (ltb me count) (pick (ltb p.dst count) (pick fit (pick (leb p.retry most_retry) 0 8) 2) 2) 2
  unfolding in_order
  by_tests = refusal_in_order (asks_below count me p) refl ∙ rw is

  module _ (me-fits : me < count) (dst_fits : p.dst < count) where
    pub refuses_proxy : fit ≡ false → 2 ≡ refusal (asks_below count me p)
    refuses_proxy e = sym (by_tests ∙ rw (lt-ltb me count me-fits, lt-ltb p.dst count dst_fits, e))

    pub refuses_retry : fit ≡ true → most_retry < p.retry → 8 ≡ refusal (asks_below count me p)
    refuses_retry e l = sym (by_tests ∙ rw (lt-ltb me count me-fits, lt-ltb p.dst count dst_fits, e, lt-leb p.retry most_retry l))

    pub refuses_nothing : fit ≡ true → p.retry ≤ most_retry → 0 ≡ refusal (asks_below count me p)
    refuses_nothing e l = sym (by_tests ∙ rw (lt-ltb me count me-fits, lt-ltb p.dst count dst_fits, e, le-leb p.retry most_retry l))

pub refuses_uid : (count me : ℕ) (p : Packet) → count ≤ me → 2 ≡ refusal (asks_below count me p)
refuses_uid count me p l = sym (by_tests count me p (either (not p.has_proxy) (ltb p.proxy count)) refl ∙ rw (le-ltb me count l))

pub refuses_dst : (count me : ℕ) (p : Packet) → me < count → count ≤ p.dst → 2 ≡ refusal (asks_below count me p)
refuses_dst count me p k l =
    sym (by_tests count me p (either (not p.has_proxy) (ltb p.proxy count)) refl ∙ rw (lt-ltb me count k, le-ltb p.dst count l))

-- the table comes before them, by the length that is wanted of it
module _ (bytes : ℕ) (table : List ℕ) (count me : ℕ) (p : Packet) where
  pub refuses_length : (length table ≡ bytes → ⊥) → 4 ≡ refusal ((bad_length, eqb (length table) bytes) ∷ asks_below count me p)
  refuses_length ne = sym (first_refuses _ (asks_below count me p) refl (ne_eqb (length table) bytes ne))

  pub refuses_packet : length table ≡ bytes → (r : ℕ) → r ≡ refusal (asks_below count me p) → r ≡ refusal ((bad_length, eqb (length table) bytes) ∷ asks_below count me p)
  refuses_packet l r e = e ∙ sym (first_passes _ (asks_below count me p) refl (eq-eqb (length table) bytes l))

-- what is known where nothing is refused
pub record Unrefused (h : Hall) (bytes : ℕ) (table : List ℕ) (me : ℕ) (p : Packet) : Type 0 where
  pub sound : valid h ≡ true
  pub long : length table ≡ bytes
  pub fits : me < servers h
  pub packet : Sound h p

proxy_below : (has : Bool) (below : Bool) → either (not has) below ≡ true → has ≡ true → below ≡ true
proxy_below true below e q = e
proxy_below false below e q = never q refl

unrefused : (h : Hall) (bytes : ℕ) (table : List ℕ) (me : ℕ) (p : Packet)
    → refusal (asks_hall h ∷ (bad_length, eqb (length table) bytes) ∷ asks_packet h me p) ≡ 0 → Unrefused h bytes table me p
unrefused h bytes table me p z =
    let a = unrefused_hold (asks_hall h ∷ (bad_length, eqb (length table) bytes) ∷ asks_packet h me p) refl z in
    let b = a.1.1 in
    record {
      sound = a.0;
      long = eqb-true (length table) bytes a.1.0;
      fits = ltb-true me (servers h) b.0;
      packet = record {
        dst_fits = ltb-true p.dst (servers h) b.1.0;
        proxy_fits = λ q. ltb-true p.proxy (servers h) (proxy_below p.has_proxy (ltb p.proxy (servers h)) b.1.1.0 q);
        retry_fits = leb-true p.retry most_retry b.1.1.1.0;
      };
    }

proxy_asked : (has below : Bool) → (has ≡ true → below ≡ true) → either (not has) below ≡ true
proxy_asked true below f = f refl
proxy_asked false below f = refl

-- and where all of that is so, nothing is refused
pub nothing_refused : (h : Hall) (bytes : ℕ) (table : List ℕ) (me : ℕ) (p : Packet) → Unrefused h bytes table me p
    → refusal (asks_hall h ∷ (bad_length, eqb (length table) bytes) ∷ asks_packet h me p) ≡ 0
nothing_refused h bytes table me p u =
    let here = lt-ltb me (servers h) u.fits in
    let there = lt-ltb p.dst (servers h) u.packet.dst_fits in
    let proxy = proxy_asked p.has_proxy (ltb p.proxy (servers h)) (λ e. lt-ltb p.proxy (servers h) (u.packet.proxy_fits e)) in
    let retry = le-leb p.retry most_retry u.packet.retry_fits in
    hold_unrefused (asks_hall h ∷ (bad_length, eqb (length table) bytes) ∷ asks_packet h me p) refl
    (u.sound, (eq-eqb (length table) bytes u.long, (here, (there, (proxy, (retry, tt))))))

-- the refusal of a call in a hall of so many servers, which wants so many bytes of its table
module _ (h : Hall) (count : ℕ) (e : count ≡ pick (valid h) (servers h) 0) (wanted : ℕ) (table : List ℕ) (me : ℕ) (p : Packet) where
  pub no_hall : count ≡ 0 → 1 ≡ refusal (asks_hall h ∷ (bad_length, eqb (length table) wanted) ∷ asks_packet h me p)
  no_hall z = sym (first_refuses (asks_hall h) _ refl (no_servers h count e z))

  pub in_hall_lem : (count ≡ 0 → ⊥) → (bytes : ℕ) → bytes ≡ wanted → (r : ℕ) → r ≡ refusal ((bad_length, eqb (length table) bytes) ∷ asks_below count me p)
      → r ≡ refusal (asks_hall h ∷ (bad_length, eqb (length table) wanted) ∷ asks_packet h me p)
  in_hall_lem ne bytes b r q =
      let v = some_servers h count e ne in
      q ∙ (rw (b, valid_servers h count e v)) ∙ sym (first_passes (asks_hall h) _ refl v)

-- what a step answers behind its refusals
module _ (h : Hall) (me : ℕ) (p : Packet) (table : List ℕ) (r : ℕ) (e : r ≡ refusal (asks_hall h ∷ asks_lent h table ∷ asks_packet h me p)) where
  pub step_refused : (r ≡ 0 → ⊥) → (o : StepAnswer) → o ≡ refused_step r → o ≡ step_of h me p table
  step_refused ne o q = rw (← e, ne_eqb r 0 ne) q

  pub step_answered : r ≡ 0 → (o : StepAnswer) → o ≡ step h (lent_counted h me table) me p → o ≡ step_of h me p table
  step_answered z o q = rw (← e, z) q

  pub step_sound : r ≡ 0 → Here h false table me × Sound h p
  step_sound z =
      let u = unrefused h (step_length h) table me p (sym e ∙ z) in
      (record { sound = u.sound; long = u.long; fits = u.fits }, u.packet)

-- what a journey answers behind its refusals
module _ (h : Hall) (me : ℕ) (p : Packet) (table : List ℕ) (r : ℕ) (e : r ≡ refusal (asks_hall h ∷ asks_table h table ∷ asks_packet h me p)) where
  pub journey_refused : (r ≡ 0 → ⊥) → (j : JourneyAnswer) → j ≡ refused_journey r → j ≡ journey_of h me p table
  journey_refused ne j q = rw (← e, ne_eqb r 0 ne) q

  pub journey_answered : r ≡ 0 → (j : JourneyAnswer) → j ≡ journey_from (trip h (counted h 0 table) me p) → j ≡ journey_of h me p table
  journey_answered z j q = rw (← e, z) q

  pub journey_sound : r ≡ 0 → Departing h table me p
  journey_sound z =
      let u = unrefused h (table_length h) table me p (sym e ∙ z) in
      record { sound = u.sound; long = u.long; fits = u.fits; packet = u.packet }

-- so a journey of which nothing is refused is answered
pub journey_there : (h : Hall) (table : List ℕ) (me : ℕ) (p : Packet) → Unrefused h (table_length h) table me p
    → journey_of h me p table ≡ journey_from (trip h (counted h 0 table) me p)
journey_there h table me p u =
    sym (journey_answered h me p table 0 (sym (nothing_refused h (table_length h) table me p u)) refl (journey_from (trip h (counted h 0 table) me p)) refl)
