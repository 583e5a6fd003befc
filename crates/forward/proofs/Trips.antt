-- A journey, step by step: each step that forwards lowers the TTL by one, so the journey's recursion on the TTL is its steps in turn, and
-- what holds of each step adds up.
use mathlib.Core.Path.{◌≡◌, refl, ◌∙◌, ap}
use mathlib.Core.List.{List, [], ◌∷◌}
use Prim.Native.Nat.{ℕ, zero, suc, ◌+◌, ◌-◌, ◌≤◌, ◌<◌}
use native.Mathlib.Omega.{arith}
use lib.Dec.{eqb}
use lib.ListN.{length}
use borrow.Author.Tests.{eqb-true, eqb-false}
use Rattle.combine.proofs.Tests.{never, pick_holds}
use Rattle.hall.specs.declared.Hall.{Hall}
use Rattle.route.specs.Routes.{hops}
use Rattle.route.specs.Walks.{Each}
use Rattle.forward.specs.declared.Packet.{Packet}
use Rattle.forward.specs.Packets.{forwarded, cleared, tidied}
use Rattle.forward.specs.Journeys.{Trip, step_at, ends_at, goes_on, trip_on, trip, sight}
use Rattle.forward.proofs.Passes.{pick_ways}
use Rattle.forward.specs.Travels.{Travels, last_step, one_step, Comes, at_source, next_step}
use Rattle.forward.proofs.Ways.{Fits, Ending, is_forwarded, is_delivered, is_drop_ttl, is_drop_route, is_drop_retry, is_drop_proxy, SentOn, Final, final_delivered, final_drop_ttl, final_drop_route, final_drop_retry, final_drop_proxy, LastStep}
use Rattle.forward.proofs.Steps.{step_ending, sent_on, reroutes_few}

-- a packet keeps its numbers where it is tidied
pub tidied_dst : (p : Packet) → (tidied p).dst ≡ p.dst
tidied_dst p = pick_holds (λ (q : Packet). q.dst ≡ p.dst) p.has_proxy p (cleared p) refl refl

pub tidied_ttl : (p : Packet) → (tidied p).ttl ≡ p.ttl
tidied_ttl p = pick_holds (λ (q : Packet). q.ttl ≡ p.ttl) p.has_proxy p (cleared p) refl refl

pub tidied_retry : (p : Packet) → (tidied p).retry ≡ p.retry
tidied_retry p = pick_holds (λ (q : Packet). q.retry ≡ p.retry) p.has_proxy p (cleared p) refl refl

-- and its servers
pub tidied_fits : (h : Hall) (p : Packet) → Fits h p → Fits h (tidied p)
tidied_fits h p f =
    pick_ways (Fits h) p.has_proxy p (cleared p) (λ e. f) (λ e. record { dst_in = f.dst_in; proxy_in = λ q. never q refl })

final : {e : ℕ} → Ending e → (e ≡ forwarded → ⊥) → Final e
final is_forwarded d = absurd (d refl)
final is_delivered d = final_delivered
final is_drop_ttl d = final_drop_ttl
final is_drop_route d = final_drop_route
final is_drop_retry d = final_drop_retry
final is_drop_proxy d = final_drop_proxy

module _ (h : Hall) (table : List ℕ) where
  -- what a step sends on, of the packet as it came
  pub step_sends : (me : ℕ) (p : Packet) → (step_at h table me p).ending ≡ forwarded → SentOn p (step_at h table me p)
  step_sends me p e =
      let r = sent_on h (sight h table me) me (tidied p) e in
      record {
        dst = r.dst ∙ tidied_dst p;
        ttl = r.ttl ∙ tidied_ttl p;
        retry = r.retry ∙ tidied_retry p;
        spared = r.spared;
      }

  trip_on_lem : (f : ℕ) (me : ℕ) (p : Packet) → p.ttl ≡ f → Travels h table me p (trip_on f (λ u q. step_at h table u q) me p)
  unfolding trip_on
  trip_on_lem zero me p e = last_step {me = me} {p = p} (λ (q : (step_at h table me p).ending ≡ forwarded). omega (arith, (step_sends me p q).ttl))
  trip_on_lem (suc f) me p e =
      pick_ways (Travels h table me p) (eqb (step_at h table me p).ending forwarded)
      (goes_on me (step_at h table me p) (trip_on f (λ u q. step_at h table u q) (step_at h table me p).next (step_at h table me p).packet))
      (ends_at me (step_at h table me p))
      (λ q.
      let w = eqb-true (step_at h table me p).ending forwarded q in
      let z = (step_sends me p w).ttl in
      one_step w (trip_on_lem f (step_at h table me p).next (step_at h table me p).packet (omega arith)))
      (λ q. last_step (eqb-false (step_at h table me p).ending forwarded q))

  -- each uid passed is the next of the step before, each packet the one that it sends on, and the journey's reroutes are the sum over its steps
  pub trip_travels : (me : ℕ) (p : Packet) → Travels h table me p (trip h table me p)
  trip_travels me p = trip_on_lem p.ttl me p refl

  -- links + 1 is the number of uids passed
  pub links_counted : {me : ℕ} {p : Packet} {j : Trip} → Travels h table me p j → j.links + 1 ≡ length j.uids
  links_counted (last_step d) = refl
  links_counted (one_step e t) = let i = links_counted t in omega arith

  -- the first uid is the source
  pub starts_there : {me : ℕ} {p : Packet} {j : Trip} → Travels h table me p j → (r : List ℕ) × (j.uids ≡ me ∷ r)
  starts_there (last_step d) = ([], refl)
  starts_there (one_step {rest = rest} e t) = (rest.uids, refl)

  -- no more links than the TTL
  pub links_within : {me : ℕ} {p : Packet} {j : Trip} → Travels h table me p j → j.links ≤ p.ttl
  links_within (last_step d) = omega arith
  links_within {me} {p} (one_step e t) = let i = links_within t in let z = (step_sends me p e).ttl in omega arith

  sum_few : (r a b c : ℕ) → r + a ≡ c → (0 < a → 0 < r) → b ≤ r - 1 → a + b ≤ c - 1
  sum_few zero zero b c e k l = omega arith
  sum_few zero (suc a) b c e k l = let z : 0 < 0 = k (omega arith) in absurd (omega arith)
  sum_few (suc r) a b c e k l = omega arith

  -- fewer reroutes than the retry, and none where it is 0
  pub reroutes_within : {me : ℕ} {p : Packet} {j : Trip} → Travels h table me p j → j.reroutes ≤ p.retry - 1
  reroutes_within {me} {p} (last_step d) = omega (arith, tidied_retry p, reroutes_few h (sight h table me) me (tidied p))
  reroutes_within {me} {p} (one_step {rest = rest} e t) =
      let z = step_sends me p e in
      sum_few (step_at h table me p).packet.retry (step_at h table me p).reroutes rest.reroutes p.retry z.retry z.spared (reroutes_within t)

  -- delivery or one of the four drops
  pub trip_ending : {me : ℕ} {p : Packet} {j : Trip} → Travels h table me p j → Final j.ending
  trip_ending {me} {p} (last_step d) = final (step_ending h (sight h table me) me (tidied p)) d
  trip_ending (one_step e t) = trip_ending t

  -- what comes to a server behind a step that forwards comes there from before it
  comes_before : {me : ℕ} {p : Packet} {at : ℕ} {came : Packet} {before : List ℕ} → (step_at h table me p).ending ≡ forwarded
      → Comes h table (step_at h table me p).next (step_at h table me p).packet at came before → Comes h table me p at came (me ∷ before)
  comes_before e at_source = next_step at_source e
  comes_before e (next_step c d) = next_step (comes_before e c) d

  pub trip_last : {me : ℕ} {p : Packet} {j : Trip} → Travels h table me p j → LastStep h table me p j
  trip_last {me} {p} (last_step d) = record {
    at = me;
    came = p;
    before = [];
    comes = at_source;
    is_last = refl;
    ends_it = refl;
    same_dst = refl;
    aged = omega arith;
    lowered = refl;
  }
  trip_last {me} {p} (one_step {rest = rest} e t) =
      let i = trip_last t in
      let z = step_sends me p e in
      record {
        at = i.at;
        came = i.came;
        before = me ∷ i.before;
        comes = comes_before e i.comes;
        is_last = ap (λ (r : List ℕ). me ∷ r) i.is_last;
        ends_it = i.ends_it;
        same_dst = i.same_dst ∙ z.dst;
        aged = omega (arith, i.aged, z.ttl);
        lowered = omega (arith, i.lowered, z.retry);
      }

  -- what holds of each step that forwards, of a packet that keeps it, holds of each two uids that follow each other
  module _ (I : ℕ → Packet → Type 0) (R : ℕ → ℕ → Type 0)
      (keeps : (me : ℕ) (p : Packet) → I me p → (step_at h table me p).ending ≡ forwarded → I (step_at h table me p).next (step_at h table me p).packet)
      (holds : (me : ℕ) (p : Packet) → I me p → (step_at h table me p).ending ≡ forwarded → R me (step_at h table me p).next) where
    hops_of : (me v : ℕ) (r : List ℕ) → hops (me ∷ (v ∷ r)) ≡ (me, v) ∷ hops (v ∷ r)
    unfolding hops
    hops_of me v r = refl

    hops_one : (me : ℕ) → hops (me ∷ []) ≡ []
    unfolding hops
    hops_one me = refl

    pub each_hop : {me : ℕ} {p : Packet} {j : Trip} → Travels h table me p j → I me p → Each (λ e. R e.0 e.1) (hops j.uids)
    each_hop {me} {p} (last_step d) k = rw (hops_one me) tt
    each_hop {me} {p} (one_step {rest = rest} e t) k =
        let s = starts_there t in
        let i = each_hop t (keeps me p k e) in
        rw (s.1, hops_of me (step_at h table me p).next s.0, ← s.1) (holds me p k e, i)
