-- A step and a journey read nothing of a table but where its code is 1: tables with code 1 at the same places give the same links, so the
-- same distances, next hops and ports, and a step sees no more.
use mathlib.Core.Path.{◌≡◌, ◌∙◌, ap, fun_ext}
use mathlib.Core.Bool.{Bool}
use mathlib.Core.List.{List}
use Prim.Native.Nat.{ℕ, zero, suc}
use lib.Dec.{eqb}
use borrow.Author.Tests.{eqb-true}
use lib.ListN.{length, get_or}
use Rattle.combine.specs.Tests.{pick}
use Rattle.combine.proofs.Tests.{cases}
use Rattle.hall.specs.declared.Hall.{Hall}
use Rattle.ports.specs.Codes.{cell_length, SameUps}
use Rattle.ports.proofs.Tables.{up_agrees}
use Rattle.ports.proofs.Links.{joined_agrees}
use Rattle.ports.proofs.Runs.{take_agrees}
use Rattle.search.specs.Rounds.{distances}
use Rattle.local.specs.Lowest.{lowest_from}
use Rattle.local.specs.Local.{none, cell_size, linked, distances_from, distance, nearer, hop}
use Rattle.ends.specs.Tables.{step_table, cell_part, far_place, far_in, lent_counted}
use Rattle.ends.proofs.Tables.{step_ups}
use Rattle.ends.proofs.Lent.{lent_ups}
use Rattle.forward.specs.declared.Packet.{Packet}
use Rattle.forward.specs.Packets.{StepAnswer}
use Rattle.forward.specs.Packets.{forwarded, tidied}
use Rattle.forward.specs.Seen.{Seen, usable, seen}
use Rattle.forward.specs.Steps.{step_on, step}
use Rattle.forward.specs.Journeys.{step_at, ends_at, goes_on, trip_on, trip}

-- two tables of which a step sees the same
pub record SameSeen (s z : Seen) : Type 0 where
  pub distance : (x y : ℕ) → s.distance x y ≡ z.distance x y
  pub hop : (x y : ℕ) → s.hop x y ≡ z.hop x y
  pub usable : (i place : ℕ) → s.usable i place ≡ z.usable i place

pub seen_same : (s z : Seen) → SameSeen s z → s ≡ z
seen_same s z e = λ i. record {
  distance = λ x y. e.distance x y i;
  hop = λ x y. e.hop x y i;
  usable = λ l place. e.usable l place i;
}

-- the step is a function of what is seen
pub step_same : (h : Hall) (s z : Seen) (me : ℕ) (p : Packet) → SameSeen s z → step_on h s me p ≡ step_on h z me p
step_same h s z me p e = ap (λ (w : Seen). step_on h w me p) (seen_same s z e)

module _ (h : Hall) (a b : List ℕ) (same : SameUps a b) where
  linked_agree : linked h a ≡ linked h b
  unfolding linked
  linked_agree = fun_ext (λ y. fun_ext (λ x. joined_agrees h a b same h.b y x))

  pub distances_same : (o : ℕ) → distances_from h a o ≡ distances_from h b o
  unfolding distances_from
  distances_same o = ap (λ (l : ℕ → ℕ → Bool). distances l (cell_size h) none o) linked_agree

  pub distance_same : (o v : ℕ) → distance h a o v ≡ distance h b o v
  unfolding distance
  distance_same o v = ap (λ (d : List ℕ). get_or d v 0) (distances_same o)

  pub hop_same : (x y : ℕ) → hop h a x y ≡ hop h b x y
  unfolding hop nearer distance
  hop_same x y =
      ap (λ (p : ℕ → Bool). lowest_from p (cell_size h) 0)
      (fun_ext (λ z. rw (distances_same y, ap (λ (l : ℕ → ℕ → Bool). l x z) linked_agree)))

  usable_same : (i place : ℕ) → usable h a i place ≡ usable h b i place
  unfolding usable far_in SameUps
  usable_same i place = rw (up_agrees h a b same place i, same (far_place h place i))

module _ (h : Hall) (a b : List ℕ) (same : SameUps a b) where
  near_same : SameUps (cell_part h a) (cell_part h b)
  unfolding cell_part
  near_same = take_agrees (cell_length h h.b) a b same

  pub seen_agree : SameSeen (seen h a) (seen h b)
  seen_agree = record {
    distance = distance_same h (cell_part h a) (cell_part h b) near_same;
    hop = hop_same h (cell_part h a) (cell_part h b) near_same;
    usable = usable_same h a b same;
  }

  pub step_agrees : (me : ℕ) (p : Packet) → step h a me p ≡ step h b me p
  step_agrees me p = step_same h (seen h a) (seen h b) me (tidied p) seen_agree

-- two steps that agree, wherever a packet that one of them forwards may come, make the same journey
module _ (f g : ℕ → Packet → StepAnswer) (I : ℕ → Packet → Type 0) (agree : (me : ℕ) (p : Packet) → I me p → f me p ≡ g me p)
    (keeps : (me : ℕ) (p : Packet) → I me p → (g me p).ending ≡ forwarded → I (g me p).next (g me p).packet) where
  pub trip_on_same : (ttl me : ℕ) (p : Packet) → I me p → trip_on ttl f me p ≡ trip_on ttl g me p
  unfolding trip_on
  trip_on_same zero me p i = ap (ends_at me) (agree me p i)
  trip_on_same (suc ttl) me p i =
      ap (λ (o : StepAnswer). pick (eqb o.ending forwarded) (goes_on me o (trip_on ttl f o.next o.packet)) (ends_at me o)) (agree me p i)
      ∙ cases (eqb (g me p).ending forwarded)
      (λ e. rw e (ap (goes_on me (g me p)) (trip_on_same ttl (g me p).next (g me p).packet (keeps me p i (eqb-true (g me p).ending forwarded e)))))
      (λ e. rw e)

-- tables that are lent with code 1 at the same places give the same step, as their codes count
pub lent_agrees : (h : Hall) (me : ℕ) (a b : List ℕ) (p : Packet) → length a ≡ length b → SameUps a b → step h (lent_counted h me a) me p ≡ step h (lent_counted h me b) me p
lent_agrees h me a b p e s = step_agrees h (lent_counted h me a) (lent_counted h me b) (lent_ups h me a b e s) me p

same_ups_step : (h : Hall) (a b : List ℕ) (me : ℕ) (p : Packet) → SameUps (step_table h a me) (step_table h b me) → step_at h a me p ≡ step_at h b me p
same_ups_step h a b me p same = step_agrees h (step_table h a me) (step_table h b me) same me p

pub trip_agrees : (h : Hall) (a b : List ℕ) → length a ≡ length b → SameUps a b → (me : ℕ) (p : Packet) → trip h a me p ≡ trip h b me p
trip_agrees h a b long same me p =
    trip_on_same (λ u q. step_at h a u q) (λ u q. step_at h b u q) (λ u q. Unit {0}) (λ u q i. same_ups_step h a b u q (step_ups h a b u long same)) (λ u q i e. tt)
    p.ttl me p tt
