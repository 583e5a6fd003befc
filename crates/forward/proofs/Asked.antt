-- What a step asks of the links above b: only those of its own cell, at levels from b + 1 to k. So two sights with the same distances and next
-- hops that agree on these links give the same step.
use mathlib.Core.Path.{◌≡◌, refl, ◌∙◌, ap}
use mathlib.Core.Bool.{Bool, true, false, not}
use Prim.Native.Nat.{ℕ, zero, suc, ◌+◌, ◌-◌, ◌≤◌, ◌<◌}
use native.Mathlib.Omega.{arith}
use lib.Dec.{eqb, ltb}
use borrow.Author.Tests.{lt-ltb, ltb-true}
use Rattle.std.proofs.Common.{Option, Some, None}
use Rattle.combine.specs.Tests.{pick, both}
use Rattle.combine.proofs.Tests.{cases}
use Rattle.hall.specs.declared.Hall.{Hall}
use Rattle.hall.specs.Cells.{same, neighbour}
use Rattle.hall.specs.Halls.{valid, servers}
use Rattle.hall.proofs.Growth.{valid_known}
use Rattle.route.specs.declared.Crossing.{Crossing}
use Rattle.route.specs.Answers.{first_link}
use Rattle.local.specs.Local.{none, cell_size, place_of, first_of}
use Rattle.local.proofs.Sizes.{place_fits}
use Rattle.forward.specs.declared.Packet.{Packet}
use Rattle.forward.specs.Packets.{StepAnswer}
use Rattle.forward.specs.declared.Candidate.{Candidate}
use Rattle.forward.specs.Packets.{drop_route, cleared, proxied, retried, goal, sent, ended, one_more}
use Rattle.forward.specs.Seen.{Seen}
use Rattle.forward.specs.Proxies.{is_candidate, nearer_of, best_below, or_else, first_found, choice}
use Rattle.forward.specs.Steps.{Reroute, reachable, across, from4, set_proxy, first_level, reroute_on, step_from, step_on}
use Rattle.forward.proofs.Links.{link_ahead}

-- two searches that find the same at each of their levels
found_same : (f g : ℕ → Option Candidate) (count i : ℕ) → ((l : ℕ) → i ≤ l → l < i + count → f l ≡ g l) → first_found f count i ≡ first_found g count i
unfolding first_found
found_same f g zero i e = refl
found_same f g (suc count) i e =
    ap (λ (c : Option Candidate). or_else c (first_found f count (suc i))) (e i (omega arith) (omega arith))
    ∙ ap (or_else (g i)) (found_same f g count (suc i) (λ l a b. e l (omega arith) (omega arith)))

module _ (h : Hall) (is_valid : valid h ≡ true) (me : ℕ) (here : me < servers h) (distance hop : ℕ → ℕ → ℕ) (before after : ℕ → ℕ → Bool)
    (agree : (i place : ℕ) → place < cell_size h → h.b < i → i ≤ h.k → before i place ≡ after i place) where
  abbrev s : Seen
  s = record { distance = distance; hop = hop; usable = before }

  abbrev z : Seen
  z = record { distance = distance; hop = hop; usable = after }

  candidate_same : (o i p : ℕ) → p < cell_size h → h.b < i → i ≤ h.k → is_candidate s o i p ≡ is_candidate z o i p
  unfolding is_candidate
  candidate_same o i p l low high = ap (both (not (eqb (distance o p) none))) (agree i p l low high)

  nearer_same : (o i : ℕ) (c : Option Candidate) (p : ℕ) → nearer_of s o i c p ≡ nearer_of z o i c p
  nearer_same o i None p = refl
  nearer_same o i (Some c) p = refl

  best_same : (o i count : ℕ) → count ≤ cell_size h → h.b < i → i ≤ h.k → best_below s o i count ≡ best_below z o i count
  unfolding best_below
  best_same o i zero l low high = refl
  best_same o i (suc p) l low high =
      let e = best_same o i p (omega arith) low high in
      rw (candidate_same o i p (omega arith) low high, e, nearer_same o i (best_below z o i p) p)

  choice_same : (o m : ℕ) → h.b < m → choice h s o m ≡ choice h z o m
  unfolding choice
  choice_same o m low =
      found_same (λ i. best_below s o i (cell_size h)) (λ i. best_below z o i (cell_size h)) (suc h.k - m) m
      (λ l a b. best_same o l (cell_size h) (omega arith) (omega arith) (omega arith))

  -- a first link, where there is one, is of a level from b + 1 to k
  Known : Option Crossing → Type 0
  Known None = Unit {0}
  Known (Some link) = (h.b < link.level) × (link.level ≤ h.k)

  -- towards what is no server of the hall there is no link
  none_outside : (to : ℕ) → ltb to (servers h) ≡ false → first_link h me to ≡ None
  unfolding first_link
  none_outside to e = rw (is_valid, lt-ltb me (servers h) here, e)

  first_known : (to : ℕ) → Known (first_link h me to)
  unfolding Known
  first_known to = cases (ltb to (servers h))
      (λ e. go (ltb-true to (servers h) e) (first_link h me to) refl)
      (λ e. rw (none_outside to e) tt)
    where
      go : to < servers h → (l : Option Crossing) → first_link h me to ≡ l → Known l
      go there None e = tt
      go there (Some link) e = let a = link_ahead h is_valid me to here there e in (omega (arith, a.level, a.low), omega (arith, a.level, a.high))

  module _ (came : Packet) where
    -- reroutes that agree on such links
    Same : Reroute → Reroute → Type 0
    Same r q = (link : Option Crossing) (p : Packet) (arrived : Bool) → Known link → r link p arrived ≡ q link p arrived

    module _ (r q : Reroute) (e : Same r q) where
      across_same : (p : Packet) (arrived : Bool) (link : Option Crossing) → Known link → across h s me came r p arrived link ≡ across h z me came q p arrived link
      unfolding Same Known reachable
      across_same p arrived None k =
          ap (λ (o : StepAnswer). pick (not (eqb (distance (place_of h (goal p)) (place_of h me)) none)) (sent (first_of h me + hop (place_of h me) (place_of h (goal p))) p)
          (pick (same h.n h.b me came.dst) (ended drop_route came) o)) (e None p arrived tt)
      across_same p arrived (Some link) k =
          let way : StepAnswer → StepAnswer = λ (o : StepAnswer). pick (not (eqb (distance (place_of h link.near) (place_of h me)) none)) (sent (first_of h me + hop (place_of h me) (place_of h link.near)) p)
          (pick (same h.n h.b me came.dst) (ended drop_route came) o) in
          ap (λ (b : Bool). pick b (pick (eqb me link.near) (sent link.far p) (way (r (Some link) p arrived))) (r (Some link) p arrived))
          (agree link.level (place_of h link.near) (place_fits h (valid_known h is_valid) link.near) k.0 k.1)
          ∙ ap (λ (o : StepAnswer). pick (after link.level (place_of h link.near)) (pick (eqb me link.near) (sent link.far p) (way o)) o) (e (Some link) p arrived k)

      from_same : (p : Packet) (arrived : Bool) → from4 h s me came r p arrived ≡ from4 h z me came q p arrived
      from_same p arrived = across_same p arrived (first_link h me (goal p)) (first_known (goal p))

      set_same : (p : Packet) (c : Option Candidate) → set_proxy h s me came r p c ≡ set_proxy h z me came q p c
      set_same p None = refl
      set_same p (Some c) = ap one_more (from_same (proxied (neighbour h.n (c.level - 1) (first_of h me + c.place)) p) false)

    reroute_same : (n : ℕ) → Same (reroute_on h s me came n) (reroute_on h z me came n)
    unfolding Same reroute_on first_level Known
    reroute_same zero link p arrived k = refl
    reroute_same (suc zero) link p arrived k = refl
    reroute_same (suc (suc f)) None p arrived k =
        ap one_more (from_same (reroute_on h s me came (suc f)) (reroute_on h z me came (suc f)) (reroute_same (suc f)) (cleared (retried (suc f) p)) false)
    reroute_same (suc (suc f)) (Some link) p arrived k =
        ap (set_proxy h s me came (reroute_on h s me came (suc f)) (retried (suc f) p)) (choice_same (place_of h me) (first_level h s me came link.level arrived) (omega (arith, k.0)))
        ∙ set_same (reroute_on h s me came (suc f)) (reroute_on h z me came (suc f)) (reroute_same (suc f)) (retried (suc f) p)
        (choice h z (place_of h me) (first_level h s me came link.level arrived))

    from_retry : (p : Packet) (arrived : Bool) → step_from h s me came p arrived ≡ step_from h z me came p arrived
    unfolding step_from
    from_retry p arrived = from_same (reroute_on h s me came p.retry) (reroute_on h z me came p.retry) (reroute_same p.retry) p arrived

  pub asked_same : (p : Packet) → step_on h s me p ≡ step_on h z me p
  unfolding step_on
  asked_same p = rw (from_retry p (cleared p) true, from_retry p p false)
