-- The step and the reroute as the code takes them: one law for each return of either, and what each hands on to the other.
use mathlib.Core.Path.{◌≡◌, refl, sym, ◌∙◌, ap}
use mathlib.Core.Bool.{Bool, true, false, not}
use mathlib.Core.List.{List}
use Prim.Native.Nat.{ℕ, zero, suc, ◌+◌, ◌-◌, ◌%◌, ◌≤◌, ◌<◌}
use native.Mathlib.Nat.{div-add-mod'}
use native.Mathlib.Numerals.{sub-one}
use native.Mathlib.Omega.{arith}
use lib.Dec.{eqb, ltb}
use borrow.Author.Tests.{eqb-false, eq-eqb, ne_eqb, not-true}
use Rattle.std.proofs.Common.{Option, Some, None}
use Rattle.combine.specs.Tests.{pick, both}
use Rattle.combine.proofs.Tests.{cases, never, both_left, both_right}
use Rattle.hall.specs.declared.Hall.{Hall}
use Rattle.hall.specs.Cells.{cell, same, neighbour}
use Rattle.hall.specs.Halls.{valid, top, servers, largest}
use Rattle.hall.proofs.Growth.{Valid, valid_known, uid_fits}
use Rattle.std.proofs.Common.{Result, Ok, IsOk}
use Rattle.hall.specs.declared.refusals.Refusal.{Refusal}
use Rattle.cells.specs.Answers.{neighbour_stated}
use Rattle.cells.proofs.Stated.{neighbour_known, neighbour_is}
use Rattle.cells.specs.Answers.{neighbour_of}
use Rattle.route.specs.declared.Crossing.{Crossing}
use Rattle.route.specs.Answers.{link_of, first_link}
use Rattle.local.specs.Local.{none, cell_size, place_of, first_of}
use Rattle.local.proofs.Uids.{uid_within}
use Rattle.forward.specs.declared.Packet.{Packet}
use Rattle.forward.specs.Packets.{StepAnswer}
use Rattle.forward.specs.declared.Way.{Way}
use Rattle.forward.specs.declared.Way.TheVariants.{To, Closed, Unreached}
use Rattle.forward.specs.declared.Outlook.{Outlook}
use Rattle.forward.specs.declared.Outlook.TheVariants.{Next, NoRoute, Blocked}
use Rattle.forward.specs.declared.Candidate.{Candidate}
use Rattle.forward.specs.Packets.{drop_ttl, drop_route, drop_retry, drop_proxy, delivered, cleared, tidied, proxied, retried, is_arrived, goal, sent, ended, one_more}
use Rattle.forward.specs.Seen.{Seen}
use Rattle.forward.specs.Proxies.{is_candidate, candidate, choice}
use Rattle.forward.specs.Steps.{Reroute, reachable, across, from4, first_level, rerouted, set_proxy, reroute_on, step_from, step_on}
use Rattle.forward.specs.Inside.{Here, Ahead, Sound, Standing, Stopped, Placed, cleared_if, way_to, way_over, outlook_by, outlook_of, turn_by, turn_of}
use Rattle.forward.proofs.Passes.{step_passes}
use Rattle.forward.proofs.Steps.{last_pass}
use Rattle.forward.proofs.Trips.{tidied_dst, tidied_ttl, tidied_retry, tidied_fits}
use Rattle.forward.proofs.Chosen.{choice_at}
use Rattle.forward.proofs.Links as ahead
use Rattle.forward.proofs.Hops.{Suits, proxy_in_hall, proxy_away}

-- a packet that tries again is told whole
again_one : {p r : Packet} → Some p ≡ Some r → r ≡ p
again_one {p} {r} e = cc

-- what a reroute makes of a packet has its retry
again_retry : (h : Hall) (me : ℕ) (p : Packet) (found : Option Candidate) (r : Packet) → turn_by h me p found ≡ Some r → r.retry ≡ p.retry
again_retry h me p None r e = absurd (let w : ◌≡◌ {A = ℕ} 0 1 = cc in omega arith)
again_retry h me p (Some c) r e = ap (λ (x : Packet). x.retry) (again_one e)

pub turn_retry : (h : Hall) (s : Seen) (me : ℕ) (link : Option Crossing) (p : Packet) (arrived : Bool) (r : Packet)
    → turn_of h s me link p arrived ≡ Some r → r.retry ≡ p.retry
unfolding turn_of
turn_retry h s me None p arrived r e = ap (λ (x : Packet). x.retry) (again_one e)
turn_retry h s me (Some link) p arrived r e = again_retry h me p (choice h s (place_of h me) (link.level + pick (both arrived (ltb link.level h.k)) 1 0)) r e

module _ (h : Hall) (s : Seen) (me : ℕ) (came : Packet) where
  -- 4 to 10 by what lies before the packet
  abbrev on_outlook : Reroute → Packet → Bool → Outlook → StepAnswer
  on_outlook reroute p arrived (Next u) = sent u p
  on_outlook reroute p arrived NoRoute = ended drop_route came
  on_outlook reroute p arrived (Blocked link) = reroute link p arrived

  across_outlook : (reroute : Reroute) (p : Packet) (arrived : Bool) (link : Option Crossing)
      → across h s me came reroute p arrived link
      ≡ on_outlook reroute p arrived (outlook_by h me came.dst link (way_over h s me (goal p) link))
  unfolding way_over way_to reachable
  across_outlook reroute p arrived None =
      cases (eqb (s.distance (place_of h (goal p)) (place_of h me)) none)
      (λ e. cases (same h.n h.b me came.dst) (λ n. rw (e, n)) (λ n. rw (e, n)))
      (λ e. rw e)
  across_outlook reroute p arrived (Some link) =
      cases (s.usable link.level (place_of h link.near))
      (λ u. cases (eqb me link.near)
      (λ q. rw (u, q))
      (λ q. cases (eqb (s.distance (place_of h link.near) (place_of h me)) none)
      (λ e. cases (same h.n h.b me came.dst) (λ n. rw (u, q, e, n)) (λ n. rw (u, q, e, n)))
      (λ e. rw (u, q, e))))
      (λ u. rw u)

  module _ (p : Packet) (arrived : Bool) (o : Outlook) (is : o ≡ outlook_of h s me came.dst (goal p)) where
    by_outlook : step_from h s me came p arrived ≡ on_outlook (reroute_on h s me came p.retry) p arrived o
    unfolding step_from outlook_of
    by_outlook = across_outlook (reroute_on h s me came p.retry) p arrived (first_link h me (goal p)) ∙ rw is

    pub step_goes : (u : ℕ) (z : StepAnswer) → o ≡ Next u → z ≡ sent u p → z ≡ step_from h s me came p arrived
    step_goes u z e q = q ∙ sym (by_outlook ∙ rw e)

    pub step_drops : (z : StepAnswer) → o ≡ NoRoute → z ≡ ended drop_route came → z ≡ step_from h s me came p arrived
    step_drops z e q = q ∙ sym (by_outlook ∙ rw e)

    pub step_blocked : (link : Option Crossing) (z : StepAnswer) → o ≡ Blocked link → z ≡ reroute_on h s me came p.retry link p arrived
        → z ≡ step_from h s me came p arrived
    step_blocked link z e q = q ∙ sym (by_outlook ∙ rw e)

  pub reroute_last : (n : ℕ) (link : Option Crossing) (p : Packet) (arrived : Bool) → n ≤ 1 → reroute_on h s me came n link p arrived ≡ ended drop_retry came
  unfolding reroute_on
  reroute_last zero link p arrived l = refl
  reroute_last (suc zero) link p arrived l = refl
  reroute_last (suc (suc f)) link p arrived l = absurd (omega arith)

  reroute_more : (n : ℕ) (link : Option Crossing) (p : Packet) (arrived : Bool) → 1 < n
      → reroute_on h s me came n link p arrived ≡ rerouted h s me came (reroute_on h s me came (n - 1)) link (retried (n - 1) p) arrived
  unfolding reroute_on
  reroute_more zero link p arrived l = absurd (omega arith)
  reroute_more (suc zero) link p arrived l = absurd (omega arith)
  reroute_more (suc (suc f)) link p arrived l = rw (sub-one (suc (suc f)))

  -- the reroute by what it makes of the packet
  abbrev on_turn : Reroute → Option Packet → StepAnswer
  on_turn reroute None = ended drop_proxy came
  on_turn reroute (Some r) = one_more (from4 h s me came reroute r false)

  set_turn : (reroute : Reroute) (p : Packet) (found : Option Candidate) → set_proxy h s me came reroute p found ≡ on_turn reroute (turn_by h me p found)
  set_turn reroute p None = refl
  set_turn reroute p (Some c) = refl

  rerouted_turn : (reroute : Reroute) (link : Option Crossing) (p : Packet) (arrived : Bool)
      → rerouted h s me came reroute link p arrived ≡ on_turn reroute (turn_of h s me link p arrived)
  unfolding turn_of first_level
  rerouted_turn reroute None p arrived = refl
  rerouted_turn reroute (Some link) p arrived = set_turn reroute p (choice h s (place_of h me) (first_level h s me came link.level arrived))

  module _ (p : Packet) (arrived : Bool) (many : 1 < p.retry) (q : Packet) (low : q ≡ retried (p.retry - 1) p)
      (link : Option Crossing) (t : Option Packet) (is : t ≡ turn_of h s me link q arrived) where
    by_turn : reroute_on h s me came p.retry link p arrived ≡ on_turn (reroute_on h s me came (p.retry - 1)) t
    by_turn =
        reroute_more p.retry link p arrived many
        ∙ rerouted_turn (reroute_on h s me came (p.retry - 1)) link (retried (p.retry - 1) p) arrived ∙ rw (is, low)

    pub reroute_misses : (o : StepAnswer) → t ≡ None → o ≡ ended drop_proxy came → o ≡ reroute_on h s me came p.retry link p arrived
    reroute_misses o e k = k ∙ sym (by_turn ∙ rw e)

    pub reroute_again : (r : Packet) → t ≡ Some r → (o z : StepAnswer) → o ≡ step_from h s me came r false → z ≡ one_more o
        → z ≡ reroute_on h s me came p.retry link p arrived
    unfolding step_from
    reroute_again r e o z g k =
        let n : p.retry - 1 ≡ r.retry = sym (turn_retry h s me link q arrived r (sym is ∙ e) ∙ ap (λ (x : Packet). x.retry) low) in
        k ∙ ap one_more g ∙ sym (by_turn ∙ rw (e, n))

  -- a step has no more reroutes than the retry
  pub step_few : (o : StepAnswer) (p : Packet) (arrived : Bool) → o ≡ step_from h s me came p arrived → o.reroutes ≤ p.retry
  step_few o p arrived e =
      let r = last_pass h s me came (λ (q : Packet). Unit {0}) (λ q f w k. tt) (λ q f n1 n2 m p1 i d w g k. tt) (step_passes h s me came p arrived) tt in
      rw e (omega (arith, r.lowered))

-- the first uid of a cell as the code works it out, and the neighbour that a new proxy is
pub first_of_lem : (h : Hall) (me count : ℕ) → count ≡ cell_size h → me - me % count ≡ first_of h me
unfolding first_of cell cell_size
first_of_lem h me count e = rw (← e) (omega (arith, div-add-mod' me count))

pub uid_fits_in : (h : Hall) (me place count : ℕ) → valid h ≡ true → me < servers h → place < cell_size h → count ≡ cell_size h → me - me % count + place < largest
uid_fits_in h me place count sound fits inside e =
    let v = valid_known h sound in
    rw (first_of_lem h me count e) (uid_fits h v (first_of h me + place) (uid_within h me place v fits inside))

-- the neighbour at a level above b of the server at a place: the call answers, and with the neighbour
module _ (h : Hall) (me place level : ℕ) (a : Placed h me place level) (u : ℕ) (e : u ≡ first_of h me + place) (r : Result ℕ Refusal) (q : neighbour_stated r ≡ neighbour_of h u level) where
  below : u < servers h
  below = rw e (uid_within h me place (valid_known h a.above.sound) a.fits a.above.inside)

  pub proxy_known : IsOk r
  proxy_known = neighbour_known h u level a.above.sound below (omega (arith, a.above.low)) a.above.high r q

  pub proxy_is : (x : ℕ) → r ≡ Ok x → x ≡ neighbour h.n (level - 1) (first_of h me + place)
  proxy_is x o = neighbour_is h u level a.above.sound below (omega (arith, a.above.low)) a.above.high r x q o ∙ ap (neighbour h.n (level - 1)) e

module _ (h : Hall) (me : ℕ) where
  -- what lies before a packet on the way to its goal
  pub looked : (p : Packet) (s : Seen) (dst to : ℕ) (o : Outlook) → to ≡ goal p → o ≡ outlook_of h s me dst to → o ≡ outlook_of h s me dst (goal p)
  looked p s dst to o e f = f ∙ ap (outlook_of h s me dst) e

  -- blocked, a packet is so at the first link towards its goal
  blocked_by : (dst : ℕ) (first : Option Crossing) (w : Way) (link : Option Crossing) → outlook_by h me dst first w ≡ Blocked link → link ≡ first
  blocked_by dst first (To u) link e = absurd (let w : ◌≡◌ {A = ℕ} 0 1 = cc in omega arith)
  blocked_by dst first Closed link e = cc
  blocked_by dst first Unreached link e =
      cases (same h.n h.b me dst)
      (λ n. let f : NoRoute ≡ Blocked link = rw n at e in absurd (let w : ◌≡◌ {A = ℕ} 0 1 = cc in omega arith))
      (λ n. let f : Blocked first ≡ Blocked link = rw n at e in cc)

module _ {whole : Bool} (h : Hall) (table : List ℕ) (me : ℕ) (p : Packet) where
  -- a packet that stands at a server has a way before it
  goal_fits : Standing h whole table me p → goal p < servers h
  unfolding goal
  goal_fits a = cases p.has_proxy (λ q. rw q (a.packet.proxy_fits q)) (λ q. rw q a.packet.dst_fits)

  pub stands_ahead : Standing h whole table me p → (to : ℕ) → to ≡ goal p → Ahead h whole table me to (first_link h me to)
  stands_ahead a to e = record { here = a.here; fits = rw e (goal_fits a); apart = rw e a.goal_apart; first = refl }

  pub stands_blocked : Standing h whole table me p → (s : Seen) (dst : ℕ) (o : Outlook) → o ≡ outlook_of h s me dst (goal p)
      → (link : Option Crossing) → o ≡ Blocked link → Stopped h whole table me link p
  unfolding outlook_of
  stands_blocked a s dst o is link e = record {
    standing = a;
    first = blocked_by h me dst (first_link h me (goal p)) (way_over h s me (goal p) (first_link h me (goal p))) link (sym is ∙ e);
  }

  module _ (link : Option Crossing) (a : Stopped h whole table me link p) where
    stand : Standing h whole table me p
    stand = a.standing

    v : Valid h
    v = valid_known h stand.here.sound

    ahead_of : {n1 n2 m : ℕ} → link ≡ link_of n1 n2 m → ahead.Ahead h me n1 n2 m
    ahead_of e = ahead.link_ahead h stand.here.sound me (goal p) stand.here.fits (goal_fits stand) (sym a.first ∙ e)

    pub level_low : (n1 n2 m : ℕ) → link ≡ link_of n1 n2 m → m ≤ top
    level_low n1 n2 m e = let k = ahead_of e in omega (arith, k.level, k.high, v.k_high)

    pub level_above : (n1 n2 m : ℕ) → link ≡ link_of n1 n2 m → (more level : ℕ) → level ≡ m + more → h.b < level
    level_above n1 n2 m e more level l = let k = ahead_of e in omega (arith, k.level, k.low)

    -- with one retry less it is stopped there too
    pub stopped_retried : (q : Packet) → q ≡ retried (p.retry - 1) p → Stopped h whole table me link q
    unfolding goal
    stopped_retried q low = rw low (record {
      standing = record {
        here = stand.here;
        packet = record {
          dst_fits = stand.packet.dst_fits;
          proxy_fits = stand.packet.proxy_fits;
          retry_fits = omega (arith, stand.packet.retry_fits);
        };
        dst_apart = stand.dst_apart;
        goal_apart = stand.goal_apart;
        alive = stand.alive;
      };
      first = a.first;
    })

    -- without its proxy it still stands there
    stands_cleared : (r : Packet) → r ≡ cleared p → Standing h whole table me r
    unfolding goal
    stands_cleared r e = rw e (record {
      here = stand.here;
      packet = record {
        dst_fits = stand.packet.dst_fits;
        proxy_fits = λ z. absurd (let w : ◌≡◌ {A = ℕ} 0 1 = cc in omega arith);
        retry_fits = stand.packet.retry_fits;
      };
      dst_apart = stand.dst_apart;
      goal_apart = stand.dst_apart;
      alive = stand.alive;
    })

    module _ (n1 n2 m : ℕ) (e : link ≡ link_of n1 n2 m) (arrived : Bool) (level : ℕ) (lv : level ≡ m + pick (both arrived (ltb m h.k)) 1 0)
        (s : Seen) (found : Option Candidate) (c : found ≡ choice h s (place_of h me) level) (p1 i : ℕ) (f : found ≡ candidate p1 i) where
      suits : Suits h s me p1 i
      unfolding is_candidate
      suits =
          let k = choice_at h s (place_of h me) level (sym c ∙ f) in
          let l = ahead_of e in
          let t : Bool = not (eqb (s.distance (place_of h me) p1) none) in
          let w : both t (s.usable i p1) ≡ true = k.nearest.candidate in
          record {
            below = k.nearest.below;
            low = omega (arith, k.from, l.level, l.low);
            high = k.to;
            at_distance = eqb-false (s.distance (place_of h me) p1) none (not-true (eqb (s.distance (place_of h me) p1) none) (both_left t (s.usable i p1) w));
            usable = both_right t (s.usable i p1) w;
          }

      pub placed : Placed h me p1 i
      placed = record {
        above = record { sound = stand.here.sound; inside = suits.below; low = suits.low; high = suits.high };
        fits = stand.here.fits;
      }

      -- and with a new one
      stands_proxied : (r : Packet) → r ≡ proxied (neighbour h.n (i - 1) (first_of h me + p1)) p → Standing h whole table me r
      unfolding goal
      stands_proxied r y =
          let b = stand.here.sound in
          let far : me ≡ p.dst → ⊥ = λ z. stand.dst_apart (sym z) in
          rw y (record {
            here = stand.here;
            packet = record {
              dst_fits = stand.packet.dst_fits;
              proxy_fits = λ z. proxy_in_hall h s me p b stand.here.fits far p1 i suits;
              retry_fits = stand.packet.retry_fits;
            };
            dst_apart = stand.dst_apart;
            goal_apart = λ z. proxy_away h s me p b stand.here.fits far p1 i suits (sym z);
            alive = stand.alive;
          })

    -- so what a reroute makes of it stands there
    module _ (s : Seen) (arrived : Bool) (r : Packet) where
      by_found : (n1 n2 m : ℕ) → link ≡ link_of n1 n2 m
          → (found : Option Candidate) → found ≡ choice h s (place_of h me) (m + pick (both arrived (ltb m h.k)) 1 0)
          → turn_by h me p found ≡ Some r → Standing h whole table me r
      by_found n1 n2 m e None c t = absurd (let w : ◌≡◌ {A = ℕ} 0 1 = cc in omega arith)
      by_found n1 n2 m e (Some x) c t =
          stands_proxied n1 n2 m e arrived (m + pick (both arrived (ltb m h.k)) 1 0) refl s (Some x) c x.place x.level refl r (again_one t)

      by_link : (l : Option Crossing) → link ≡ l → turn_of h s me l p arrived ≡ Some r → Standing h whole table me r
      unfolding turn_of
      by_link None e t = stands_cleared r (again_one t)
      by_link (Some l) e t = by_found l.near l.far l.level e (choice h s (place_of h me) (l.level + pick (both arrived (ltb l.level h.k)) 1 0)) refl t

      pub stands_again : turn_of h s me link p arrived ≡ Some r → Standing h whole table me r
      stands_again = by_link link refl

-- a packet that nothing refuses, tidied, and as it goes on
module _ (packet : Packet) where
  tidied_arrived : (me : ℕ) → is_arrived me (tidied packet) ≡ is_arrived me packet
  unfolding is_arrived
  tidied_arrived me = cases packet.has_proxy (λ e. rw e) (λ e. rw e)

  -- its goal on the way does not depend on the number of a proxy that it has not
  pub goal_cleared : (arrived : Bool) → goal (cleared_if arrived packet) ≡ goal (cleared_if arrived (tidied packet))
  unfolding goal
  goal_cleared true = sym (tidied_dst packet)
  goal_cleared false = cases packet.has_proxy (λ e. rw e) (λ e. rw e)

  -- the goal that is looked for, where the packet is cleared as it came
  pub goal_looked : (arrived : Bool) (p : Packet) (uid : ℕ) → p ≡ cleared_if arrived packet → uid ≡ goal p → uid ≡ goal (cleared_if arrived (tidied packet))
  goal_looked arrived p uid e f = f ∙ ap goal e ∙ goal_cleared arrived

module _ (h : Hall) (packet : Packet) where
  pub tidied_sound : Sound h packet → Sound h (tidied packet)
  tidied_sound a =
      let f = tidied_fits h packet (record { dst_in = a.dst_fits; proxy_in = a.proxy_fits }) in
      record { dst_fits = f.dst_in; proxy_fits = f.proxy_in; retry_fits = rw (tidied_retry packet) a.retry_fits }

  module _ {whole : Bool} (table : List ℕ) (me : ℕ) (a : Here h whole table me) (b : Sound h packet) (far : me ≡ packet.dst → ⊥) (live : packet.ttl ≡ 0 → ⊥) where
    away : (tidied packet).dst ≡ me → ⊥
    away z = far (sym z ∙ tidied_dst packet)

    stands_arrived : Standing h whole table me (cleared (tidied packet))
    unfolding goal
    stands_arrived =
        let c = tidied_sound b in
        record {
          here = a;
          packet = record { dst_fits = c.dst_fits; proxy_fits = λ z. absurd (let w : ◌≡◌ {A = ℕ} 0 1 = cc in omega arith); retry_fits = c.retry_fits };
          dst_apart = away;
          goal_apart = away;
          alive = omega (arith, tidied_ttl packet);
        }

    goal_far : is_arrived me packet ≡ false → goal (tidied packet) ≡ me → ⊥
    unfolding goal is_arrived
    goal_far e =
        cases packet.has_proxy
        (λ q. rw q (λ z. let w : eqb packet.proxy me ≡ false = rw q at e in never (eq-eqb packet.proxy me z) w))
        (λ q. rw q (λ z. far (sym z)))

    stands_set_out : is_arrived me packet ≡ false → Standing h whole table me (tidied packet)
    stands_set_out e =
        record { here = a; packet = tidied_sound b; dst_apart = away; goal_apart = goal_far e; alive = omega (arith, tidied_ttl packet) }

    pub stands_on_way : (arrived : Bool) → arrived ≡ is_arrived me packet → Standing h whole table me (cleared_if arrived (tidied packet))
    stands_on_way true e = stands_arrived
    stands_on_way false e = stands_set_out (sym e)

  -- 1 to 3
  module _ (s : Seen) (me : ℕ) (o : StepAnswer) where
    pub step_delivers : me ≡ packet.dst → o ≡ ended delivered (tidied packet) → o ≡ step_on h s me (tidied packet)
    unfolding step_on
    step_delivers e q = q ∙ rw (eq-eqb me (tidied packet).dst (e ∙ sym (tidied_dst packet)))

    module _ (far : me ≡ packet.dst → ⊥) where
      away_from : eqb me (tidied packet).dst ≡ false
      away_from = ne_eqb me (tidied packet).dst (λ z. far (z ∙ tidied_dst packet))

      pub step_dies : packet.ttl ≡ 0 → o ≡ ended drop_ttl (tidied packet) → o ≡ step_on h s me (tidied packet)
      unfolding step_on
      step_dies z q = q ∙ rw (away_from, eq-eqb (tidied packet).ttl 0 (tidied_ttl packet ∙ z))

      module _ (live : packet.ttl ≡ 0 → ⊥) where
        by_arrived : (arrived : Bool) → arrived ≡ is_arrived me (tidied packet)
            → step_from h s me (tidied packet) (cleared_if arrived (tidied packet)) arrived ≡ step_on h s me (tidied packet)
        unfolding step_on
        by_arrived true e = rw (away_from, ne_eqb (tidied packet).ttl 0 (λ z. live (sym (tidied_ttl packet) ∙ z)), ← e)
        by_arrived false e = rw (away_from, ne_eqb (tidied packet).ttl 0 (λ z. live (sym (tidied_ttl packet) ∙ z)), ← e)

        pub step_goes_on : (arrived : Bool) → arrived ≡ is_arrived me packet → o ≡ step_from h s me (tidied packet) (cleared_if arrived (tidied packet)) arrived
            → o ≡ step_on h s me (tidied packet)
        step_goes_on arrived e g = g ∙ by_arrived arrived (e ∙ sym (tidied_arrived packet me))
