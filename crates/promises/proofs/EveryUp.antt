-- With every port up no pass of a step fails, so each step hops as the route's links above b say, without a reroute; such hops leave one
-- less to go each, and at first fewer than 2 ^ (l + 1) are left.
use mathlib.Core.Path.{◌≡◌, refl, sym, ◌∙◌, ap, subst}
use mathlib.Core.Bool.{Bool, true, false, not}
use mathlib.Core.List.{List, [], ◌∷◌, ◌++◌}
use mathlib.Core.Logic.{◌⊎◌, inl, inr, ⊎_elim}
use Prim.Native.Nat.{ℕ, zero, suc, ◌+◌, ◌-◌, ◌^◌, ◌≤◌, ◌<◌}
use native.Mathlib.Numerals.{add-one}
use native.Mathlib.Omega.{arith}
use lib.Dec.{eqb, leb}
use lib.ListN.{length, replicate, length-append}
use borrow.Author.Tests.{eqb-true, eqb-false, ne_eqb, leb-true, leb-false}
use Rattle.std.proofs.Common.{Option}
use Rattle.combine.specs.Tests.{pick}
use Rattle.combine.proofs.Tests.{cases, never}
use Rattle.hall.specs.declared.Hall.{Hall}
use Rattle.hall.specs.Cells.{t, same, lowest}
use Rattle.hall.specs.Halls.{valid, servers}
use Rattle.hall.proofs.Cells.{same_mono}
use Rattle.hall.proofs.Growth.{Valid, valid_known}
use Rattle.hall.proofs.Links.{hall_same}
use Rattle.ports.specs.Codes.{cell_length, table_length, EveryUp}
use Rattle.ports.proofs.Parts as parts
use Rattle.route.specs.declared.Crossing.{Crossing}
use Rattle.route.specs.Routes.{hops, of_level, select, above, route}
use Rattle.route.specs.Delivery.{hop, passed, left, Local}
use Rattle.route.proofs.Counts.{not_above}
use Rattle.route.proofs.Lists.{select_none}
use Rattle.route.proofs.Lowest.{lowest_holds}
use Rattle.route.proofs.Above.{above_none, above_hops, above_of_level}
use Rattle.route.proofs.Recursion.{above_lowest, links_none_above}
use Rattle.route.proofs.Delivery as delivery
use Rattle.local.specs.Local.{none, cell_size, place_of, linked, between, towards}
use Rattle.local.proofs.Sizes.{place_fits}
use Rattle.local.proofs.Short.{AllUp, all_up_reached, all_up_between, all_up_local, all_up_table, all_up_part, all_up_agree, towards_agree}
use Rattle.ends.specs.Tables.{step_table, cell_part}
use Rattle.ends.proofs.Tables.{near_part}
use Rattle.counted.proofs.Counted.{counted_full}
use Rattle.forward.specs.declared.Packet.{Packet}
use Rattle.forward.specs.Packets.{StepAnswer, forwarded, delivered, cleared, tidied, is_arrived, goal, aged}
use Rattle.forward.specs.Seen.{usable, seen}
use Rattle.forward.specs.Steps.{reachable, step_on}
use Rattle.forward.specs.Journeys.{Trip, step_at, ends_at, trip, sight}
use Rattle.forward.specs.Endings.{Target, the_goal, the_near, Fails, unusable, out_of_reach}
use Rattle.forward.specs.Travels.{Last, Travels, last_step, one_step}
use Rattle.forward.proofs.Ways.{nears, crosses, no_route_lem, spent, no_proxy, Passes, ends, clears, sets, Steps, delivers, dies, arrives, sets_out, Fits}
use Rattle.forward.proofs.Steps.{step_ways, there_delivered, there_drop_ttl}
use Rattle.forward.proofs.Trips.{step_sends, trip_travels, links_counted}
use Rattle.forward.proofs.Links.{n_pos, link_above, none_above, link_ahead}
use Rattle.forward.proofs.Hops.{step_forwards}
use Rattle.forward.proofs.Sight.{seen_links, usable_every}
use Rattle.promises.specs.Journeys.{Sound}
use Rattle.promises.specs.EveryUp.{common, links_of, Delivered, AllDelivered}
use Rattle.promises.proofs.Passing.{last_one, last_more, select_through, leaves, level_leaves, hop_none, hop_across, hop_near, passed_out, passed_on, passed_starts, passed_above}

-- the table of a DCell(b) with every port up
ones : Hall → List ℕ
ones h = replicate (cell_length h h.b) 1

-- a packet without a proxy is tidied to one that carries no number for it
tidied_none : (p : Packet) → p.has_proxy ≡ false → tidied p ≡ cleared p
tidied_none p e = ap (λ (b : Bool). pick b p (cleared p)) e

-- the next hop inside a cell, and what is left to go there, with every port up
abbrev onward : Hall → ℕ → ℕ → ℕ
onward h = towards h (ones h)

abbrev remaining : Hall → ℕ → ℕ → ℕ
remaining h = between h (ones h)

-- the hop of a packet, by the route's links above b, and the servers that it passes
abbrev onwards : Hall → ℕ → ℕ → ℕ
onwards h x y = hop (onward h) h.n h.b h.k x y

abbrev passes : Hall → ℕ → ℕ → ℕ → List ℕ
passes h f x y = passed (onward h) h.n h.b h.k f x y

-- a step at x of a packet without a proxy: it forwards by that hop, without a reroute
record Onward (h : Hall) (x : ℕ) (p : Packet) (o : StepAnswer) : Type 0 where
  goes : o.ending ≡ forwarded
  hops_so : o.next ≡ onwards h x p.dst
  not_rerouted : o.reroutes ≡ 0
  as_before : o.packet ≡ aged (cleared p)

module _ (h : Hall) (is_valid : valid h ≡ true) where
  known : Valid h
  known = valid_known h is_valid

  all_local : Local h.n h.b (onward h) (remaining h)
  unfolding ones
  all_local = all_up_local h (ones h) known (all_up_table h)

  module _ (lent : List ℕ) (all : AllUp h (cell_part h lent))
      (every : (i place : ℕ) → place < cell_size h → h.b < i → i ≤ h.k → usable h lent i place ≡ true) where
    abbrev cell : List ℕ
    cell = cell_part h lent

    hop_onward : (x target : ℕ) → towards h cell x target ≡ onward h x target
    unfolding ones
    hop_onward x target = towards_agree h cell (ones h) known (all_up_agree h cell (ones h) all (all_up_table h)) x target

    -- one step towards y, of a packet without a proxy
    module _ (x : ℕ) (p : Packet) (here : x < servers h) (there : p.dst < servers h) where
      in_reach : (target : ℕ) → reachable h (seen h lent) x (cleared p) target ≡ true
      unfolding reachable
      in_reach target =
          ap not (ne_eqb _ none (all_up_reached h cell known all (place_of h target) (place_of h x) (place_fits h known target) (place_fits h known x)))

      no_failure : {link : Option Crossing} → Fails h (seen h lent) x (cleared p) (cleared p) link → ⊥
      unfolding goal
      no_failure (unusable {n1 = n1} {m = m} e u) =
          let a = link_ahead h is_valid x p.dst here there e in
          never (every m (place_of h n1) (place_fits h known n1) (omega (arith, a.level, a.low)) (omega (arith, a.level, a.high))) u
      no_failure (out_of_reach {target = target} t r w) = never (in_reach target) r

      nears_so : {link : Option Crossing} {target : ℕ} → Target h (seen h lent) x (cleared p) (cleared p) link target
          → towards h cell x target ≡ onwards h x p.dst
      unfolding goal
      nears_so (the_goal e) =
          hop_onward x p.dst ∙ sym (hop_none (onward h) h.n h.b h.k x p.dst (none_above h is_valid x p.dst here there e))
      nears_so (the_near {n1 = n1} {n2 = n2} e u d) =
          let a = link_above h is_valid x p.dst here there e in
          hop_onward x n1 ∙ sym (hop_near (onward h) h.n h.b h.k x p.dst n1 n2 a.0 a.1 d)

      passes_onward : {o : StepAnswer} → Passes h (seen h lent) x (cleared p) (cleared p) false o → Onward h x p o
      unfolding goal towards
      passes_onward (ends (nears t r)) = record { goes = refl; hops_so = nears_so t; not_rerouted = refl; as_before = refl }
      passes_onward (ends (crosses {n1 = n1} {n2 = n2} e u q)) =
          let a = link_above h is_valid x p.dst here there e in
          record { goes = refl; hops_so = sym (hop_across (onward h) h.n h.b h.k x p.dst n1 n2 a.0 a.1 q); not_rerouted = refl; as_before = refl }
      passes_onward (ends (no_route_lem {target = target} t r w)) = never (in_reach target) r
      passes_onward (ends (spent w l)) = absurd (no_failure w)
      passes_onward (ends (no_proxy w l e)) = absurd (no_failure w)
      passes_onward (clears w e t) = absurd (no_failure w)
      passes_onward (sets w e g t) = absurd (no_failure w)

      step_onward : (x ≡ p.dst → ⊥) → 0 < p.ttl → Onward h x p (step_on h (seen h lent) x (cleared p))
      unfolding is_arrived
      step_onward ne l = go (step_ways h (seen h lent) x (cleared p))
        where
          go : {o : StepAnswer} → Steps h (seen h lent) x (cleared p) o → Onward h x p o
          go (delivers e) = absurd (ne e)
          go (dies d z) = absurd (omega arith)
          go (arrives d k a w) = never a refl
          go (sets_out d k a w) = passes_onward w

-- the journey over a hall table whose every port is up
module _ (h : Hall) (table : List ℕ) (is_valid : valid h ≡ true) (long : length table ≡ table_length h) (all : EveryUp table) where
  known_there : (x : ℕ) → x < servers h → parts.Sound h table x
  known_there x l = record { is_valid = is_valid; long = long; below = l }

  part_up : (x : ℕ) → x < servers h → AllUp h (cell_part h (step_table h table x))
  part_up x l = rw (near_part h table x (known_there x l)) (all_up_part h table x all (known_there x l))

  cleared_step : (x : ℕ) (p : Packet) → p.has_proxy ≡ false → step_at h table x p ≡ step_on h (sight h table x) x (cleared p)
  cleared_step x p e = ap (step_on h (sight h table x) x) (tidied_none p e)

  step_goes : (x : ℕ) (p : Packet) → p.has_proxy ≡ false → x < servers h → p.dst < servers h → (x ≡ p.dst → ⊥) → 0 < p.ttl → Onward h x p (step_at h table x p)
  step_goes x p e here there ne l = rw (cleared_step x p e) (step_onward h is_valid (step_table h table x) (part_up x here)
      (λ i place k low high. usable_every h table x (known_there x here) i place k low high all) x p here there ne l)

  -- at dst the packet is delivered, and where its TTL is 0 it goes no further
  step_there : (x : ℕ) (p : Packet) → p.has_proxy ≡ false → x ≡ p.dst → ((step_at h table x p).ending ≡ delivered) × ((step_at h table x p).reroutes ≡ 0)
  step_there x p e q =
      let w = cleared_step x p e ∙ there_delivered h (sight h table x) x (cleared p) q in
      (ap (λ (o : StepAnswer). o.ending) w, ap (λ (o : StepAnswer). o.reroutes) w)

  step_out : (x : ℕ) (p : Packet) → p.has_proxy ≡ false → (x ≡ p.dst → ⊥) → p.ttl ≡ 0 → (step_at h table x p).reroutes ≡ 0
  step_out x p e d z = ap (λ (o : StepAnswer). o.reroutes) (cleared_step x p e ∙ there_drop_ttl h (sight h table x) x (cleared p) d z)

  -- a journey passes the servers that the hops say, without a reroute, and is delivered where the last of them is dst
  record Goes (x : ℕ) (p : Packet) (j : Trip) : Type 0 where
    uids_so : j.uids ≡ passes h p.ttl x p.dst
    no_reroutes : j.reroutes ≡ 0
    delivers_there : Last p.dst (passes h p.ttl x p.dst) → j.ending ≡ delivered

  goes_last : (x : ℕ) (p : Packet) → p.has_proxy ≡ false → x < servers h → p.dst < servers h → ((step_at h table x p).ending ≡ forwarded → ⊥)
      → passes h p.ttl x p.dst ≡ x ∷ [] → Goes x p (ends_at x (step_at h table x p))
  goes_last x p e here there d w = cases (eqb x p.dst)
      (λ q. let s = step_there x p e (eqb-true x p.dst q) in record { uids_so = sym w; no_reroutes = s.1; delivers_there = λ l. s.0 })
      (λ q.
      let ne = eqb-false x p.dst q in
      record {
        uids_so = sym w;
        no_reroutes = cases (eqb p.ttl 0)
            (λ z. step_out x p e ne (eqb-true p.ttl 0 z))
            (λ z. absurd (d (step_goes x p e here there ne (omega (arith, eqb-false p.ttl 0 z))).goes));
        delivers_there = λ l. absurd (ne (last_one p.dst x (rw w at l)));
      })

  goes : {x : ℕ} {p : Packet} {j : Trip} → Travels h table x p j → p.has_proxy ≡ false → x < servers h → p.dst < servers h → Goes x p j
  goes {x} {p} (last_step d) e here there = goes_last x p e here there d
      (cases (eqb x p.dst)
      (λ q. let w = eqb-true x p.dst q in rw (← w) (delivery.passed_still (onward h) h.n h.b h.k p.ttl x))
      (λ q. cases (eqb p.ttl 0)
      (λ z. let w = eqb-true p.ttl 0 z in rw w (passed_out (onward h) h.n h.b h.k x p.dst))
      (λ z. absurd (d (step_goes x p e here there (eqb-false x p.dst q) (omega (arith, eqb-false p.ttl 0 z))).goes))))
  goes {x} {p} (one_step {rest = rest} w further) e here there =
      let o : StepAnswer = step_at h table x p in
      let sends = step_sends h table x p w in
      let ne : x ≡ p.dst → ⊥ = λ q. five (sym (step_there x p e q).0 ∙ w) in
      let g = step_goes x p e here there ne (omega (arith, sends.ttl)) in
      let i = goes further (ap (λ (q : Packet). q.has_proxy) g.as_before) (next_in x p e here there w) (rw sends.dst there) in
      let m : passes h p.ttl x p.dst ≡ x ∷ passes h o.packet.ttl o.next o.packet.dst =
      ap (λ (f : ℕ). passes h f x p.dst) (sym sends.ttl ∙ add-one o.packet.ttl)
      ∙ passed_on (onward h) h.n h.b h.k o.packet.ttl x p.dst ne
      ∙ ap (λ (z : ℕ). x ∷ passes h o.packet.ttl z p.dst) (sym g.hops_so)
      ∙ ap (λ (y : ℕ). x ∷ passes h o.packet.ttl o.next y) (sym sends.dst) in
      let s = passed_starts (onward h) h.n h.b h.k o.packet.ttl o.next o.packet.dst in
      record {
        uids_so = ap (λ (r : List ℕ). x ∷ r) i.uids_so ∙ sym m;
        no_reroutes = omega (arith, g.not_rerouted, i.no_reroutes);
        delivers_there = λ l.
            let a : Last p.dst (x ∷ (o.next ∷ s.0)) = rw (m, s.1) at l in
            let b = subst (λ (y : ℕ). Last y (o.next ∷ s.0)) (sym sends.dst) (last_more p.dst x o.next s.0 a) in
            i.delivers_there (rw s.1 b);
      }
    where
      five : delivered ≡ forwarded → ⊥
      five z = omega arith

      next_in : (x : ℕ) (p : Packet) → p.has_proxy ≡ false → x < servers h → p.dst < servers h → (step_at h table x p).ending ≡ forwarded → (step_at h table x p).next < servers h
      next_in x p e here there w =
          let f : Fits h (tidied p) = rw (tidied_none p e) (record { dst_in = there; proxy_in = λ q. never q refl }) in
          (step_forwards h (sight h table x) (λ y z. linked h (cell_part h (step_table h table x)) y z ≡ true) (seen_links h (step_table h table x) (valid_known h is_valid)) is_valid
          x (tidied p) here f w).inside_hall

-- what is left to go at first is below 2 ^ (l + 1), l being the lowest level that holds both
left_few : (h : Hall) (is_valid : valid h ≡ true) (x y : ℕ) → x < servers h → y < servers h
    → left (remaining h) (above h.n h.b h.k x y) x y < 2 ^ suc (lowest h.n h.k x y)
unfolding left ones servers
left_few h is_valid x y here there =
    let v = valid_known h is_valid in
    let s = hall_same h.n (n_pos h v) h.k x y here there in
    let l : ℕ = lowest h.n h.k x y in
    let k = lowest_holds h.n h.k x y s in
    cases (leb h.b l)
    (λ q.
    rw (above_lowest h.n h.b h.k x y s)
    (delivery.left_bound h.n h.b l (leb-true h.b l q) (onward h) (remaining h) (all_local h is_valid) x y k))
    (λ q.
    let low : l < h.b = leb-false h.b l q in
    let c : same h.n h.b x y ≡ true = same_mono h.n {i = l} {j = h.b} x y (omega arith) k in
    rw (above_none h.n h.b h.k x y c) (all_up_between h (ones h) v (all_up_table h) l x y (omega arith) k))

-- a journey that ends at y and passes at most one link goes from x to y at once
short_hops : (x y : ℕ) (r q : List ℕ) → x ∷ r ≡ q ++ (y ∷ []) → length q ≤ 1 → (e : List (ℕ × ℕ)) → hops (x ∷ r) ≡ e → (e ≡ []) ⊎ (e ≡ (x, y) ∷ [])
unfolding hops
short_hops x y r [] g l e w = inl (sym w ∙ ap hops g)
short_hops x y r (a ∷ []) g l e w = let z : x ≡ a = cc in inr (sym w ∙ ap hops g ∙ rw z)
short_hops x y r (a ∷ (b ∷ q)) g l e w = absurd (omega arith)

module _ (h : Hall) (table : List ℕ) (source : ℕ) (p : Packet) (s : Sound h table source p) (all : EveryUp table) (bare : p.has_proxy ≡ false)
    (enough : 2 ^ suc (common h source p) - 1 ≤ p.ttl) where
  v : Valid h
  v = valid_known h s.hall_valid

  abbrev j : Trip
  j = trip h table source p

  abbrev links_above : List (ℕ × ℕ)
  links_above = above h.n h.b h.k source p.dst

  holds : same h.n h.k source p.dst ≡ true
  unfolding servers
  holds = hall_same h.n (n_pos h v) h.k source p.dst s.source_in s.dst_in

  gone : Goes h table s.hall_valid s.table_long all source p j
  gone = goes h table s.hall_valid s.table_long all (trip_travels h table source p) bare s.source_in s.dst_in

  few : left (remaining h) links_above source p.dst < 2 ^ suc (common h source p)
  few = left_few h s.hall_valid source p.dst s.source_in s.dst_in

  -- the servers passed end at dst, over as many links as were left to go
  arrived : (q : List ℕ) × (passes h p.ttl source p.dst ≡ q ++ (p.dst ∷ [])) × (length q ≡ left (remaining h) links_above source p.dst)
  arrived = delivery.delivered h.n h.b h.k v.b_low (onward h) (remaining h) (all_local h s.hall_valid) p.ttl source p.dst holds (omega (arith, few))

  links_left : j.links ≡ left (remaining h) links_above source p.dst
  links_left =
      let a = arrived in
      let e : length j.uids ≡ length a.0 + 1 = ap length (gone.uids_so ∙ a.1) ∙ length-append a.0 (p.dst ∷ []) in
      omega (arith, links_counted h table (trip_travels h table source p), a.2)

  -- the links above b are the route's
  crossed : select (leaves h.n h.b) (hops j.uids) ≡ links_above
  crossed =
      let a = arrived in
      rw gone.uids_so
      (passed_above h.n (n_pos h v) h.b h.k v.b_low (onward h) (remaining h) (all_local h s.hall_valid) p.ttl source p.dst holds (a.0, a.1))

  of_level_so : (i : ℕ) → h.b < i → links_of h table source p i ≡ select (of_level h.n i) links_above
  of_level_so i l =
      sym (select_through (leaves h.n h.b) (of_level h.n i) (level_leaves h.n h.b i l) (hops j.uids))
      ∙ ap (select (of_level h.n i)) crossed

  none_high : (i : ℕ) → common h source p < i → h.b ≤ common h source p → links_of h table source p i ≡ []
  none_high i l low =
      of_level_so i (omega arith)
      ∙ ap (select (of_level h.n i)) (above_hops h.n h.b h.k source p.dst holds)
      ∙ select_through (leaves h.n h.b) (of_level h.n i) (level_leaves h.n h.b i (omega arith)) (hops (route h.n h.k source p.dst))
      ∙ links_none_above h.n h.k source p.dst holds i l

  -- in one switch dst is one link away
  none_low : (i : ℕ) → common h source p < i → common h source p < h.b → links_of h table source p i ≡ []
  none_low zero l low = absurd (omega arith)
  none_low (suc i) l low =
      let a = arrived in
      let z : common h source p ≡ 0 = omega (arith, v.b_high) in
      let f : left (remaining h) links_above source p.dst < 2 ^ suc 0 = rw z at few in
      let r = passed_starts (onward h) h.n h.b h.k p.ttl source p.dst in
      let u : j.uids ≡ source ∷ r.0 = gone.uids_so ∙ r.1 in
      let k = same_mono h.n {i = common h source p} {j = i} source p.dst (omega arith) (lowest_holds h.n h.k source p.dst holds) in
      ⊎_elim
      (λ e. ap (select (of_level h.n (suc i))) e ∙ select_none (of_level h.n (suc i)) [] tt)
      (λ e. ap (select (of_level h.n (suc i))) e ∙ select_none (of_level h.n (suc i)) ((source, p.dst) ∷ []) (not_above h.n i source p.dst k, tt))
      (short_hops source p.dst r.0 a.0 (sym r.1 ∙ a.1) (omega (arith, a.2)) (hops j.uids) (ap hops (sym u)))

  delivered_all : Delivered h table source p
  delivered_all =
      let a = arrived in
      record {
        is_delivered = gone.delivers_there (a.0, a.1);
        at_dst = (a.0, gone.uids_so ∙ a.1);
        links_few = omega (arith, links_left, few);
        level_few = λ i lo hi.
            rw (of_level_so i lo, above_lowest h.n h.b h.k source p.dst holds)
            (above_of_level h.n h.b (common h source p) source p.dst (lowest_holds h.n h.k source p.dst holds) i hi);
        none_higher = λ i l. cases (leb h.b (common h source p))
            (λ q. none_high i l (leb-true h.b (common h source p) q))
            (λ q. none_low i l (leb-false h.b (common h source p) q));
        no_reroute = gone.no_reroutes;
      }

-- in a full hall every code counts as it stands
pub every_up_delivers : AllDelivered
every_up_delivers h table source p s full all bare enough = rw (counted_full h 0 table full) (delivered_all h table source p s all bare enough)
