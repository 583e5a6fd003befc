-- With any codes: each step that forwards hops over a usable link to a server of the hall, with a packet of the hall, so each hop of a
-- journey does; and the last step says what the ending means.
use mathlib.Core.Path.{◌≡◌, sym, ◌∙◌, ap}
use mathlib.Core.Bool.{true}
use mathlib.Core.List.{List}
use Prim.Native.Nat.{ℕ, suc, ◌-◌, ◌<◌}
use native.Mathlib.Omega.{arith}
use lib.ListN.{length}
use Rattle.hall.specs.declared.Hall.{Hall}
use Rattle.hall.specs.Cells.{neighbour}
use Rattle.hall.specs.Halls.{valid, servers}
use Rattle.hall.proofs.Growth.{Valid, valid_known}
use Rattle.ports.specs.Codes.{part, table_length}
use Rattle.ports.specs.Links.{both_up}
use Rattle.ports.proofs.Parts.{Sound}
use Rattle.ports.proofs.Links.{joined_more, joined_at}
use Rattle.counted.specs.Counted.{counted}
use Rattle.counted.proofs.Counted.{counted_length}
use Rattle.local.proofs.Uids.{linked_hall}
use Rattle.local.specs.Local.{place_of, linked}
use Rattle.ends.specs.Tables.{step_table, cell_part}
use Rattle.ends.proofs.Tables.{near_part}
use Rattle.forward.specs.declared.Packet.{Packet}
use Rattle.forward.specs.Packets.{forwarded, drop_retry, tidied}
use Rattle.forward.specs.Endings.{Spent}
use Rattle.forward.specs.Journeys.{step_at, sight}
use Rattle.forward.proofs.Steps.{delivered_there, drop_ttl_there, drop_route_means, drop_retry_means, drop_proxy_means}
use Rattle.forward.proofs.Ways.{Fits, Hop, inside, over, Final, final_delivered, final_drop_ttl, final_drop_route, final_drop_retry, final_drop_proxy}
use Rattle.forward.proofs.Trips.{tidied_dst, tidied_ttl, tidied_retry, tidied_fits, trip_travels, links_within, reroutes_within, trip_ending, trip_last, each_hop}
use Rattle.forward.proofs.Hops.{Forwards, step_forwards}
use Rattle.forward.proofs.Sight.{seen_links, usable_own}
use Rattle.promises.specs.Journeys.{Usable}
use Rattle.promises.specs.Journeys as journeys
use Rattle.promises.specs.AnyCodes.{Means, means_delivered, means_ttl, means_route, means_retry, means_proxy, Kept, AnyCodes, RetrySpent}

-- a server of the hall with a packet of the hall: so a journey that is not refused sets out
abbrev pub Stands : Hall → ℕ → Packet → Type 0
Stands h me p = (me < servers h) × Fits h p

pub departs : (h : Hall) (table : List ℕ) (source : ℕ) (p : Packet) → journeys.Sound h table source p → Stands h source p
departs h table source p s = (s.source_in, record { dst_in = s.dst_in; proxy_in = s.proxy_in })

module _ (h : Hall) (table : List ℕ) (is_valid : valid h ≡ true) (long : length table ≡ table_length h) where
  known : Valid h
  known = valid_known h is_valid

  pub known_at : (me : ℕ) → me < servers h → Sound h table me
  known_at me here = record { is_valid = is_valid; long = long; below = here }

  -- the links of a server's cell, by the table that it is lent
  abbrev Own : ℕ → ℕ → ℕ → Type 0
  Own me x z = linked h (cell_part h (step_table h table me)) x z ≡ true

  hop_usable : (me next : ℕ) → me < servers h → Hop h (sight h table me) (Own me) me next → Usable h table me next
  hop_usable me next here (inside place l e j) =
      let s = known_at me here in
      let w : linked h (part h table me) (place_of h me) place ≡ true = ap (λ (cell : List ℕ). linked h cell (place_of h me) place) (sym (near_part h table me s)) ∙ j in
      joined_more h table me next h.b h.k known.b_low (rw e (sym (linked_hall h table me place known l) ∙ w))
  hop_usable me next here (over j low high e u) =
      let s = known_at me here in
      let q : suc j - 1 ≡ j = omega arith in
      let w : both_up h table (suc j) me next ≡ true =
      ap (both_up h table (suc j) me) (sym (ap (λ (i : ℕ). neighbour h.n i me) q ∙ e)) ∙ sym (usable_own h table me s (suc j) (omega arith) high) ∙ u in
      joined_more h table me next (suc j) h.k high (joined_at h table me next j e w)

  forwards : (me : ℕ) (p : Packet) → Stands h me p → (step_at h table me p).ending ≡ forwarded
      → Forwards h (sight h table me) (Own me) (seen_links h (step_table h table me) known) is_valid me (step_at h table me p)
  forwards me p k e =
      step_forwards h (sight h table me) (Own me) (seen_links h (step_table h table me) known) is_valid me (tidied p) k.0 (tidied_fits h p k.1) e

  pub stands_on : (me : ℕ) (p : Packet) → Stands h me p → (step_at h table me p).ending ≡ forwarded → Stands h (step_at h table me p).next (step_at h table me p).packet
  stands_on me p k e = let f = forwards me p k e in (f.inside_hall, f.packet_fits)

  pub hops_usable : (me : ℕ) (p : Packet) → Stands h me p → (step_at h table me p).ending ≡ forwarded → Usable h table me (step_at h table me p).next
  hops_usable me p k e = hop_usable me (step_at h table me p).next k.0 (forwards me p k e).hop

-- what the ending of a step means
means : (h : Hall) (table : List ℕ) (at : ℕ) (p : Packet) {e : ℕ} → Final e → (step_at h table at p).ending ≡ e → Means h table at p e
means h table at p final_delivered q = means_delivered (delivered_there h (sight h table at) at (tidied p) q ∙ tidied_dst p)
means h table at p final_drop_ttl q =
    let w = drop_ttl_there h (sight h table at) at (tidied p) q in
    means_ttl (λ e. w.0 (e ∙ sym (tidied_dst p))) (sym (tidied_ttl p) ∙ w.1)
means h table at p final_drop_route q = means_route (drop_route_means h (sight h table at) at (tidied p) q)
means h table at p final_drop_retry q = means_retry (drop_retry_means h (sight h table at) at (tidied p) q)
means h table at p final_drop_proxy q = means_proxy (drop_proxy_means h (sight h table at) at (tidied p) q)

-- a hall table as its codes count is one too
pub sound_counted : (h : Hall) (table : List ℕ) (source : ℕ) (p : Packet) → journeys.Sound h table source p → journeys.Sound h (counted h 0 table) source p
sound_counted h table source p s = record {
  hall_valid = s.hall_valid;
  table_long = counted_length h 0 table ∙ s.table_long;
  source_in = s.source_in;
  dst_in = s.dst_in;
  proxy_in = s.proxy_in;
}

-- over any hall table
kept : (h : Hall) (table : List ℕ) (source : ℕ) (p : Packet) → journeys.Sound h table source p → Kept h table source p
kept h table source p s =
    let w = trip_travels h table source p in
    let l = trip_last h table w in
    record {
      ended_at = record {
        at = l.at;
        packet = l.came;
        before = l.before;
        comes = l.comes;
        is_last = l.is_last;
        ends_it = l.ends_it;
        same_dst = l.same_dst;
        aged = l.aged;
        lowered = omega (arith, l.lowered);
        means = means h table l.at l.came (trip_ending h table w) l.ends_it;
      };
      links_usable =
          each_hop h table (Stands h) (Usable h table) (stands_on h table s.hall_valid s.table_long) (hops_usable h table s.hall_valid s.table_long)
          w (departs h table source p s);
      links_few = links_within h table w;
      reroutes_few = reroutes_within h table w;
    }

pub any_codes : AnyCodes
any_codes h table source p s = kept h (counted h 0 table) source p (sound_counted h table source p s)

-- drop 3 is the only ending of its number
spent_then : (h : Hall) (table : List ℕ) (at : ℕ) (p : Packet) {e : ℕ} → Means h table at p e → e ≡ drop_retry
    → Spent h (sight h table at) at (tidied p) (step_at h table at p)
spent_then h table at p (means_delivered d) q = absurd (omega arith)
spent_then h table at p (means_ttl d z) q = absurd (omega arith)
spent_then h table at p (means_route w) q = absurd (omega arith)
spent_then h table at p (means_retry w) q = w
spent_then h table at p (means_proxy w) q = absurd (omega arith)

-- the retry that is left in the last pass is at most one, and the reroutes took the rest
pub retry_spent : RetrySpent
retry_spent h table source p j e q =
    let w = spent_then h table e.at e.packet e.means q in
    omega (arith, w.at_most_one, w.lowered, e.lowered, tidied_retry e.packet)
