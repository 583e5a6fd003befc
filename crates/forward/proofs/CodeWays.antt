-- The way on from a server, as the code finds it: the local next hop is found exactly where the target can be reached, the first link above b
-- begins in the own cell, and no link means that the goal is there too.
use Rattle.std.proofs.Common.{Option, None}
use mathlib.Core.Path.{refl, ◌≡◌, sym, ◌∙◌, ap}
use mathlib.Core.Bool.{Bool, not}
use mathlib.Core.List.{List}
use mathlib.Core.Logic.{inr}
use Prim.Native.Nat.{ℕ, ◌+◌, ◌-◌, ◌<◌}
use native.Mathlib.Omega.{arith}
use lib.Dec.{eqb, ltb}
use lib.ListN.{length}
use borrow.Author.Tests.{eqb-true, eqb-false, eq-eqb, lt-ltb, le-ltb}
use Rattle.combine.proofs.Tests.{cases}
use Rattle.hall.specs.declared.Hall.{Hall}
use Rattle.hall.specs.Refusals.{refusal}
use Rattle.hall.specs.Halls.{servers}
use Rattle.hall.proofs.Growth.{Valid, valid_known}
use Rattle.ports.specs.Codes.{cell_length}
use Rattle.route.specs.declared.Crossing.{Crossing}
use Rattle.route.specs.Answers.{link_of}
use Rattle.std.proofs.Common.{Result, Ok, IsOk, Some}
use Rattle.hall.specs.declared.refusals.Refusal.{Refusal}
use Rattle.local.proofs.Stated.{next_hop_known}
use Rattle.local.specs.Local.{none, cell_size, place_of, first_of, distance, hop}
use Rattle.local.specs.Answers.{NextHopAnswer, no_hop, hop_at, hop_told, next_hop_of, next_hop_stated}
use Rattle.local.proofs.Sizes.{place_fits}
use Rattle.local.proofs.Uids.{place_one}
use Rattle.local.proofs.Hops as hops
use Rattle.ends.specs.Tables.{cell_part}
use Rattle.forward.specs.declared.Way.TheVariants.{To, Unreached}
use Rattle.forward.specs.Seen.{seen, usable}
use Rattle.forward.specs.Inside.{Target, Ahead, Crossed, held, lent, way_to}
use Rattle.forward.proofs.Links as links
use Rattle.forward.proofs.CodeTables.{own_long, counting_own, lent_shared}

hop_reached : (h : Hall) (table : List ℕ) → Valid h → (x y : ℕ) → x < cell_size h → y < cell_size h → (x ≡ y → ⊥)
    → ltb (hop h table x y) (cell_size h) ≡ not (eqb (distance h table y x) none)
hop_reached h table v x y i j apart =
    cases (eqb (distance h table y x) none)
    (λ e.
    let f = hops.hop_none h table v x y i j (inr (eqb-true (distance h table y x) none e)) in
    rw e (le-ltb (hop h table x y) (cell_size h) (omega arith)))
    (λ e. rw e (lt-ltb (hop h table x y) (cell_size h) (hops.hop_there h table v x y i j apart (eqb-false (distance h table y x) none e))))

module _ {whole : Bool} (h : Hall) (table : List ℕ) (me target : ℕ) (a : Target h whole table me target) where
  abbrev own : List ℕ
  own = cell_part h (lent h whole table me)

  v : Valid h
  v = valid_known h a.here.sound

  abbrev place : ℕ
  place = hop h own (place_of h me) (place_of h target)

  abbrev stands : List ℕ
  stands = cell_part h (held h whole table me)

  answer : next_hop_of h me target stands ≡ hop_at h me place
  unfolding refusal
  answer = rw (a.here.sound, eq-eqb (length stands) (cell_length h h.b) (own_long h whole table me a.here), lt-ltb me (servers h) a.here.fits, lt-ltb target (servers h) a.fits, a.near, counting_own h whole table me a.here)

  reaches : ltb place (cell_size h) ≡ not (eqb (distance h own (place_of h target) (place_of h me)) none)
  reaches =
      hop_reached h own v (place_of h me) (place_of h target) (place_fits h v me) (place_fits h v target)
      (λ e. a.apart (sym (place_one h me target a.near e)))

  module _ (part : List ℕ) (o : part ≡ cell_part h (held h whole table me)) (r : NextHopAnswer) (f : r ≡ next_hop_of h me target part) where
    told : r ≡ hop_at h me place
    told = f ∙ ap (next_hop_of h me target) o ∙ answer

    -- none is found where the target can't be reached
    pub hop_none : r.found ≡ 0 → Unreached ≡ way_to h (seen h (lent h whole table me)) me target
    unfolding way_to hop_at
    hop_none z =
        cases (ltb place (cell_size h))
        (λ q. let f : r ≡ record { refusal = 0; found = 1; uid = first_of h me + place } = told ∙ rw q in let g = ap (λ (n : NextHopAnswer). n.found) f in absurd (omega arith))
        (λ q. rw (← reaches, q))

    pub hop_some : (r.found ≡ 0 → ⊥) → To r.uid ≡ way_to h (seen h (lent h whole table me)) me target
    unfolding way_to hop_at
    hop_some ne =
        cases (ltb place (cell_size h))
        (λ q. let f : r ≡ record { refusal = 0; found = 1; uid = first_of h me + place } = told ∙ rw q in rw (← reaches, q, ap (λ (n : NextHopAnswer). n.uid) f))
        (λ q. let f : r ≡ no_hop = told ∙ rw q in absurd (ne (ap (λ (n : NextHopAnswer). n.found) f)))

  -- what the call answers, by its cases
  module _ (part : List ℕ) (o : part ≡ cell_part h (held h whole table me)) (r : Result (Option ℕ) Refusal) (f : next_hop_stated r ≡ next_hop_of h me target part) where
    pub hop_there : IsOk r
    hop_there = next_hop_known h me part a.here.sound (ap length o ∙ own_long h whole table me a.here) a.here.fits target a.fits a.near r f

    pub way_found : (u : ℕ) (x : Option ℕ) → r ≡ Ok x → x ≡ Some u → To u ≡ way_to h (seen h (lent h whole table me)) me target
    way_found u x e g = hop_some part o (hop_told (Some u)) (ap next_hop_stated (sym (e ∙ ap Ok g)) ∙ f) (λ z. absurd (omega (arith, z)))

    pub way_missing : (x : Option ℕ) → r ≡ Ok x → x ≡ None → Unreached ≡ way_to h (seen h (lent h whole table me)) me target
    way_missing x e g = hop_none part o (hop_told None) (ap next_hop_stated (sym (e ∙ ap Ok g)) ∙ f) refl

module _ {whole : Bool} (h : Hall) (table : List ℕ) (me goal : ℕ) (link : Option Crossing) (a : Ahead h whole table me goal link) where
  ahead_is : {u v m : ℕ} → link ≡ link_of u v m → links.Ahead h me u v m
  ahead_is e = links.link_ahead h a.here.sound me goal a.here.fits a.fits (sym a.first ∙ e)

  pub target_goal : link ≡ None → Target h whole table me goal
  target_goal e = record {
    here = a.here;
    fits = a.fits;
    apart = a.apart;
    near = links.none_ahead h a.here.sound me goal a.here.fits a.fits (sym a.first ∙ e);
  }

  pub target_near : (u v m : ℕ) → link ≡ link_of u v m → (me ≡ u → ⊥) → Target h whole table me u
  target_near u v m e ne = let k = ahead_is e in record { here = a.here; fits = k.near_in; apart = λ z. ne (sym z); near = k.starts }

  -- both ends of the link, and that its near end is lent what self is
  pub crossed : (u v m : ℕ) → link ≡ link_of u v m → Crossed h whole table u v m
  crossed u v m e =
      let k = ahead_is e in
      let j : m - 1 ≡ k.j = omega (arith, k.level) in
      record {
        here = record { sound = a.here.sound; long = a.here.long; fits = k.near_in };
        low = omega (arith, k.level, k.low);
        high = omega (arith, k.level, k.high);
        leads = rw j (sym k.leads);
      }

  pub usable_near : (u v m : ℕ) → link ≡ link_of u v m → (r : Bool) → r ≡ usable h (lent h whole table u) m (place_of h u)
      → usable h (lent h whole table me) m (place_of h u) ≡ r
  usable_near u v m e r q = ap (λ (l : List ℕ). usable h l m (place_of h u)) (lent_shared h whole table me u (ahead_is e).starts) ∙ sym q
