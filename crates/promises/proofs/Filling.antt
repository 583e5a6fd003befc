-- In a full hall a table counts as it stands; a link that counts has two fitted servers, so a packet that a fitted server sends on comes to a fitted
-- one, and one that is not fitted sends nothing on.
use mathlib.Core.Path.{◌≡◌, refl, ◌∙◌, ap}
use mathlib.Core.Bool.{true, false}
use mathlib.Core.List.{List, ◌++◌}
use Prim.Native.Nat.{ℕ, zero, suc, ◌+◌, ◌<◌}
use native.Mathlib.Omega.{arith}
use lib.ListN.{length, get_or, take, drop, take-append-drop}
use Rattle.combine.proofs.Tests.{never}
use Rattle.hall.specs.declared.Hall.{Hall}
use Rattle.hall.specs.Halls.{valid}
use Rattle.hall.proofs.Growth.{valid_known}
use Rattle.ports.specs.Codes.{cell_length, table_length}
use Rattle.plan.specs.Answers.{fitted}
use Rattle.counted.specs.Counted.{counted}
use Rattle.counted.proofs.Counted.{counted_code, counted_full}
use Rattle.counted.proofs.Links.{joined_hall, joined_fitted}
use Rattle.local.specs.Local.{first_of}
use Rattle.ends.specs.Tables.{cell_part, lent_counted}
use Rattle.forward.specs.declared.Packet.{Packet}
use Rattle.forward.specs.Packets.{forwarded}
use Rattle.forward.specs.Journeys.{Trip, step_at}
use Rattle.forward.specs.Travels.{Travels, last_step, one_step}
use Rattle.forward.proofs.Links.{n_pos}
use Rattle.forward.proofs.Trips.{trip_travels}
use Rattle.broadcast.proofs.Fitted.{rounds_unfitted, rounds_local, rounds_front}
use Rattle.promises.specs.Filling.{CodesCount, FullUnchanged, UsableFitted, FittedOnly, UnfittedStays, UnfittedAlone, LocalRounds, FrontRounds}
use Rattle.promises.proofs.AnyCodes.{Stands, departs, stands_on, hops_usable, sound_counted}

pub codes_count : CodesCount
codes_count h table u port = let z : 0 + u ≡ u = omega arith in rw z at (counted_code h 0 table u port)

pub full_unchanged : FullUnchanged
unfolding lent_counted cell_part
full_unchanged h full = record {
  hall_table = λ table. counted_full h 0 table full;
  cell_table = λ u table. counted_full h (first_of h u) table full;
  lent_table = λ me lent.
      ap (λ (c : List ℕ). c ++ drop (cell_length h h.b) lent) (counted_full h (first_of h me) (take (cell_length h h.b) lent) full)
      ∙ take-append-drop (cell_length h h.b) lent;
}

pub usable_fitted : UsableFitted
usable_fitted h table source p s u v = joined_hall h (n_pos h (valid_known h s.hall_valid)) table h.k u v (omega arith)

module _ (h : Hall) (table : List ℕ) (is_valid : valid h ≡ true) (long : length (counted h 0 table) ≡ table_length h) where
  abbrev T : List ℕ
  T = counted h 0 table

  -- a step that forwards goes from a fitted server to a fitted one
  hop_fitted : (me : ℕ) (p : Packet) → Stands h me p → (step_at h T me p).ending ≡ forwarded → (fitted h me ≡ true) × (fitted h (step_at h T me p).next ≡ true)
  hop_fitted me p k e = joined_fitted h (n_pos h (valid_known h is_valid)) table me (step_at h T me p).next (hops_usable h T is_valid long me p k e)

  uids_fitted : {me : ℕ} {p : Packet} {j : Trip} → Travels h T me p j → Stands h me p → fitted h me ≡ true
      → (i : ℕ) → i < length j.uids → fitted h (get_or j.uids i 0) ≡ true
  uids_fitted (last_step d) k f zero l = f
  uids_fitted (last_step d) k f (suc i) l = absurd (omega arith)
  uids_fitted (one_step e t) k f zero l = f
  uids_fitted {me} {p} (one_step e t) k f (suc i) l =
      uids_fitted t (stands_on h T is_valid long me p k e) (hop_fitted me p k e).1 i (omega arith)

  stays_there : {me : ℕ} {p : Packet} {j : Trip} → Travels h T me p j → Stands h me p → fitted h me ≡ false → j.links ≡ 0
  stays_there (last_step d) k f = refl
  stays_there {me} {p} (one_step e t) k f = never (hop_fitted me p k e).0 f

pub fitted_only : FittedOnly
fitted_only h table source p s f =
    let c = sound_counted h table source p s in
    uids_fitted h table c.hall_valid c.table_long (trip_travels h (counted h 0 table) source p) (departs h (counted h 0 table) source p c) f

pub unfitted_stays : UnfittedStays
unfitted_stays h table source p s f =
    let c = sound_counted h table source p s in
    stays_there h table c.hall_valid c.table_long (trip_travels h (counted h 0 table) source p) (departs h (counted h 0 table) source p c) f

pub unfitted_alone : UnfittedAlone
unfitted_alone h table source s v f e = rounds_unfitted h table source s v f e

pub local_rounds : LocalRounds
local_rounds h table source s v f low e = rounds_local h table source s v f low e

pub front_rounds : FrontRounds
front_rounds h table source v b f e = rounds_front h table source v b f e
