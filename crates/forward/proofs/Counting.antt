-- A step over the table that a server is lent, whether its codes stand as in the hall table or as they count, is its step over the hall table as
-- its codes count: a step counts the near codes, and a link that is not fitted is shut by its near code.
use mathlib.Core.Path.{◌≡◌, sym, ◌∙◌, ap}
use mathlib.Core.Bool.{true, false}
use mathlib.Core.List.{List}
use Prim.Native.Nat.{ℕ, ◌≤◌, ◌<◌}
use Rattle.hall.specs.declared.Hall.{Hall}
use Rattle.ports.proofs.Parts as parts
use Rattle.local.specs.Local.{cell_size, distance, hop}
use Rattle.counted.specs.Counted.{counted}
use Rattle.counted.proofs.Counted.{counted_twice}
use Rattle.ends.specs.Tables.{step_table, cell_part, lent_counted}
use Rattle.ends.proofs.Answers.{length-step}
use Rattle.forward.specs.declared.Packet.{Packet}
use Rattle.forward.specs.Packets.{tidied}
use Rattle.forward.specs.Seen.{usable}
use Rattle.forward.specs.Steps.{step_on, step}
use Rattle.forward.specs.Journeys.{step_at}
use Rattle.forward.specs.Inside.{Here, Above}
use Rattle.forward.proofs.Asked.{asked_same}
use Rattle.forward.proofs.CodeTables.{counting_own, usable_counts}

module _ (h : Hall) (table : List ℕ) (me : ℕ) (s : parts.Sound h table me) where
  abbrev Own : List ℕ
  Own = lent_counted h me (step_table h table me)

  abbrev Hall' : List ℕ
  Hall' = step_table h (counted h 0 table) me

  lent_here : Here h false (step_table h table me) me
  lent_here = record { sound = s.is_valid; long = length-step h table me s; fits = s.below }

  hall_here : Here h true table me
  hall_here = record { sound = s.is_valid; long = s.long; fits = s.below }

  same_part : cell_part h Own ≡ cell_part h Hall'
  same_part = sym (counting_own h false (step_table h table me) me lent_here) ∙ counting_own h true table me hall_here

  same_usable : (i place : ℕ) → place < cell_size h → h.b < i → i ≤ h.k → usable h Own i place ≡ usable h Hall' i place
  same_usable i place l low high =
      let a : Above h place i = record { sound = s.is_valid; inside = l; low = low; high = high } in
      usable_counts h (step_table h table me) me place i a false lent_here ∙ sym (usable_counts h table me place i a true hall_here)

  pub step_counting : (p : Packet) → step h Own me p ≡ step_at h (counted h 0 table) me p
  step_counting p =
      asked_same h s.is_valid me s.below (distance h (cell_part h Own)) (hop h (cell_part h Own)) (usable h Own) (usable h Hall') same_usable (tidied p)
      ∙ ap (λ (c : List ℕ). step_on h (record { distance = distance h c; hop = hop h c; usable = usable h Hall' }) me (tidied p)) same_part

-- and over what is written for it, in which the codes count already
pub step_counted : (h : Hall) (table : List ℕ) (me : ℕ) → parts.Sound h (counted h 0 table) me → (p : Packet)
    → step h (lent_counted h me (step_table h (counted h 0 table) me)) me p ≡ step_at h (counted h 0 table) me p
step_counted h table me s p = step_counting h (counted h 0 table) me s p ∙ ap (λ (c : List ℕ). step_at h c me p) (counted_twice h 0 table)
