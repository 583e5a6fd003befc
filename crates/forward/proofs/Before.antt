-- With every port up the rule of before request K3 gave the same step: both rules find every link above b of the own cell usable, and a step
-- asks for no other.
use mathlib.Core.Path.{◌≡◌, sym, ◌∙◌, ap}
use mathlib.Core.Bool.{true}
use mathlib.Core.List.{List}
use Prim.Native.Nat.{ℕ, ◌≤◌, ◌<◌}
use Rattle.hall.specs.declared.Hall.{Hall}
use Rattle.hall.specs.Cells.{t}
use Rattle.ports.specs.Codes.{up, cell_length, part, EveryUp}
use Rattle.ports.proofs.Parts.{Sound}
use Rattle.ports.proofs.Runs.{every_up}
use Rattle.local.specs.Local.{cell_size, distance, hop}
use Rattle.local.proofs.Short.{all_up_part}
use Rattle.ends.specs.Tables.{step_table}
use Rattle.ends.proofs.Tables.{near_part}
use Rattle.forward.specs.declared.Packet.{Packet}
use Rattle.forward.specs.Packets.{tidied}
use Rattle.forward.specs.Seen.{usable}
use Rattle.forward.specs.Steps.{step_on}
use Rattle.forward.specs.Journeys.{step_at}
use Rattle.forward.specs.Before.{step_before}
use Rattle.forward.proofs.Sight.{usable_every}
use Rattle.forward.proofs.Asked.{asked_same}

module _ (h : Hall) (table : List ℕ) (me : ℕ) (s : Sound h table me) (all : EveryUp table) where
  near_every : (i place : ℕ) → place < cell_size h → i ≤ h.k → up h (part h table me) place i ≡ true
  unfolding cell_length cell_size
  near_every i place l high =
      let a = all_up_part h table me all s in
      every_up h (part h table me) (t h.n h.b) a.ups a.long place i l high

  pub all_up_before : (p : Packet) → step_before h table me p ≡ step_at h table me p
  all_up_before p =
      asked_same h s.is_valid me s.below (distance h (part h table me)) (hop h (part h table me))
      (λ i place. up h (part h table me) place i) (usable h (step_table h table me))
      (λ i place l low high. near_every i place l high ∙ sym (usable_every h table me s i place l low high all)) (tidied p)
      ∙ ap (λ (cell : List ℕ). step_on h (record { distance = distance h cell; hop = hop h cell; usable = usable h (step_table h table me) }) me (tidied p))
      (sym (near_part h table me s))
