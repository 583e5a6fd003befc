-- A journey as its steps: what it is, and which packet comes to which of its servers.
-- Section "One forwarding step".
use Rattle.std.specs.Prelude.{◌≡◌, List, [], ◌∷◌, ◌++◌, ℕ}
use Rattle.hall.specs.declared.Hall.{Hall}
use Rattle.forward.specs.declared.Packet.{Packet}
use Rattle.forward.specs.Packets.{forwarded}
use Rattle.forward.specs.Journeys.{Trip, step_at, ends_at, goes_on}

-- u is the last of some uids
abbrev pub Last : ℕ → List ℕ → Type 0
Last u uids = (before : List ℕ) × (uids ≡ before ++ (u ∷ []))

module _ (h : Hall) (table : List ℕ) where
  -- a journey is its last step, or a step that forwards and the journey from its next uid with the packet that it sends on
  pub data Travels : ℕ → Packet → Trip → Type 0 where
    last_step : {me : ℕ} {p : Packet} → ((step_at h table me p).ending ≡ forwarded → ⊥) → Travels me p (ends_at me (step_at h table me p))
    one_step : {me : ℕ} {p : Packet} {rest : Trip} → (step_at h table me p).ending ≡ forwarded
        → Travels (step_at h table me p).next (step_at h table me p).packet rest → Travels me p (goes_on me (step_at h table me p) rest)

  -- of a journey that sets out with a packet: the packet that comes to a server, and the uids passed before that server
  pub data Comes (source : ℕ) (p : Packet) : ℕ → Packet → List ℕ → Type 0 where
    at_source : Comes source p source p []
    next_step : {at : ℕ} {came : Packet} {before : List ℕ} → Comes source p at came before → (step_at h table at came).ending ≡ forwarded
        → Comes source p (step_at h table at came).next (step_at h table at came).packet (before ++ (at ∷ []))
