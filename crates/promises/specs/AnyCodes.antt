-- Demand 3 with any codes: how a journey ends and what that means, which links it crosses, and how many.
-- Sections "One forwarding step" and "What the promises settle"; request K5.
use Rattle.std.specs.Prelude.{◌≡◌, List, [], ◌∷◌, ◌++◌, ℕ, ◌+◌, ◌-◌, ◌≤◌}
use Rattle.hall.specs.declared.Hall.{Hall}
use Rattle.counted.specs.Counted.{counted}
use Rattle.route.specs.Routes.{hops}
use Rattle.route.specs.Walks.{Each}
use Rattle.forward.specs.declared.Packet.{Packet}
use Rattle.forward.specs.Packets.{drop_ttl, drop_route, drop_retry, drop_proxy, delivered, tidied}
use Rattle.forward.specs.Journeys.{Trip, step_at, trip, sight}
use Rattle.forward.specs.Endings.{NoRoute, Spent, NoProxy}
use Rattle.forward.specs.Travels.{Comes}
use Rattle.promises.specs.Journeys.{Sound, Usable}

-- what the ending of a step at a server says, for the packet as it came there
pub data Means (h : Hall) (table : List ℕ) (at : ℕ) (p : Packet) : ℕ → Type 0 where
  -- it is at its destination
  means_delivered : at ≡ p.dst → Means h table at p delivered
  -- its TTL is 0, and it is not at its destination
  means_ttl : (at ≡ p.dst → ⊥) → p.ttl ≡ 0 → Means h table at p drop_ttl
  -- dst is in the own cell, and the local target out of reach
  means_route : NoRoute h (sight h table at) at (tidied p) (step_at h table at p) → Means h table at p drop_route
  -- the retry is spent
  means_retry : Spent h (sight h table at) at (tidied p) (step_at h table at p) → Means h table at p drop_retry
  -- no server of the own cell is a candidate at any level from the first on
  means_proxy : NoProxy h (sight h table at) at (tidied p) (step_at h table at p) → Means h table at p drop_proxy

-- where a journey ended: the packet that came to that step of it, over the uids passed before, how far its TTL and its retry had fallen by
-- then, and what the step's ending, which is the journey's, says
pub record EndedAt (h : Hall) (table : List ℕ) (source : ℕ) (p : Packet) (j : Trip) : Type 0 where
  pub at : ℕ
  pub packet : Packet
  pub before : List ℕ
  pub comes : Comes h table source p at packet before
  pub is_last : j.uids ≡ before ++ (at ∷ [])
  pub ends_it : (step_at h table at packet).ending ≡ j.ending
  pub same_dst : packet.dst ≡ p.dst
  pub aged : packet.ttl + j.links ≡ p.ttl
  pub lowered : packet.retry + j.reroutes ≡ p.retry + (step_at h table at packet).reroutes
  pub means : Means h table at packet j.ending

-- delivery or one of the four drops, each meaning what its name says; usable links only; links at most the TTL; reroutes fewer than the
-- retry, and none where it is 0
pub record Kept (h : Hall) (table : List ℕ) (source : ℕ) (p : Packet) : Type 0 where
  pub ended_at : EndedAt h table source p (trip h table source p)
  pub links_usable : Each (λ e. Usable h table e.0 e.1) (hops (trip h table source p).uids)
  pub links_few : (trip h table source p).links ≤ p.ttl
  pub reroutes_few : (trip h table source p).reroutes ≤ p.retry - 1

-- for every valid hall, full or not, every hall table of the right length as its codes count, and every packet with any proxy of the hall
abbrev pub AnyCodes : Type 0
AnyCodes = (h : Hall) (table : List ℕ) (source : ℕ) (p : Packet) → Sound h table source p → Kept h (counted h 0 table) source p

-- so no journey is dropped for a spent retry while more than one of it is left: the reroutes took all but one
abbrev pub RetrySpent : Type 0
RetrySpent = (h : Hall) (table : List ℕ) (source : ℕ) (p : Packet) (j : Trip) → EndedAt h table source p j → j.ending ≡ drop_retry
    → p.retry ≤ j.reroutes + 1
