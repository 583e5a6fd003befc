-- `cells::refused_uid` meets its contract: a hall without servers is none, and then the uid decides.
use borrow.Author.Tests.{lt-ltb, le-ltb}
use mathlib.Core.Path.{◌≡◌}
use mathlib.Core.List.{[], ◌∷◌}
use Prim.Native.Nat.{ℕ, ◌<◌, ◌≤◌}
use Rattle.combine.specs.Tests.{pick}
use Rattle.hall.specs.declared.Hall.{Hall}
use Rattle.hall.specs.Refusals.{refusal}
use Rattle.hall.specs.Halls.{valid, servers, asks_hall, asks_uid}
use Rattle.hall.proofs.Growth.{valid_servers, some_servers, no_servers}
use Rattle.cells.proofs.refused_uid.Goals as goal

module _ (h : Hall) (s u : ℕ) (e : s ≡ pick (valid h) (servers h) 0) (ne : s ≡ 0 → ⊥) where
  outside : s ≤ u → 2 ≡ refusal (asks_hall h ∷ asks_uid h u ∷ [])
  unfolding refusal
  outside l = let v = some_servers h s e ne in rw (v, le-ltb u (servers h) (rw (valid_servers h s e v) at l))

  inside : u < s → 0 ≡ refusal (asks_hall h ∷ asks_uid h u ∷ [])
  unfolding refusal
  inside l = let v = some_servers h s e ne in rw (v, lt-ltb u (servers h) (rw (valid_servers h s e v) at l))

pub returns-then-servers-eq0 : goal.returns-then-servers-eq0
unfolding refusal
returns-then-servers-eq0 c = rw (no_servers _ _ c.servers_of-servers.ensures c.if-servers-eq0.true)

pub returns-then-servers-uid : goal.returns-then-servers-uid
returns-then-servers-uid c = outside _ _ _ c.servers_of-servers.ensures c.if-servers-eq0.false c.if-servers-uid.true

pub returns : goal.returns
returns c = inside _ _ _ c.servers_of-servers.ensures c.if-servers-eq0.false c.if-servers-uid.false
