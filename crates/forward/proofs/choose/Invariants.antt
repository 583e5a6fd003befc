-- `forward::choose` meets its contract: what is left of the search is the whole search, and no candidate is passed over, so the first that
-- is met at a level is its nearest, then its lowest.
use mathlib.Core.Path.{◌≡◌}
use mathlib.Core.Bool.{true}
use Prim.Native.Nat.{ℕ, ◌≤◌, ◌<◌}
use Rattle.std.proofs.Common.{None}
use Rattle.local.specs.Local.{place_of}
use Rattle.forward.specs.Seen.{seen}
use Rattle.forward.specs.Inside.{lent}
use Rattle.forward.specs.Proxies.{is_candidate, choice}
use Rattle.forward.proofs.CodeChoice.{choice_from}
use Rattle.forward.proofs.choose.Given as goal

-- no candidate of a level among the first places is nearer than d, or none of those at distance d is below a place
abbrev pub invariant-loop-place : goal.invariant-loop-place
invariant-loop-place l = (l.chosen ≡ None)
    × ((q : ℕ) → q < l.place → is_candidate (seen l.h (lent l.h l.whole l.table l.me)) (place_of l.h l.me) l.level q ≡ true → l.d < (seen l.h (lent l.h l.whole l.table l.me)).distance (place_of l.h l.me) q)

abbrev pub invariant-loop-d : goal.invariant-loop-d
invariant-loop-d l = (l.chosen ≡ None)
    × ((q : ℕ) → q < l.from.count → is_candidate (seen l.h (lent l.h l.whole l.table l.me)) (place_of l.h l.me) l.level q ≡ true → l.d ≤ (seen l.h (lent l.h l.whole l.table l.me)).distance (place_of l.h l.me) q)

abbrev pub invariant-search : goal.invariant-search
invariant-search l = (choice_from l.h (seen l.h (lent l.h l.whole l.table l.me)) (place_of l.h l.me) l.level ≡ choice l.h (seen l.h (lent l.h l.whole l.table l.me)) (place_of l.h l.me) l.first) × (l.chosen ≡ None)
