-- `local::one_round` meets its contract. The outer loop's invariant: the distances are filled up to the switch s; the inner loop's: those that
-- it found are filled up to server i of that switch, whose flag stays right as what is written reads as not reached.
use mathlib.Core.Path.{◌≡◌}
use Prim.Native.Nat.{◌+◌, ◌*◌}
use lib.ListN.{length}
use Rattle.combine.specs.Tests.{either, any_below}
use Rattle.ports.specs.Links.{switch_has}
use Rattle.search.specs.Rounds.{new}
use Rattle.search.proofs.InPlace.{filled}
use Rattle.local.specs.Local.{none, cell_size, linked}
use Rattle.local.specs.Looks.{reached_by}
use Rattle.local.proofs.one_round.Given as goal

abbrev pub invariant-loop-i : goal.invariant-loop-i
invariant-loop-i l = (length l.initial.d ≡ 72)
    × (l.live ≡ switch_has l.h l.table (reached_by l.initial.d l.r) l.s)
    × (l.d ≡ filled (linked l.h l.table) (cell_size l.h) none l.r l.initial.d (l.s * l.h.n + l.i))
    × (l.any ≡ either l.initial.any (any_below (new (linked l.h l.table) (cell_size l.h) none l.r l.initial.d) (l.s * l.h.n + l.i)))

abbrev pub invariant-loop-s : goal.invariant-loop-s
invariant-loop-s l = (length l.initial.d ≡ 72)
    × (l.d ≡ filled (linked l.h l.table) (cell_size l.h) none l.r l.initial.d (l.s * l.h.n))
    × (l.any ≡ any_below (new (linked l.h l.table) (cell_size l.h) none l.r l.initial.d) (l.s * l.h.n))
