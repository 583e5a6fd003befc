-- `local::distances_from` meets its contract. The loop's invariant: the record holds the marks before round r, and none behind the cell.
use mathlib.Core.Path.{◌≡◌, ◌∙◌, sym}
use Prim.Native.Nat.{◌-◌}
use native.Mathlib.Omega.{arith}
use lib.ListN.{replicate}
use Rattle.hall.proofs.Growth.{valid_known}
use Rattle.search.proofs.Loop.{loop_more}
use Rattle.local.specs.Local.{places, none, cell_size, linked}
use Rattle.local.proofs.Sizes.{cell_size_lem, size_fits}
use Rattle.local.proofs.Rounds.{record_start, record_length, record_idle, record_full}
use Rattle.local.proofs.distances_from.Goals.{After-size_of-count}
use Rattle.local.proofs.distances_from.Goals as goal

sized : (c : After-size_of-count) → c.size_of-count.result ≡ cell_size c.args.h
sized c = cell_size_lem _ _ c.requires.0 c.size_of-count.ensures

pub loop-r-init : goal.loop-r-init
loop-r-init c =
    record_start _ _ _ (valid_known _ c.requires.0) c.requires.1

pub one_round-requires : goal.one_round-requires
one_round-requires c =
    let v = valid_known _ c.requires.0 in
    let w = c.loop-r in
    (c.requires.0, omega (arith, sized (goal.at.one_round-requires c).After-size_of-count, size_fits _ v), record_length _ _ _ w.r w.d v w.invariant)

pub returns-then-not-one_round : goal.returns-then-not-one_round
returns-then-not-one_round c =
    let w = c.loop-r in
    let f = c.one_round in
    record_idle _ _ _ w.r w.d _ (valid_known _ c.requires.0) c.requires.1 (omega (arith, sized (goal.at.returns-then-not-one_round c).After-size_of-count)) w.invariant
    f.ensures.writes (sym f.ensures.reaches ∙ c.if-not-one_round.true)

pub loop-r-preserved : goal.loop-r-preserved
loop-r-preserved c =
    let w = c.loop-r in
    loop_more (linked _ _) (cell_size _) none _ (replicate (places - cell_size _) none) w.r w.d _ w.invariant c.one_round.ensures.writes

pub returns : goal.returns
returns c =
    let w = c.loop-r in
    record_full _ _ _ w.r w.d (omega (arith, sized (goal.at.returns c).After-size_of-count)) w.invariant
