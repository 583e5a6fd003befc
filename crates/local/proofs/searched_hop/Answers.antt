-- `local::searched_hop` meets its contract. The loop's invariant: the record holds the marks before round r, none behind the cell, and round r
-- does not reach x.
use mathlib.Core.Path.{◌≡◌, ◌∙◌, sym}
use Prim.Native.Nat.{◌+◌, ◌-◌}
use native.Mathlib.Omega.{arith}
use lib.ListN.{replicate}
use Rattle.hall.proofs.Growth.{valid_known}
use Rattle.search.proofs.Loop.{loop_more}
use Rattle.local.specs.Local.{places, none, cell_size, linked}
use Rattle.local.proofs.Sizes.{cell_size_lem, size_fits}
use Rattle.local.proofs.Rounds.{record_start, record_length}
use Rattle.local.proofs.Meets.{starts_unmet, unmet_next, unmet_before, unmet_reads, hop_full, hop_idle, hop_met, still_unmet}
use Rattle.local.proofs.searched_hop.Goals.{After-size_of-count}
use Rattle.local.proofs.searched_hop.Goals as goal

sized : (c : After-size_of-count) → c.size_of-count.result ≡ cell_size c.args.h
sized c = cell_size_lem _ _ c.requires.0 c.size_of-count.ensures

pub loop-round-init : goal.loop-round-init
loop-round-init c =
    let v = valid_known _ c.requires.0 in (
      record_start _ _ _ v c.requires.2,
      starts_unmet _ _ v _ _ c.requires.1 c.requires.2 c.requires.3 c.requires.4,
    )

pub one_round-requires : goal.one_round-requires
one_round-requires c =
    let v = valid_known _ c.requires.0 in
    let w = c.loop-round in
    (c.requires.0, omega (arith, sized (goal.at.one_round-requires c).After-size_of-count, size_fits _ v), record_length _ _ _ w.round w.d v w.invariant.0)

pub returns-then-not-one_round : goal.returns-then-not-one_round
returns-then-not-one_round c =
    let v = valid_known _ c.requires.0 in
    let w = c.loop-round in
    let f = c.one_round in
    let e = sized (goal.at.returns-then-not-one_round c).After-size_of-count in
    e ∙ hop_idle _ _ v _ _ c.requires.1 c.requires.2 w.round w.d w.invariant.0
    (unmet_before _ _ v _ _ c.requires.1 c.requires.2 w.round w.invariant.1)
    (omega (arith, e)) (sym f.ensures.reaches ∙ c.if-not-one_round.true)

pub lowest_met-z-requires : goal.lowest_met-z-requires
lowest_met-z-requires c =
    let v = valid_known _ c.requires.0 in
    let w = c.loop-round in
    let e = sized (goal.at.lowest_met-z-requires c).After-size_of-count in (
      c.requires.0,
      c.requires.5,
      c.requires.1,
      e,
      unmet_reads _ _ v _ _ c.requires.1 c.requires.2 (w.round + 1) _
          (loop_more (linked _ _) (cell_size _) none _ (replicate (places - cell_size _) none) w.round w.d _ w.invariant.0 c.one_round.ensures.writes)
          (unmet_next _ _ v _ _ c.requires.1 c.requires.2 w.round w.invariant.1)
          (omega (arith, e, size_fits _ v)),
    )

pub returns-then-z-count : goal.returns-then-z-count
returns-then-z-count c =
    let v = valid_known _ c.requires.0 in
    let w = c.loop-round in
    let e = sized (goal.at.returns-then-z-count c).After-size_of-count in
    hop_met _ _ v _ _ c.requires.1 c.requires.2 (w.round + 1) _
    (loop_more (linked _ _) (cell_size _) none _ (replicate (places - cell_size _) none) w.round w.d _ w.invariant.0 c.one_round.ensures.writes)
    (unmet_next _ _ v _ _ c.requires.1 c.requires.2 w.round w.invariant.1)
    (omega (arith, e, size_fits _ v)) _ c.lowest_met-z.ensures (omega (arith, e))

pub loop-round-preserved : goal.loop-round-preserved
loop-round-preserved c =
    let v = valid_known _ c.requires.0 in
    let w = c.loop-round in
    let e = sized (goal.at.loop-round-preserved c).After-size_of-count in
    let more = loop_more (linked _ _) (cell_size _) none _ (replicate (places - cell_size _) none) w.round w.d _ w.invariant.0 c.one_round.ensures.writes in (
      more,
      still_unmet _ _ v _ _ c.requires.1 c.requires.2 (w.round + 1) _ more
          (unmet_next _ _ v _ _ c.requires.1 c.requires.2 w.round w.invariant.1)
          (omega (arith, e, size_fits _ v)) _ c.lowest_met-z.ensures (omega (arith, e)),
    )

pub returns : goal.returns
returns c =
    let v = valid_known _ c.requires.0 in
    let w = c.loop-round in
    let e = sized (goal.at.returns c).After-size_of-count in
    e ∙ hop_full _ _ v _ _ c.requires.1 c.requires.2 w.round (omega (arith, e))
    (unmet_before _ _ v _ _ c.requires.1 c.requires.2 w.round w.invariant.1)
