-- `local::next_hop` meets its contract: what is refused has no hop, nor has another cell; else the hop's place decides.
use mathlib.Core.Path.{◌≡◌}
use Prim.Native.Nat.{◌<◌}
use native.Mathlib.Omega.{arith}
use Rattle.hall.proofs.Growth.{valid_known}
use Rattle.local.specs.Local.{cell_size}
use Rattle.local.proofs.Sizes.{cell_size_lem, size_pos, place_under}
use Rattle.local.proofs.Asks.{Sound, sound_two}
use Rattle.local.proofs.Answers.{one_cell, two_cells, uid_in_cell, hop_outside, hop_found, hop_missing}
use Rattle.local.proofs.next_hop.Goals.{After-size_of-count}
use Rattle.local.proofs.next_hop.Goals as goal

known : (c : After-size_of-count) → Sound c.args.h c.args.uid
known c = sound_two _ _ _ _ c.in_ok-refused_two.ensures

sized : (c : After-size_of-count) → c.size_of-count.result ≡ cell_size c.args.h
sized c = cell_size_lem _ _ (known c).is_valid c.size_of-count.ensures

some : (c : After-size_of-count) → 0 < c.size_of-count.result
some c = omega (arith, sized c, size_pos _ (valid_known _ (known c).is_valid))

pub nonzero_div-cell : goal.nonzero_div-cell
nonzero_div-cell c = some (goal.at.nonzero_div-cell c).After-size_of-count

pub nonzero_div-target : goal.nonzero_div-target
nonzero_div-target c = some (goal.at.nonzero_div-target c).After-size_of-count

pub returns-then-target-count : goal.returns-then-target-count
returns-then-target-count c =
    let e = sized (goal.at.returns-then-target-count c).After-size_of-count in
    hop_outside _ _ _ _ c.in_ok-refused_two.ensures (two_cells _ _ _ _ e c.if-target-count.true)

pub own_codes-requires : goal.own_codes-requires
own_codes-requires c = let s = known (goal.at.own_codes-requires c).After-size_of-count in (s.is_valid, s.below)

pub nonzero_rem-uid : goal.nonzero_rem-uid
nonzero_rem-uid c = some (goal.at.nonzero_rem-uid c).After-size_of-count

pub nonzero_rem-target : goal.nonzero_rem-target
nonzero_rem-target c = some (goal.at.nonzero_rem-target c).After-size_of-count

pub hop_place-z-requires : goal.hop_place-z-requires
hop_place-z-requires c =
    let o = (goal.at.hop_place-z-requires c).After-size_of-count in
    let s = known o in
    let v = valid_known _ s.is_valid in
    (s.is_valid, place_under _ v c.args.uid _ (sized o), place_under _ v c.args.target _ (sized o))

pub overflow_add-next : goal.overflow_add-next
overflow_add-next c =
    let o = (goal.at.overflow_add-next c).After-size_of-count in omega (arith, uid_in_cell _ c.args.uid _ _ (known o) (sized o) c.if-z-count.true)

pub returns-then-z-count : goal.returns-then-z-count
returns-then-z-count c =
    let e = sized (goal.at.returns-then-z-count c).After-size_of-count in
    hop_found _ _ _ _ c.in_ok-refused_two.ensures (one_cell _ _ _ _ e c.if-target-count.false) e c.own_codes.ensures c.hop_place-z.ensures c.if-z-count.true

pub returns : goal.returns
returns c =
    let e = sized (goal.at.returns c).After-size_of-count in
    hop_missing _ _ _ _ c.in_ok-refused_two.ensures (one_cell _ _ _ _ e c.if-target-count.false) e c.own_codes.ensures c.hop_place-z.ensures c.if-z-count.false
