-- `local::distances_of` meets its contract: what is refused tells nothing, else the record of the server's place.
use mathlib.Core.Path.{◌≡◌}
use native.Mathlib.Omega.{arith}
use Rattle.hall.proofs.Growth.{valid_known}
use Rattle.local.specs.Local.{cell_size}
use Rattle.local.proofs.Sizes.{cell_size_lem, size_pos, place_under}
use Rattle.local.proofs.Asks.{Sound, sound_one}
use Rattle.local.proofs.Answers.{distances_told}
use Rattle.local.proofs.distances_of.Goals.{After-size_of-count}
use Rattle.local.proofs.distances_of.Goals as goal

known : (c : After-size_of-count) → Sound c.args.h c.args.uid
known c = sound_one _ _ _ c.in_ok-refused.ensures

sized : (c : After-size_of-count) → c.size_of-count.result ≡ cell_size c.args.h
sized c = cell_size_lem _ _ (known c).is_valid c.size_of-count.ensures

pub own_codes-requires : goal.own_codes-requires
own_codes-requires c = let s = known (goal.at.own_codes-requires c).After-size_of-count in (s.is_valid, s.below)

pub nonzero_rem-uid : goal.nonzero_rem-uid
nonzero_rem-uid c =
    let o = (goal.at.nonzero_rem-uid c).After-size_of-count in omega (arith, sized o, size_pos _ (valid_known _ (known o).is_valid))

pub distances_from-requires : goal.distances_from-requires
distances_from-requires c =
    let o = (goal.at.distances_from-requires c).After-size_of-count in
    let s = known o in
    (s.is_valid, place_under _ (valid_known _ s.is_valid) c.args.uid _ (sized o))

pub returns : goal.returns
returns c = distances_told _ _ _ c.in_ok-refused.ensures (sized (goal.at.returns c).After-size_of-count) c.own_codes.ensures c.distances_from.ensures
