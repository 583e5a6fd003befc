-- `forward::uid_at` meets its contract: the place is counted from the cell's first uid.
use mathlib.Core.Path.{◌≡◌}
use native.Mathlib.Omega.{arith}
use Rattle.hall.proofs.Growth.{valid_known}
use Rattle.local.specs.Local.{cell_size}
use Rattle.local.proofs.Sizes.{cell_size_lem, size_pos}
use Rattle.forward.proofs.CodeSteps.{first_of_lem, uid_fits_in}
use Rattle.forward.proofs.uid_at.Goals.{After-size_of}
use Rattle.forward.proofs.uid_at.Goals as goal

sized : (c : After-size_of) → c.size_of.result ≡ cell_size c.args.h
sized c = cell_size_lem _ _ c.requires.0 c.size_of.ensures

pub nonzero_rem-result : goal.nonzero_rem-result
nonzero_rem-result c = omega (arith, size_pos _ (valid_known _ c.requires.0), sized (goal.at.nonzero_rem-result c).After-size_of)

pub overflow_add-result : goal.overflow_add-result
overflow_add-result c = let a = c.requires in omega (arith, uid_fits_in _ _ _ _ a.0 a.1 a.2 (sized (goal.at.overflow_add-result c).After-size_of))

pub returns : goal.returns
returns c = rw (first_of_lem _ c.args.me _ (sized (goal.at.returns c).After-size_of))
