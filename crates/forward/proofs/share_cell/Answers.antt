-- `forward::share_cell` meets its contract: a cell's number is a uid over the cell's size.
use mathlib.Core.Path.{◌≡◌}
use native.Mathlib.Omega.{arith}
use Rattle.hall.specs.Cells.{same, cell}
use Rattle.hall.proofs.Growth.{valid_known}
use Rattle.local.specs.Local.{cell_size}
use Rattle.local.proofs.Sizes.{size_pos}
use Rattle.forward.proofs.share_cell.Goals.{After-cell_size-count}
use Rattle.forward.proofs.share_cell.Goals as goal

sized : (c : After-cell_size-count) → c.cell_size-count.result ≡ cell_size c.args.h
sized c = c.cell_size-count.ensures

pub nonzero_div-result : goal.nonzero_div-result
nonzero_div-result c = omega (arith, size_pos _ (valid_known _ c.requires), sized (goal.at.nonzero_div-result c).After-cell_size-count)

pub nonzero_div-result-2 : goal.nonzero_div-result-2
nonzero_div-result-2 c = omega (arith, size_pos _ (valid_known _ c.requires), sized (goal.at.nonzero_div-result-2 c).After-cell_size-count)

pub returns : goal.returns
unfolding same cell cell_size
returns c = rw (sized (goal.at.returns c).After-cell_size-count)
