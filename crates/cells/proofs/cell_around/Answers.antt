-- `cells::cell_around` meets its contract: the cell's first uid is its number times its size.
use mathlib.Core.Path.{◌≡◌, sym}
use native.Mathlib.Omega.{arith}
use Rattle.hall.specs.Cells.{t, cell}
use Rattle.hall.proofs.Growth.{valid_pos, size_of_lem}
use Rattle.cells.proofs.Asks.{SoundLevel, level_known}
use Rattle.cells.proofs.cell_around.Goals.{After-size_of-count, In_ok-refused_level}
use Rattle.cells.proofs.cell_around.Goals as goal

known : (c : In_ok-refused_level) → let a = c.args in SoundLevel a.h a.uid 0 a.level
known c = level_known _ _ _ _ (sym c.in_ok-refused_level.ensures)

sized : (c : After-size_of-count) → let a = c.args in c.size_of-count.result ≡ t a.h.n a.level
sized c = let k = known c.before in size_of_lem _ _ _ k.sound k.high c.size_of-count.ensures

pub nonzero_div-result : goal.nonzero_div-result
nonzero_div-result c = let k = known (goal.at.nonzero_div-result c).In_ok-refused_level in omega (arith, valid_pos _ k.known c.args.level, sized (goal.at.nonzero_div-result c).After-size_of-count)

pub returns : goal.returns
unfolding cell
returns c = rw (← c.in_ok-refused_level.ensures, sized (goal.at.returns c).After-size_of-count)
