-- `local::lowest_met` meets its contract: who meets x is on its switch or across its link of level 1, and the lower find counts.
use mathlib.Core.Path.{◌∙◌}
use Rattle.hall.proofs.Growth.{valid_known}
use Rattle.local.specs.Local.{cell_size}
use Rattle.local.specs.Looks.{met_by, beside_by, across_by}
use Rattle.local.proofs.Lowest.{lowest_lower}
use Rattle.local.proofs.Beside.{met_either}
use Rattle.local.proofs.lowest_met.Goals as goal

pub returns : goal.returns
returns c =
    let a = c.args in
    c.min.ensures
    ∙ lowest_lower (beside_by a.h a.table.now a.d.now a.r a.x) (across_by a.h a.table.now a.d.now a.r a.x) (met_by a.h a.table.now a.d.now a.r a.x) (cell_size a.h)
    (λ z l. met_either _ (valid_known _ c.requires.0) c.requires.1 _ c.requires.2 _ _ _ z)
    _ _ c.met_beside-beside.ensures c.met_across-across.ensures
