-- `cells::tuple_fits` meets its contract: it asks of all places.
use mathlib.Core.Path.{◌∙◌, refl}
use native.Mathlib.Omega.{arith}
use borrow.Author.Tests.{tests}
use Rattle.std.proofs.Common.{rules}
use Rattle.std.proofs.lemmas.Iterator.{YieldsList-from_range}
use Rattle.std.proofs.lemmas.Iterator.Search.{all_from_yields_List}
use Rattle.hall.specs.Halls.{places}
use Rattle.hall.specs.Tuples.{entry_fits, tuple_fits}
use Rattle.cells.proofs.Ranges.{all_range}
use Rattle.cells.proofs.tuple_fits.Goals as goal

pub returns : goal.returns
unfolding tuple_fits
returns c =
    let a = c.args in
    all_from_yields_List (entry_fits a.n a.k a.entries) _ _ _ c.all.ensures.ran
    (YieldsList-from_range 0 places places refl (omega arith)) (λ x b q k. search (rules, tests))
    ∙ all_range (entry_fits a.n a.k a.entries) places
