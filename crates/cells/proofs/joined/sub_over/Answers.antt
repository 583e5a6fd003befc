-- `cells::joined::sub_over` meets its contract: the sub-cell's index is the remainder of its number.
use Rattle.cells.proofs.Wide.{sub_over_lem}
use Rattle.cells.proofs.joined.sub_over.Goals as goal

pub returns : goal.returns
returns c = sub_over_lem c.args.size c.args.uid
