-- `cells::tuple_of` meets its contract: a valid hall's uid has its entries.
use mathlib.Core.Path.{sym}
use Rattle.cells.proofs.Asks.{uid_known}
use Rattle.cells.proofs.tuple_of.Goals as goal

pub entries_up_to-requires : goal.entries_up_to-requires
entries_up_to-requires c = let k = (uid_known _ _ (sym c.in_ok-refused_uid.ensures)).known in (k.n_low, k.sized)
