-- `cells::refused_level` meets its contract: what is refused before the level is refused with it, and then the level decides.
use mathlib.Core.Path.{sym}
use Rattle.hall.proofs.Stated.{number_not_zero}
use Rattle.cells.proofs.Asks.{level_later, level_low, level_high, level_sound}
use Rattle.hall.proofs.Stated.{handed}
use Rattle.cells.proofs.refused_level.Goals as goal

pub returns-in_err-refused_uid : goal.returns-in_err-refused_uid
returns-in_err-refused_uid c =
    let a = c.args in
    rw (handed _ c.from_residual.ensures) (level_later a.h a.uid a.lowest a.level _ c.in_err-refused_uid.ensures (number_not_zero _))

pub returns-then-level-lowest : goal.returns-then-level-lowest
returns-then-level-lowest c = level_low _ _ _ _ (sym c.in_ok-refused_uid.ensures) c.if-level-lowest.true

pub returns-then-h-level : goal.returns-then-h-level
returns-then-h-level c = level_high _ _ _ _ (sym c.in_ok-refused_uid.ensures) c.if-h-level.true

pub returns : goal.returns
returns c = level_sound _ _ _ _ (sym c.in_ok-refused_uid.ensures) c.if-level-lowest.false c.if-h-level.false
