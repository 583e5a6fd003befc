-- `forward::is_open` meets its contract: the near code decides where it is not up, else the far one.
use native.Mathlib.Omega.{arith}
use Rattle.forward.proofs.CodeTables.{far_there, open_not, open_far}
use Rattle.forward.proofs.is_open.Goals as goal

pub returns-then-not-is_up : goal.returns-then-not-is_up
returns-then-not-is_up c = let f = c.is_up in open_not _ _ _ c.requires.0 _ _ f.ensures c.if-not-is_up.true

pub bounds-table-at : goal.bounds-table-at
bounds-table-at c =
    omega (arith, c.far_place-at.ensures, far_there _ _ _ c.requires.0 c.args.table.now c.requires.1)

pub returns : goal.returns
returns c =
    let f = c.is_up in
    open_far _ _ _ c.requires.0 _ _ f.ensures c.if-not-is_up.false _ c.far_place-at.ensures
