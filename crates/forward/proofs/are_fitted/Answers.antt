-- `forward::are_fitted` meets its contract: the near server is asked for, and then the far one where it can be of another DCell1.
use Rattle.forward.proofs.CodeTables.{first_unfitted, first_fitted_lem, second_fitted}
use Rattle.forward.proofs.are_fitted.Goals as goal

pub returns-then-not-is_fitted : goal.returns-then-not-is_fitted
returns-then-not-is_fitted c = let f = c.is_fitted in first_unfitted _ _ _ _ c.requires _ f.ensures c.if-not-is_fitted.true

pub returns-then-level-lt2 : goal.returns-then-level-lt2
returns-then-level-lt2 c =
    let f = c.is_fitted in
    first_fitted_lem _ _ _ _ c.requires _ f.ensures c.if-not-is_fitted.false c.if-level-lt2.true

pub returns : goal.returns
returns c =
    let f = c.is_fitted in
    second_fitted _ _ _ _ c.requires _ f.ensures c.if-not-is_fitted.false _ c.is_fitted-2.ensures
