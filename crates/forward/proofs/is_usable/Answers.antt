-- `forward::is_usable` meets its contract: a link counts where both its ends are up and both its servers fitted.
use mathlib.Core.Path.{sym, ◌∙◌}
use Rattle.forward.proofs.CodeTables.{crossed_servers, link_shut, link_full, link_fitted}
use Rattle.forward.proofs.is_usable.Goals as goal

pub returns-then-not-is_up_over : goal.returns-then-not-is_up_over
returns-then-not-is_up_over c = let f = c.is_up_over in link_shut _ _ _ _ _ _ _ c.requires f.ensures c.if-not-is_up_over.true

pub returns-then-is_full : goal.returns-then-is_full
returns-then-is_full c =
    let f = c.is_up_over in
    let g = c.is_full in
    link_full _ _ _ _ _ _ _ c.requires f.ensures c.if-not-is_up_over.false (sym g.ensures ∙ c.if-is_full.true)

pub are_fitted-requires : goal.are_fitted-requires
are_fitted-requires c = crossed_servers _ _ _ _ _ _ c.requires

pub returns : goal.returns
returns c =
    let f = c.is_up_over in
    link_fitted _ _ _ _ _ _ _ c.requires f.ensures c.if-not-is_up_over.false _ c.are_fitted.ensures
