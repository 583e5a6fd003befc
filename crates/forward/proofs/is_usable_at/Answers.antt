-- `forward::is_usable_at` meets its contract: a link counts where both its ends are up and both its servers fitted.
use mathlib.Core.Path.{sym, ◌∙◌}
use Rattle.forward.proofs.CodeTables.{placed_servers, place_shut, place_full, place_fitted}
use Rattle.forward.proofs.is_usable_at.Goals as goal

pub returns-then-not-is_up_at : goal.returns-then-not-is_up_at
returns-then-not-is_up_at c =
    let a = c.requires in
    let f = c.is_up_at in
    place_shut _ _ _ _ _ _ _ a.0 a.1 f.ensures c.if-not-is_up_at.true

pub returns-then-is_full : goal.returns-then-is_full
returns-then-is_full c =
    let a = c.requires in
    let f = c.is_up_at in
    let g = c.is_full in
    place_full _ _ _ _ _ _ _ a.0 a.1 f.ensures c.if-not-is_up_at.false (sym g.ensures ∙ c.if-is_full.true)

pub are_fitted-requires : goal.are_fitted-requires
are_fitted-requires c = let a = c.requires in placed_servers _ _ _ _ _ _ _ a.0 a.1 c.proxy_of.ensures

pub returns : goal.returns
returns c =
    let a = c.requires in
    let f = c.is_up_at in
    place_fitted _ _ _ _ _ _ _ a.0 a.1 f.ensures c.if-not-is_up_at.false _ c.proxy_of.ensures _ c.are_fitted.ensures
