-- `local::met_beside` meets its contract: with port 0 of x down nobody on its switch meets it, else the lowest that gives does.
use mathlib.Core.Path.{sym, ◌∙◌}
use native.Mathlib.Omega.{arith}
use Rattle.hall.proofs.Growth.{valid_known}
use Rattle.local.proofs.Sizes.{size_fits}
use Rattle.local.proofs.Beside.{switch_whole, beside_down, beside_found, beside_missing}
use Rattle.local.proofs.met_beside.Goals as goal

pub returns-then-not-is_up : goal.returns-then-not-is_up
returns-then-not-is_up c =
    beside_down _ (valid_known _ c.requires.0) c.requires.1 _ c.requires.2 _ _ _ c.requires.3 (sym c.is_up.ensures ∙ c.if-not-is_up.true)

pub lowest_giving-i-requires : goal.lowest_giving-i-requires
lowest_giving-i-requires c =
    let v = valid_known _ c.requires.0 in omega (arith, size_fits _ v, switch_whole _ v c.requires.1 _ c.requires.2)

pub returns-then-i-h : goal.returns-then-i-h
returns-then-i-h c =
    beside_found _ (valid_known _ c.requires.0) c.requires.1 _ c.requires.2 _ _ _ c.requires.3 c.lowest_giving-i.ensures c.if-i-h.true c.requires.4
    (sym c.is_up.ensures ∙ c.if-not-is_up.false)

pub returns : goal.returns
returns c = beside_missing _ (valid_known _ c.requires.0) c.requires.1 _ c.requires.2 _ _ _ c.requires.3 c.lowest_giving-i.ensures c.if-i-h.false
