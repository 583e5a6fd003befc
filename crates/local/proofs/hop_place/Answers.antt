-- `local::hop_place` meets its contract: over a usable link the target is the next hop; else a lone switch has none, nor has the target itself,
-- and the search decides.
use mathlib.Core.Path.{sym, ◌∙◌}
use mathlib.Core.Logic.{inl}
use Rattle.hall.proofs.Growth.{valid_known}
use Rattle.local.proofs.Sizes.{cell_size_lem, size_switch}
use Rattle.local.proofs.Hops.{hop_none}
use Rattle.local.proofs.Direct.{hop_direct, hop_lone}
use Rattle.local.proofs.hop_place.Goals as goal

pub returns-then-is_linked : goal.returns-then-is_linked
returns-then-is_linked c =
    sym (hop_direct _ _ (valid_known _ c.requires.0) _ _ c.requires.1 c.requires.2
    (sym c.is_linked.ensures ∙ c.if-is_linked.true))

pub returns-then-h-eq0 : goal.returns-then-h-eq0
returns-then-h-eq0 c =
    sym (hop_lone _ _ (valid_known _ c.requires.0) _ _ c.requires.1 c.requires.2 c.if-h-eq0.true
    (sym c.is_linked.ensures ∙ c.if-is_linked.false) ∙ size_switch _ c.if-h-eq0.true)

pub returns-then-x-y : goal.returns-then-x-y
returns-then-x-y c =
    cell_size_lem _ _ c.requires.0 c.size_of.ensures
    ∙ sym (hop_none _ _ (valid_known _ c.requires.0) _ _ c.requires.1 c.requires.2 (inl c.if-x-y.true))
