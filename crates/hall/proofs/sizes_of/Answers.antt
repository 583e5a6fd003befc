-- `hall::sizes_of` meets its contract: a valid hall has its sizes.
use mathlib.Core.Path.{sym, ◌∙◌}
use Rattle.hall.specs.Refusals.{refusal}
use Rattle.hall.proofs.Growth.{valid_known}
use Rattle.hall.proofs.sizes_of.Goals as goal

pub returns-then-not-is_valid : goal.returns-then-not-is_valid
unfolding refusal
returns-then-not-is_valid c = let v = c.is_valid in rw (← v.ensures, c.if-not-is_valid.true)

pub sizes_up_to-requires : goal.sizes_up_to-requires
sizes_up_to-requires c =
    let v = c.is_valid in
    (valid_known _ (sym v.ensures ∙ c.if-not-is_valid.false)).sized

pub returns : goal.returns
unfolding refusal
returns c = let v = c.is_valid in rw (← v.ensures, c.if-not-is_valid.false, c.sizes_up_to.ensures)
