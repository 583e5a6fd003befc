-- `hall::size_of` meets its contract: a valid hall has its sizes, up to level k.
use mathlib.Core.Path.{sym, ◌∙◌}
use Rattle.hall.specs.Answers.{size_of}
use Rattle.hall.proofs.Growth.{valid_known, sized_below, size_at_lem, size_above}
use Rattle.hall.proofs.size_of.Goals as goal

pub returns-then-not-is_valid : goal.returns-then-not-is_valid
unfolding size_of
returns-then-not-is_valid c = let v = c.is_valid in rw (← v.ensures, c.if-not-is_valid.true)

pub returns-then-h-i : goal.returns-then-h-i
unfolding size_of
returns-then-h-i c =
    let v = c.is_valid in
    rw (← v.ensures, c.if-not-is_valid.false, size_above _ _ _ c.if-h-i.true)

pub size-requires : goal.size-requires
size-requires c =
    let v = c.is_valid in
    let k = valid_known _ (sym v.ensures ∙ c.if-not-is_valid.false) in
    sized_below _ _ _ k.sized c.if-h-i.false

pub returns : goal.returns
unfolding size_of
returns c =
    let v = c.is_valid in
    rw (← v.ensures, c.if-not-is_valid.false, size_at_lem _ _ _ c.if-h-i.false) c.size.ensures
