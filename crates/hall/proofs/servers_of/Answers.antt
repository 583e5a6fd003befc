-- `hall::servers_of` meets its contract: a valid hall has its sizes.
use mathlib.Core.Path.{sym, ◌∙◌}
use Rattle.hall.specs.Halls.{servers}
use Rattle.hall.proofs.Growth.{valid_known}
use Rattle.hall.proofs.servers_of.Goals as goal

pub returns-then-not-is_valid : goal.returns-then-not-is_valid
returns-then-not-is_valid c = let v = c.is_valid in rw (← v.ensures, c.if-not-is_valid.true)

pub size-requires : goal.size-requires
size-requires c =
    let v = c.is_valid in
    (valid_known _ (sym v.ensures ∙ c.if-not-is_valid.false)).sized

pub returns : goal.returns
unfolding servers
returns c = let v = c.is_valid in rw (← v.ensures, c.if-not-is_valid.false) c.size.ensures
