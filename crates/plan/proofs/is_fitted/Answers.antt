-- `plan::is_fitted` meets its contract: no server of a hall that there is not; where the fitted ones are the first, their number decides; else the
-- rank of the server's DCell1.
use mathlib.Core.Path.{◌≡◌}
use mathlib.Core.Bool.{true}
use Rattle.hall.specs.Halls.{valid}
use Rattle.hall.proofs.Growth.{valid_known}
use Rattle.plan.proofs.Asks.{no_hall, some_hall, count_servers, first_decides}
use Rattle.plan.proofs.is_fitted.Goals.{Else-size_of-eq0}
use Rattle.plan.proofs.is_fitted.Goals as goal

known : (c : Else-size_of-eq0) → valid c.args.h ≡ true
known c = some_hall _ _ c.size_of.ensures c.if-size_of-eq0.false

pub returns-then-size_of-eq0 : goal.returns-then-size_of-eq0
returns-then-size_of-eq0 c = no_hall _ _ _ c.size_of.ensures c.if-size_of-eq0.true

pub first_fitted-requires : goal.first_fitted-requires
first_fitted-requires c = (valid_known _ (known (goal.at.first_fitted-requires c).Else-size_of-eq0)).n_high

pub servers_in-requires : goal.servers_in-requires
servers_in-requires c = let v = known (goal.at.servers_in-requires c).Else-size_of-eq0 in ((valid_known _ v).n_high, count_servers _ v)

pub returns-then-first_fitted : goal.returns-then-first_fitted
returns-then-first_fitted c =
    let f = c.first_fitted in
    first_decides _ (known (goal.at.returns-then-first_fitted c).Else-size_of-eq0) f.result f.ensures c.if-first_fitted.true _ _ c.servers_in.ensures

pub ranks_below-requires : goal.ranks_below-requires
ranks_below-requires c = known (goal.at.ranks_below-requires c).Else-size_of-eq0
