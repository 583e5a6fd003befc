-- `plan::ranks_below` meets its contract: a server is fitted where the rank of its DCell1 is below the count.
use native.Mathlib.Omega.{arith}
use Rattle.hall.proofs.Growth.{valid_known, sized_below}
use Rattle.plan.proofs.Asks.{fitted_low, fitted_rank}
use Rattle.plan.proofs.ranks_below.Goals as goal

pub returns-then-h-lt2 : goal.returns-then-h-lt2
returns-then-h-lt2 c = fitted_low c.args.h c.args.uid _ c.servers_of.ensures (omega arith) (omega arith)

pub rank_of-requires : goal.rank_of-requires
rank_of-requires c =
    let v = valid_known _ c.requires in
    (omega (arith, v.n_low), sized_below _ _ _ v.sized (omega arith))

pub returns : goal.returns
returns c =
    fitted_rank c.args.h c.args.uid _ c.servers_of.ensures (omega arith) _ c.rank_of.ensures
