-- `forward::turn` meets its contract: it goes by the link and by the choice as the definition does.
use Rattle.forward.specs.Inside.{turn_of}
use Rattle.forward.proofs.CodeSteps.{level_low, level_above, placed}
use Rattle.forward.proofs.turn.Goals as goal

pub first_level-requires : goal.first_level-requires
first_level-requires c = level_low _ _ _ _ _ c.requires _ _ _ c.in-Some.is

pub choose-requires : goal.choose-requires
choose-requires c =
    let a = c.requires in
    (a.standing.here, level_above _ _ _ _ _ a _ _ _ c.in-Some.is _ _ c.first_level.ensures)

pub proxy_of-requires : goal.proxy_of-requires
proxy_of-requires c =
    placed _ _ _ _ _ c.requires _ _ _ c.in-Some.is c.args.arrived _ c.first_level.ensures
    _ _ c.choose.ensures c.in_ok-found-in-Some.found.place c.in_ok-found-in-Some.found.level c.in_ok-found-in-Some.was

pub returns-in-None : goal.returns-in-None
unfolding turn_of
returns-in-None c = rw (c.in-None.is, c.cleared.ensures)

pub returns-in_err-found-in-Some : goal.returns-in_err-found-in-Some
unfolding turn_of
returns-in_err-found-in-Some c = rw (c.from_residual.ensures, c.in-Some.is, ← c.first_level.ensures, ← c.choose.ensures, c.in_err-found-in-Some.was)

pub returns-in_ok-found-in-Some : goal.returns-in_ok-found-in-Some
unfolding turn_of
returns-in_ok-found-in-Some c = rw (c.in-Some.is, ← c.first_level.ensures, ← c.choose.ensures, c.in_ok-found-in-Some.was, c.proxied.ensures, c.proxy_of.ensures)
