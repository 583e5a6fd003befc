-- `forward::step_from` and `forward::reroute` meet their contracts: each hands the other a packet that stands at the server, and the retry falls
-- with each reroute.
use mathlib.Core.Path.{◌∙◌, sym, ap}
use native.Mathlib.Omega.{arith}
use Rattle.forward.specs.declared.Packet.{Packet}
use Rattle.forward.proofs.CodeSteps.{step_goes, step_drops, step_blocked, reroute_last, reroute_misses, reroute_again, turn_retry, step_few, stands_ahead, looked, stands_blocked, stopped_retried, stands_again}
use Rattle.forward.proofs.+reroute_step_from.Goals as goal

pub reroute-returns-then-p-le1 : goal.reroute-returns-then-p-le1
reroute-returns-then-p-le1 t c = c.ended.ensures ∙ sym (reroute_last _ _ _ _ _ _ _ _ c.if-p-le1.true)

pub reroute-turn-requires : goal.reroute-turn-requires
reroute-turn-requires t c = stopped_retried _ _ _ _ _ c.requires _ c.retried.ensures

pub reroute-look-outlook-requires : goal.reroute-look-outlook-requires
reroute-look-outlook-requires t c =
    stands_ahead _ _ _ _ (stands_again _ _ _ _ _ (stopped_retried _ _ _ _ _ c.requires _ c.retried.ensures) _ c.args.arrived _ (sym c.turn.ensures ∙ c.in-Some.is)) _ c.goal.ensures

pub reroute-step_from-requires : goal.reroute-step_from-requires
reroute-step_from-requires t c = (
  omega (arith, turn_retry _ _ _ _ _ _ _ (sym c.turn.ensures ∙ c.in-Some.is), ap (λ (x : Packet). x.retry) c.retried.ensures),
  (
    stands_again _ _ _ _ _ (stopped_retried _ _ _ _ _ c.requires _ c.retried.ensures) _ c.args.arrived _ (sym c.turn.ensures ∙ c.in-Some.is),
    looked _ _ _ _ _ _ _ c.goal.ensures c.look-outlook.ensures,
  ),
)

pub reroute-one_more-requires : goal.reroute-one_more-requires
reroute-one_more-requires t c =
    omega (
      arith,
      step_few _ _ _ _ _ _ _ c.step_from.ensures,
      turn_retry _ _ _ _ _ _ _ (sym c.turn.ensures ∙ c.in-Some.is),
      ap (λ (x : Packet). x.retry) c.retried.ensures,
      c.requires.standing.packet.retry_fits,
    )

pub reroute-returns-in_default : goal.reroute-returns-in_default
reroute-returns-in_default t c =
    reroute_misses _ _ _ _ _ _ c.if-p-le1.false _ c.retried.ensures _ _ c.turn.ensures _ c.in_default.is c.ended-in_default.ensures

pub reroute-returns : goal.reroute-returns
reroute-returns t c =
    reroute_again _ _ _ _ _ _ c.if-p-le1.false _ c.retried.ensures _ _ c.turn.ensures _ c.in-Some.is _ _ c.step_from.ensures c.one_more.ensures

pub step_from-sent-requires : goal.step_from-sent-requires
step_from-sent-requires t c = c.requires.0.alive

pub step_from-reroute-requires : goal.step_from-reroute-requires
step_from-reroute-requires t c =
    (omega arith, stands_blocked _ _ _ _ c.requires.0 _ _ _ c.requires.1 _ c.in-Blocked.is)

pub step_from-returns-in-Next : goal.step_from-returns-in-Next
step_from-returns-in-Next t c =
    step_goes _ _ _ _ _ c.args.arrived _ c.requires.1 _ _ c.in-Next.is c.sent.ensures

pub step_from-returns-in-NoRoute : goal.step_from-returns-in-NoRoute
step_from-returns-in-NoRoute t c =
    step_drops _ _ _ _ _ c.args.arrived _ c.requires.1 _ c.in-NoRoute.is c.ended.ensures

pub step_from-returns-in-Blocked : goal.step_from-returns-in-Blocked
step_from-returns-in-Blocked t c =
    step_blocked _ _ _ _ _ c.args.arrived _ c.requires.1 _ _ c.in-Blocked.is c.reroute.ensures
