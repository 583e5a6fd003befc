-- `forward::forward_step` meets its contract: what it refuses is refused in order, and what it does not refuse is sound.
use mathlib.Core.Path.{refl}
use native.Mathlib.Omega.{arith}
use Rattle.hall.proofs.Stated.{number_not_zero, handed}
use Rattle.forward.proofs.CodeAsks.{no_hall, in_hall_lem, step_refused, step_answered, step_sound}
use Rattle.forward.proofs.forward_step.Goals as goal

pub returns-then-servers-eq0 : goal.returns-then-servers-eq0
returns-then-servers-eq0 c =
    step_refused _ _ _ _ 1 (no_hall _ _ c.servers_of-servers.ensures _ _ _ c.args.packet c.if-servers-eq0.true) (λ z. omega arith) _ refl

pub returns-in_err-refused : goal.returns-in_err-refused
returns-in_err-refused c =
    rw (handed _ c.from_residual.ensures)
    (step_refused _ _ _ _ _ (in_hall_lem _ _ c.servers_of-servers.ensures _ _ _ c.args.packet c.if-servers-eq0.false _ c.step_bytes.ensures _ c.in_err-refused.ensures) (number_not_zero _) _ refl)

pub step_at-requires : goal.step_at-requires
step_at-requires c =
    step_sound _ _ _ _ _ (in_hall_lem _ _ c.servers_of-servers.ensures _ _ _ c.args.packet c.if-servers-eq0.false _ c.step_bytes.ensures _ c.in_ok-refused.ensures) refl

pub returns : goal.returns
returns c =
    step_answered _ _ _ _ _ (in_hall_lem _ _ c.servers_of-servers.ensures _ _ _ c.args.packet c.if-servers-eq0.false _ c.step_bytes.ensures _ c.in_ok-refused.ensures) refl _ c.step_at.ensures
