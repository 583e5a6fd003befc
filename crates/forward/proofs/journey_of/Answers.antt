-- `forward::journey_of` meets its contract: what it refuses is refused in order, and what it does not refuse may depart.
use mathlib.Core.Path.{refl}
use native.Mathlib.Omega.{arith}
use Rattle.hall.proofs.Stated.{number_not_zero, handed}
use Rattle.ports.proofs.Parts.{bytes_are}
use Rattle.forward.proofs.CodeAsks.{no_hall, in_hall_lem, journey_refused, journey_answered, journey_sound}
use Rattle.forward.proofs.journey_of.Goals as goal

pub returns-then-servers-eq0 : goal.returns-then-servers-eq0
returns-then-servers-eq0 c =
    journey_refused _ _ _ _ 1 (no_hall _ _ c.servers_of-servers.ensures _ _ _ c.args.packet c.if-servers-eq0.true) (λ z. omega arith) _ refl

pub returns-in_err-refused : goal.returns-in_err-refused
returns-in_err-refused c =
    let s = c.servers_of-servers.ensures in
    let n = c.if-servers-eq0.false in
    rw (handed _ c.from_residual.ensures)
    (journey_refused _ _ _ _ _ (in_hall_lem _ _ s _ _ _ c.args.packet n _ (bytes_are _ _ _ s n c.bytes_of.ensures) _ c.in_err-refused.ensures) (number_not_zero _) _ refl)

pub travel-requires : goal.travel-requires
travel-requires c =
    let s = c.servers_of-servers.ensures in
    let n = c.if-servers-eq0.false in
    journey_sound _ _ _ _ _ (in_hall_lem _ _ s _ _ _ c.args.packet n _ (bytes_are _ _ _ s n c.bytes_of.ensures) _ c.in_ok-refused.ensures) refl

pub returns : goal.returns
returns c =
    let s = c.servers_of-servers.ensures in
    let n = c.if-servers-eq0.false in
    journey_answered _ _ _ _ _ (in_hall_lem _ _ s _ _ _ c.args.packet n _ (bytes_are _ _ _ s n c.bytes_of.ensures) _ c.in_ok-refused.ensures) refl _ c.travel.ensures
