-- One outcome of each call about the DCell1s of a hall: each contract equates its result, or the number and the values stated for it, and
-- what is lent to write to at exit, with one definition.
use mathlib.Core.Path.{◌≡◌}
use Rattle.hall.proofs.racks_of.Kinds as racks_of_kinds
use Rattle.hall.proofs.racks_of.Reads as racks_of_reads
use Rattle.plan.proofs.next_prefix.Kinds as next_prefix_kinds
use Rattle.plan.proofs.next_prefix.Reads as next_prefix_reads
use Rattle.plan.proofs.is_fitted.Kinds as is_fitted_kinds
use Rattle.plan.proofs.is_fitted.Reads as is_fitted_reads
use Rattle.plan.proofs.fitted_servers.Kinds as fitted_servers_kinds
use Rattle.plan.proofs.fitted_servers.Reads as fitted_servers_reads
use Rattle.calls_plan.proofs.calls_racks.Kinds as calls_racks_kinds
use Rattle.calls_plan.proofs.calls_racks.Reads as calls_racks_reads
use Rattle.calls_plan.proofs.calls_next_prefix.Kinds as calls_next_prefix_kinds
use Rattle.calls_plan.proofs.calls_next_prefix.Reads as calls_next_prefix_reads
use Rattle.calls_plan.proofs.calls_is_fitted.Kinds as calls_is_fitted_kinds
use Rattle.calls_plan.proofs.calls_is_fitted.Reads as calls_is_fitted_reads
use Rattle.calls_plan.proofs.calls_fitted_servers.Kinds as calls_fitted_servers_kinds
use Rattle.calls_plan.proofs.calls_fitted_servers.Reads as calls_fitted_servers_reads
use Rattle.promises.specs.OneOutcome.{Agrees, OneResult}
use Rattle.promises.proofs.OneOutcome.{one}
use Rattle.promises.proofs.Stated.{prefix_one}

pub racks_of : OneResult 0 racks_of_kinds.ps racks_of_kinds.r racks_of_reads.Learnt
racks_of κs a x y e f = one

pub next_prefix : OneResult 0 next_prefix_kinds.ps next_prefix_kinds.r next_prefix_reads.Learnt
next_prefix κs a x y e f p q = prefix_one x y (one p q)

pub is_fitted : OneResult 0 is_fitted_kinds.ps is_fitted_kinds.r is_fitted_reads.Learnt
is_fitted κs a x y e f = one

pub fitted_servers : OneResult 0 fitted_servers_kinds.ps fitted_servers_kinds.r fitted_servers_reads.Learnt
fitted_servers κs a x y e f = one

pub calls_racks : OneResult 0 calls_racks_kinds.ps calls_racks_kinds.r calls_racks_reads.Learnt
calls_racks κs a x y e f = one

pub calls_next_prefix : Agrees 1 calls_next_prefix_kinds.ps calls_next_prefix_kinds.r calls_next_prefix_reads.Learnt (λ κs x y e f. (x ≡ y) × (e.1.1.1.1.0.now ≡ f.1.1.1.1.0.now))
calls_next_prefix κs a x y e f p q = (one p.0 q.0, one p.1 q.1)

pub calls_is_fitted : OneResult 0 calls_is_fitted_kinds.ps calls_is_fitted_kinds.r calls_is_fitted_reads.Learnt
calls_is_fitted κs a x y e f = one

pub calls_fitted_servers : OneResult 0 calls_fitted_servers_kinds.ps calls_fitted_servers_kinds.r calls_fitted_servers_reads.Learnt
calls_fitted_servers κs a x y e f = one
