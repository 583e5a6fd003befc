-- `plan::fitted_servers` meets its contract: the DCell2 around a server has t(1) + 1 DCell1s, all of the hall.
use Prim.Native.Nat.{◌+◌, ◌*◌, ◌≤◌}
use native.Mathlib.Nat.{mul-le-mul_right}
use native.Mathlib.Omega.{arith}
use Rattle.hall.proofs.Racks.{one_is}
use Rattle.plan.proofs.Front.{Two, two, two_is, front_most}
use Rattle.plan.proofs.fitted_servers.Goals.{Else-servers_of-uid}
use Rattle.plan.proofs.fitted_servers.Goals as goal

at : (c : Else-servers_of-uid) → let a = c.args in Two a.h a.uid ((a.h.n + 1) * a.h.n)
at c =
    let a = c.args in
    two a.h a.uid _ _ c.servers_of.ensures (omega arith) (omega arith) (one_is a.h.n)

pub overflow_add-size : goal.overflow_add-size
overflow_add-size c = omega (arith, (at (goal.at.overflow_add-size c).Else-servers_of-uid).n_fits_lem)

pub overflow_mul-size : goal.overflow_mul-size
overflow_mul-size c = omega (arith, (at (goal.at.overflow_mul-size c).Else-servers_of-uid).size_fits)

pub overflow_add-cell : goal.overflow_add-cell
overflow_add-cell c = omega (arith, (at (goal.at.overflow_add-cell c).Else-servers_of-uid).size_fits)

pub overflow_mul-cell : goal.overflow_mul-cell
overflow_mul-cell c = omega (arith, (at (goal.at.overflow_mul-cell c).Else-servers_of-uid).cell_fits)

pub nonzero_div-uid : goal.nonzero_div-uid
nonzero_div-uid c = (at (goal.at.nonzero_div-uid c).Else-servers_of-uid).cell_pos

pub overflow_add-size-2 : goal.overflow_add-size-2
overflow_add-size-2 c = omega (arith, (at (goal.at.overflow_add-size-2 c).Else-servers_of-uid).size_fits)

pub fitted_racks-requires : goal.fitted_racks-requires
fitted_racks-requires c = (at (goal.at.fitted_racks-requires c).Else-servers_of-uid).racks

pub overflow_mul-result : goal.overflow_mul-result
overflow_mul-result c =
    let a = c.args in
    let f = at (goal.at.overflow_mul-result c).Else-servers_of-uid in
    let b : c.fitted_racks.result ≤ (a.h.n + 1) * a.h.n + 1 = rw c.fitted_racks.ensures (front_most a.h _ _) in
    omega (arith, mul-le-mul_right ((a.h.n + 1) * a.h.n) b, f.cell_fits)

pub returns : goal.returns
returns c =
    let a = c.args in
    two_is a.h a.uid _ _ c.servers_of.ensures (omega arith) (omega arith) (one_is a.h.n) _ c.fitted_racks.ensures
