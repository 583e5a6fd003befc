-- `cells::joined::end_at` meets its contract, and its sum fits 64 bits.
use native.Mathlib.Omega.{arith}
use Rattle.cells.proofs.Wide.{times_fits, port_below}
use Rattle.cells.proofs.joined.end_at.Goals as goal

pub overflow_add-result : goal.overflow_add-result
overflow_add-result c =
    let a = c.args in
    omega (arith, times_fits a.p a.t (omega arith) (omega arith), port_below a.p a.q a.t (omega arith), c.port_towards.ensures)

pub overflow_add-result-2 : goal.overflow_add-result-2
overflow_add-result-2 c =
    let a = c.args in
    omega (arith, times_fits a.p a.t (omega arith) (omega arith), port_below a.p a.q a.t (omega arith), c.port_towards.ensures)
