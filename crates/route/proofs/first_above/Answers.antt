-- `route::first_above` meets its contract: the search starts with the hall as the DCell, and ends at level b.
use native.Mathlib.Omega.{arith}
use Rattle.route.proofs.Search.{search_starts, search_ends, search_size, search_same, search_apart, ends_fit}
use Rattle.route.proofs.first_above.Goals as goal

pub loop-j-init : goal.loop-j-init
loop-j-init c = search_starts _ _ _ _ _ c.requires

pub nonzero_div-p : goal.nonzero_div-p
nonzero_div-p c = search_size c.loop-j.invariant c.loop-j-test.true

pub nonzero_div-q : goal.nonzero_div-q
nonzero_div-q c = search_size c.loop-j.invariant c.loop-j-test.true

pub nonzero_rem-from : goal.nonzero_rem-from
nonzero_rem-from c = search_size c.loop-j.invariant c.loop-j-test.true

pub nonzero_rem-to : goal.nonzero_rem-to
nonzero_rem-to c = search_size c.loop-j.invariant c.loop-j-test.true

pub overflow_add-far-then-p-q : goal.overflow_add-far-then-p-q
overflow_add-far-then-p-q c = let n = ends_fit c.loop-j.invariant c.loop-j-test.true c.if-p-q.true in omega (arith, n.1, c.port_to.ensures)

pub overflow_add-found : goal.overflow_add-found
overflow_add-found c = let n = ends_fit c.loop-j.invariant c.loop-j-test.true c.if-p-q.true in omega (arith, n.0, c.port_to-out.ensures)

pub loop-j-preserved-then-p-q : goal.loop-j-preserved-then-p-q
loop-j-preserved-then-p-q c = search_apart c.loop-j.invariant c.loop-j-test.true c.if-p-q.true c.port_to-out.ensures c.port_to.ensures

pub loop-j-preserved : goal.loop-j-preserved
loop-j-preserved c = search_same c.loop-j.invariant c.loop-j-test.true c.if-p-q.false

pub returns : goal.returns
returns c = search_ends c.loop-j.invariant c.loop-j-test.false
