-- `route::first_above` meets its contract. The invariant: what is found so far, or the first link above b to the goal so far, is the answer.
use Rattle.route.proofs.Search.{Search}
use Rattle.route.proofs.first_above.Given as goal

abbrev pub invariant-loop-j : goal.invariant-loop-j
invariant-loop-j l = Search l.sizes l.b l.k l.x l.y l.found l.first l.from l.to l.j
