-- `forward::is_candidate` meets its contract: a place at another distance need not be usable.
use borrow.Author.Tests.{eq-eqb, ne_eqb}
use Rattle.forward.proofs.is_candidate.Goals as goal

pub returns-then-x-d : goal.returns-then-x-d
returns-then-x-d c = rw (ne_eqb _ _ c.if-x-d.true)

pub returns : goal.returns
returns c = rw (eq-eqb _ _ c.if-x-d.false) c.is_usable_at.ensures
