-- `header::writing::count_of` meets its contract: a header has a row more where it has a proxy.
use Rattle.frame.specs.Layout.{more_of}
use Rattle.header.proofs.writing.count_of.Goals as goal

pub returns-then-fields : goal.returns-then-fields
unfolding more_of
returns-then-fields c = rw c.if-fields.true

pub returns : goal.returns
unfolding more_of
returns c = rw c.if-fields.false
