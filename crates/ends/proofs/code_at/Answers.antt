-- `ends::code_at` meets its contract: the index is the definition's and fits, and a byte that the table has not is no port.
use lib.ListN.{get_or-eq_default}
use borrow.Author.Tests.{le-leb}
use Prim.Native.Nat.{ℕ}
use Rattle.ports.specs.Codes.{code_of}
use Rattle.ends.proofs.code_at.Goals as goal

pub returns-then-at-table : goal.returns-then-at-table
unfolding code_of
returns-then-at-table c = rw (le-leb c.args.port c.args.h.k c.requires)

pub returns : goal.returns
unfolding code_of
returns c = rw (le-leb c.args.port c.args.h.k c.requires, get_or-eq_default {A = ℕ} c.args.table.now 0 c.if-at-table.false)
