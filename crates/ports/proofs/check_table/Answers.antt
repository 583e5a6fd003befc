-- `ports::check_table` meets its contract: the place of a code is one of a table that is no longer than the largest.
use native.Mathlib.Omega.{arith}
use Rattle.hall.proofs.Growth.{some_servers}
use Rattle.ports.proofs.Parts.{bytes_are, table_fits}
use Rattle.ports.proofs.check_table.Goals as goal

pub overflow_cast-result : goal.overflow_cast-result
overflow_cast-result c =
    let s = c.servers_of-servers in
    let ne = c.if-servers-eq0.false in
    let l = bytes_are _ _ _ s.ensures ne c.bytes_of.ensures in
    omega (arith, l, table_fits _ (some_servers _ _ s.ensures ne))
