-- `forward::refused` meets its contract: the table is asked first, then the packet.
use Rattle.forward.proofs.CodeAsks.{refuses_length, refuses_packet}
use Rattle.forward.proofs.refused.Goals as goal

pub returns-then-table-bytes : goal.returns-then-table-bytes
returns-then-table-bytes c = let a = c.args in refuses_length a.bytes a.table.now a.servers a.uid a.p c.if-table-bytes.true

pub returns : goal.returns
returns c =
    let a = c.args in
    refuses_packet a.bytes a.table.now a.servers a.uid a.p c.if-table-bytes.false _ c.refused_packet.ensures
