-- `report::lengths::packet_fits` meets its contract: where the longest line fits, every line does.
use mathlib.Core.Path.{sym, ◌∙◌}
use Prim.Native.Nat.{◌+◌}
use native.Mathlib.Omega.{arith}
use lib.ListN.{length}
use borrow.Author.Tests.{leb-true, le-leb}
use Rattle.report.specs.Texts.{packet_line}
use Rattle.report.specs.Rooms.{line_room}
use Rattle.report.proofs.Texts.{packet_line_fits}
use Rattle.report.proofs.lengths.packet_fits.Goals as goal

pub returns-then-room_behind : goal.returns-then-room_behind
returns-then-room_behind c =
    let a = c.args in
    let u = a.uids.now in
    let r = c.room_behind in
    let l = leb-true (a.at + line_room) a.room (sym r.ensures ∙ c.if-room_behind.true) in
    let f = packet_line_fits a.p u (omega arith) (omega arith) (omega arith) (omega arith) (omega arith) (λ i. omega (arith, c.type_inv.uids i)) in
    rw (le-leb (a.at + length (packet_line a.p u)) a.room (omega arith))
