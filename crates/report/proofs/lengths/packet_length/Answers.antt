-- `report::lengths::packet_length` meets its contract: the head, the uids that are told and the newline.
use native.Mathlib.Omega.{arith}
use Rattle.report.proofs.Texts.{line_told}
use Rattle.report.proofs.lengths.packet_length.Goals as goal

pub returns : goal.returns
returns c =
    let a = c.args in
    let n = c.passed in
    omega (arith, c.head_length.ensures.length, c.uids_length.ensures.length, line_told a.p a.uids.now n.result n.ensures)
