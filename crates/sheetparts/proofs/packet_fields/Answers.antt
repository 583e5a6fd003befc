-- `sheetparts::packet_fields` meets its contract: the bytes are there, at the place that the count and i give, or they are not.
use mathlib.Core.Path.{◌∙◌}
use Prim.Native.Nat.{◌+◌, ◌*◌}
use native.Mathlib.Omega.{arith}
use Rattle.words.proofs.Words.{word_there}
use Rattle.sheetparts.proofs.Parts.{count_read, packet_there_lem}
use Rattle.sheetparts.proofs.packet_fields.Goals as goal

pub returns : goal.returns
returns c =
    let w = c.word_at-count in
    let p = c.codes_place-place in
    let a = c.args in
    let at = p.result + w.result + 4 + 10 * a.i in
    let e = count_read a.sheet.now p.result w.result p.ensures (omega arith) w.ensures in
    packet_there_lem a.sheet.now a.i at _ _ (rw (e, p.ensures)) (omega arith)
    (c.word_at.ensures ∙ word_there a.sheet.now at (omega arith))
    (c.word_at-2.ensures ∙ word_there a.sheet.now (at + 4) (omega arith))
