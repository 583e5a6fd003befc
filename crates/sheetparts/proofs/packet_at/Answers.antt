-- `sheetparts::packet_at` meets its contract: the sheet's refusal decides, then the number of packets, and then the bytes.
use mathlib.Core.Path.{◌∙◌}
use Rattle.sheetparts.proofs.Parts.{packet_of_refused, packet_past, packet_answered}
use Rattle.sheetparts.proofs.packet_at.Goals as goal

pub returns-then-whole-ne0 : goal.returns-then-whole-ne0
returns-then-whole-ne0 c =
    let r = c.read_sheet-whole in
    c.packet_refused.ensures ∙ packet_of_refused _ r.result r.ensures c.args.i c.if-whole-ne0.true

pub returns-then-whole-i : goal.returns-then-whole-i
returns-then-whole-i c =
    let r = c.read_sheet-whole in
    c.packet_refused-then-whole-i.ensures ∙ packet_past _ r.result r.ensures c.args.i c.if-whole-ne0.false c.if-whole-i.true

pub returns : goal.returns
returns c =
    let r = c.read_sheet-whole in
    c.packet_fields.ensures ∙ packet_answered _ r.result r.ensures c.args.i c.if-whole-ne0.false c.if-whole-i.false
