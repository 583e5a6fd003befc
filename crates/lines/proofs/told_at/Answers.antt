-- `lines::told_at` meets its contract: the line of the packet and its journey.
use Rattle.forward.specs.Answers.{journey_told}
use Rattle.lines.proofs.Accepted.{journey_there}
use Rattle.lines.proofs.Journeys.{text_told}
use Rattle.lines.proofs.told_at.Goals as goal

pub unreachable-requires : goal.unreachable-requires
unreachable-requires c =
    let r = c.requires in
    journey_there _ c.args.read r.0 r.1 _ r.2 _ (rw c.in_default.is at c.journey_at.ensures)

pub returns : goal.returns
returns c =
    let a = c.args in
    let p = c.packet_fields-p in
    let o = c.told_line.ensures in
    let e = text_told a.sheet.now a.read a.i p.result (journey_told c.in-Ok.j) p.ensures (rw c.in-Ok.is at c.journey_at.ensures) in
    record { answer = rw e at o.answer; room = rw e at o.room }
