-- `lines::journey_line` meets its contract: refused in order, or the line of the packet's journey.
use mathlib.Core.Path.{refl, sym, ◌∙◌, ap}
use native.Mathlib.Omega.{arith}
use Rattle.hall.proofs.Stated.{number_not_zero}
use Rattle.forward.specs.Answers.{JourneyAnswer, journey_told}
use Rattle.report.specs.Rooms.{no_line}
use Rattle.lines.specs.Traces.{written_by_number}
use Rattle.lines.proofs.Journeys.{refused_sheet, refused_range, refused_journey_lem, text_told, line_refused, line_told, line_numbered}
use Rattle.lines.proofs.journey_line.Goals as goal

pub returns-then-read-ne0 : goal.returns-then-read-ne0
returns-then-read-ne0 c =
    let a = c.args in
    let d = c.if-read-ne0.true in
    let it = line_refused a.room.now a.at _ _ _ _ (refused_sheet a.sheet.now a.read a.i d) d refl in record { answer = it.0; room = it.1 }

pub returns-then-read-i : goal.returns-then-read-i
returns-then-read-i c =
    let a = c.args in
    let it = line_refused a.room.now a.at _ _ _ _ (refused_range a.sheet.now a.read a.i c.if-read-ne0.false c.if-read-i.true) (λ z. omega arith) (ap no_line c.number.ensures) in
    record { answer = it.0; room = it.1 }

pub returns-in-Ok : goal.returns-in-Ok
returns-in-Ok c =
    let a = c.args in
    let p = c.packet_fields-p in
    let o = c.told_line.ensures in
    let j = rw c.in-Ok.is at c.journey_at.ensures in
    let e = refused_journey_lem a.sheet.now a.read a.i c.if-read-ne0.false (omega (arith, c.if-read-i.false)) in
    let f = text_told a.sheet.now a.read a.i p.result (journey_told c.in-Ok.j) p.ensures j in
    let w = line_numbered _ _ c.map_err.ensures.cases in
    let it = line_told a.room.now a.at _ _ 0 (written_by_number c.map_err.result) _ (e ∙ sym (ap (λ (x : JourneyAnswer). x.refusal) j)) refl
    (w ∙ rw f at o.answer, rw f at o.room) in
    record { answer = it.0; room = it.1 }

pub returns-in-Err : goal.returns-in-Err
returns-in-Err c =
    let a = c.args in
    let e = refused_journey_lem a.sheet.now a.read a.i c.if-read-ne0.false (omega (arith, c.if-read-i.false)) in
    let it = line_refused a.room.now a.at _ _ _ _ (e ∙ sym (ap (λ (x : JourneyAnswer). x.refusal) (rw c.in-Err.is at c.journey_at.ensures))) (number_not_zero _) (ap no_line c.number-in-Err.ensures) in
    record { answer = it.0; room = it.1 }
