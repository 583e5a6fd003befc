-- `lines::opening_line` meets its contract: the refusal's line, or the hall's.
use Rattle.lines.proofs.Openings.{opening_refused, opening_hall}
use Rattle.lines.proofs.opening_line.Goals as goal

pub returns-then-read-ne0 : goal.returns-then-read-ne0
returns-then-read-ne0 c =
    let a = c.args in
    record { answer = rw (opening_refused a.read c.if-read-ne0.true) c.refused_line.ensures.answer; room = rw (opening_refused a.read c.if-read-ne0.true) c.refused_line.ensures.room }

pub returns : goal.returns
returns c =
    let a = c.args in
    record { answer = rw (opening_hall a.read c.if-read-ne0.false) c.hall_line.ensures.answer; room = rw (opening_hall a.read c.if-read-ne0.false) c.hall_line.ensures.room }
