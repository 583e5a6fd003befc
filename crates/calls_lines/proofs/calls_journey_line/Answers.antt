-- `calls_lines::calls_journey_line` meets its contract: a refusal is told by its number, which is not 0, and the end stays as lent.
use mathlib.Core.Path.{refl}
use borrow.Author.Tests.{ne_eqb}
use Rattle.lines.proofs.Journeys.{refused_by_some}
use Rattle.calls_lines.proofs.calls_journey_line.Goals as goal

pub returns-in-Err-clause-end : goal.returns-in-Err-clause-end
returns-in-Err-clause-end c =
    let e = c.in-Err.ensures.answer in
    let n = ne_eqb c.in-Err.number 0 (refused_by_some _ _ _ _ _ _ e) in
    rw (← c.read_sheet-read.ensures, ← e, n) refl
