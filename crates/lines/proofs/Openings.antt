-- Laws of the first line: which of the two it is.
use mathlib.Core.Path.{◌≡◌}
use borrow.Author.Tests.{eq-eqb, ne_eqb}
use Rattle.sheet.specs.declared.Sheet.{Sheet}
use Rattle.report.specs.Texts.{hall_line, refused_line}
use Rattle.lines.specs.Traces.{opening_text}

pub opening_refused : (read : Sheet) → (read.refusal ≡ 0 → ⊥) → opening_text read ≡ refused_line read.refusal read.place
unfolding opening_text
opening_refused read d = rw (ne_eqb read.refusal 0 d)

pub opening_hall : (read : Sheet) → read.refusal ≡ 0 → opening_text read ≡ hall_line read.hall
unfolding opening_text
opening_hall read e = rw (eq-eqb read.refusal 0 e)
