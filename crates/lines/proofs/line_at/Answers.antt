-- `lines::line_at` meets its contract: the first line, the line of a packet's journey, or the last.
use mathlib.Core.Path.{◌∙◌, ap}
use Prim.Native.Nat.{ℕ}
use native.Mathlib.Omega.{arith}
use Rattle.lines.specs.Traces.{line_text}
use Rattle.lines.proofs.Lines.{count_more, line_first, line_journey, line_end}
use Rattle.lines.proofs.line_at.Goals as goal

pub returns-then-i-eq0 : goal.returns-then-i-eq0
returns-then-i-eq0 c =
    let a = c.args in
    let e = ap (λ (i : ℕ). line_text a.sheet.now a.read i) c.if-i-eq0.true ∙ line_first a.sheet.now a.read in
    record { answer = rw e c.opening_line.ensures.answer; room = rw e c.opening_line.ensures.room }

-- a line behind the first is that of a packet only where the sheet is accepted
pub told_at-requires : goal.told_at-requires
told_at-requires c =
    let a = c.args in
    let r = c.requires in
    let ok = count_more a.read a.i (omega (arith, c.if-i-eq0.false)) r.1 in
    (r.0, ok, omega (arith, c.if-i-read.true, c.if-i-eq0.false))

pub returns-then-i-read : goal.returns-then-i-read
returns-then-i-read c =
    let a = c.args in
    let e = line_journey a.sheet.now a.read a.i (omega (arith, c.if-i-eq0.false)) c.if-i-read.true in
    record { answer = rw e c.told_at.ensures.answer; room = rw e c.told_at.ensures.room }

pub returns : goal.returns
returns c =
    let a = c.args in
    let e = line_end a.sheet.now a.read a.i (omega (arith, c.if-i-read.false)) in
    record { answer = rw e c.end_line.ensures.answer; room = rw e c.end_line.ensures.room }
