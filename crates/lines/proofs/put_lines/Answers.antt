-- `lines::put_lines` meets its contract: after each turn some of the lines stand in the room, and those that fit are these and those that fit behind them.
use mathlib.Core.Path.{◌≡◌, refl}
use native.Mathlib.Omega.{arith}
use Rattle.hall.proofs.Stated.{number_not_zero}
use Rattle.lines.proofs.Pieces.{starts, goes_on, ends_full, ends_last}
use Rattle.lines.proofs.put_lines.Goals as goal

pub loop-next-init : goal.loop-next-init
loop-next-init c =
    let a = c.args in
    starts a.sheet.now a.read a.room.now a.from a.count c.requires.2

pub line_at-requires : goal.line_at-requires
line_at-requires c =
    let r = c.requires in
    (r.0, omega (arith, r.1, c.loop-next-test.true))

-- no line more fits
pub returns-in_default : goal.returns-in_default
returns-in_default c =
    let a = c.args in
    let l = c.loop-next in
    let it = ends_full a.sheet.now a.read a.room.now a.from a.count l.room l.next l.end l.invariant c.loop-next-test.true _ c.line_at.new.room (c.in_default.ensures.answer, c.line_at.ensures.room) (number_not_zero _) in
    record { answer = it.0; room = it.1 }

pub loop-next-preserved : goal.loop-next-preserved
loop-next-preserved c =
    let a = c.args in
    let l = c.loop-next in
    goes_on a.sheet.now a.read a.room.now a.from a.count l.room l.next l.end l.invariant c.loop-next-test.true _ c.line_at.new.room (c.in-Ok.ensures.answer, c.line_at.ensures.room) refl

pub returns : goal.returns
returns c =
    let a = c.args in
    let l = c.loop-next in
    let n : l.next ≡ a.count = omega arith in
    let it = ends_last a.sheet.now a.read a.room.now a.from a.count l.room l.next l.end l.invariant (omega arith) c.requires.2 in
    record { answer = rw n at it.0; room = it.1 }
