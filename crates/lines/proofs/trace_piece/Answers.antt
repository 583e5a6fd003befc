-- `lines::trace_piece` meets its contract: refused in order, or as many whole lines as fit.
use mathlib.Core.Path.{refl, sym, ◌∙◌, ap}
use native.Mathlib.Omega.{arith}
use Rattle.sheet.specs.declared.Sheet.{Sheet}
use Rattle.lines.specs.Traces.{piece_told}
use Rattle.lines.proofs.Pieces.{few_packets, piece_range, piece_short, piece_written}
use Rattle.lines.proofs.trace_piece.Goals as goal

pub line_count-count-requires : goal.line_count-count-requires
line_count-count-requires c ok =
    let read = c.read_sheet-read in
    let f = few_packets c.args.sheet.now (sym (ap (λ (x : Sheet). x.refusal) read.ensures) ∙ ok) in
    omega (arith, ap (λ (x : Sheet). x.packets) read.ensures)

pub put_lines-piece-requires : goal.put_lines-piece-requires
put_lines-piece-requires c = (c.read_sheet-read.ensures, c.line_count-count.ensures, omega (arith, c.if-count-from.false))

pub returns-then-count-from : goal.returns-then-count-from
returns-then-count-from c =
    let it = let a = c.args in
    let read = c.read_sheet-read in
    let count = c.line_count-count in
    piece_range a.sheet.now a.from a.room.now read.result count.result read.ensures count.ensures _ c.if-count-from.true refl in record { answer = it.0; room = it.1 }

pub returns-then-piece-from : goal.returns-then-piece-from
returns-then-piece-from c =
    let it = let a = c.args in
    let read = c.read_sheet-read in
    let count = c.line_count-count in
    let p = c.put_lines-piece in
    piece_short a.sheet.now a.from a.room.now read.result count.result read.ensures count.ensures (piece_told p.result) p.new.room (omega (arith, c.if-count-from.false)) (p.ensures.answer, p.ensures.room) c.if-piece-from.true _ refl in record { answer = it.0; room = it.1 }

pub returns : goal.returns
returns c =
    let it = let a = c.args in
    let read = c.read_sheet-read in
    let count = c.line_count-count in
    let p = c.put_lines-piece in
    piece_written a.sheet.now a.from a.room.now read.result count.result read.ensures count.ensures (piece_told p.result) p.new.room (omega (arith, c.if-count-from.false)) (p.ensures.answer, p.ensures.room) c.if-piece-from.false in record { answer = it.0; room = it.1 }
