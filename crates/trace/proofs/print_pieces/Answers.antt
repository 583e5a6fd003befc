-- `trace::print_pieces` meets its contract: each turn prints a line at least, so that it comes to the end of the trace.
use mathlib.Core.Path.{refl, sym, ◌∙◌}
use native.Mathlib.Omega.{arith}
use lib.Seq.{length-take-le}
use Rattle.lines.specs.Traces.{piece_told}
use Rattle.lines.proofs.Pieces.{goes_forward}
use Rattle.trace.proofs.print_pieces.Goals as goal

pub loop-piece-init : goal.loop-piece-init
loop-piece-init g c = refl

-- the piece is within the room
pub slice_bounds-write_all-end : goal.slice_bounds-write_all-end
slice_bounds-write_all-end g c =
    let w = c.loop-piece in
    let p = c.trace_piece in
    let f = goes_forward c.args.sheet.now w.from w.room (piece_told c.in-Ok.piece) c.in-Ok.ensures.answer refl in
    omega (arith, f.in_room, p.auto.room)

pub slice_bounds-write_all-end-in-Ok : goal.slice_bounds-write_all-end-in-Ok
slice_bounds-write_all-end-in-Ok g c =
    let p = c.trace_piece in
    sym (length-take-le c.in-Ok.piece.end p.new.room (slice_bounds-write_all-end g c))

pub loop-piece-smaller : goal.loop-piece-smaller
loop-piece-smaller g c =
    let w = c.loop-piece in
    let f = goes_forward c.args.sheet.now w.from w.room (piece_told c.in-Ok.piece) c.in-Ok.ensures.answer refl in
    omega (arith, f.above, f.in_trace)

pub loop-piece-preserved : goal.loop-piece-preserved
loop-piece-preserved g c = c.trace_piece.auto.room ∙ c.loop-piece.invariant
