-- `trace::print_pieces` meets its contract: each turn prints a line at least, so that it comes to the end of the trace.
use Rattle.std.proofs.Common.{◌≡◌, ◌-◌, length}
use Rattle.sheet.specs.Answers.{sheet_of}
use Rattle.lines.specs.Traces.{line_count}
use Rattle.trace.proofs.print_pieces.Given as goal

abbrev pub invariant-loop-piece : goal.invariant-loop-piece
invariant-loop-piece g l = length l.room ≡ length l.initial.room

abbrev pub decreases-loop-piece : goal.decreases-loop-piece
decreases-loop-piece g l = line_count (sheet_of l.sheet) - l.from
