-- `lines::put_lines` meets its contract: after each turn some of the lines stand in the room, and those that fit are these and those that fit behind them.
use Rattle.lines.proofs.Pieces.{Underway}
use Rattle.lines.proofs.put_lines.Given as goal

abbrev pub invariant-loop-next : goal.invariant-loop-next
invariant-loop-next l = Underway l.sheet l.read l.initial.room l.room l.from l.count l.next l.end
