-- What became of a packet, as the five numbers that its line tells before the uids; and how far a piece of the trace got.
-- Sections "The night sheet" and "Refusal numbers".
use Rattle.std.specs.Prelude.{ℕ, eqb}
use Rattle.combine.specs.Tests.{pick}
use Rattle.report.specs.declared.PacketReport.{PacketReport}
use Rattle.report.specs.Rooms.{WrittenAnswer}
use Rattle.lines.specs.Traces.{PieceAnswer}

-- source, dst, ending, links and reroutes
abbrev pub report_of : ℕ → ℕ → ℕ → ℕ → ℕ → PacketReport
report_of source dst ending links reroutes = record { source = source; dst = dst; ending = ending; links = links; reroutes = reroutes }

-- the place behind a line; as lent where the line is refused
abbrev pub end_of : WrittenAnswer → ℕ → ℕ
end_of line lent = pick (eqb line.refusal 0) line.end lent

-- the first line that is not written; as lent where the piece is refused
abbrev pub next_told : PieceAnswer → ℕ → ℕ
next_told piece lent = pick (eqb piece.refusal 0) piece.next lent

-- and the place behind the text
abbrev pub end_told : PieceAnswer → ℕ → ℕ
end_told piece lent = pick (eqb piece.refusal 0) piece.end lent
