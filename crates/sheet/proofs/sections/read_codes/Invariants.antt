-- `sheet::sections::read_codes` meets its contract: what is left to read from the next place on is what the whole reads from the first.
use mathlib.Core.Path.{◌≡◌}
use Prim.Native.Nat.{◌-◌, ◌≤◌}
use lib.ListN.{length}
use Rattle.sheet.specs.Formats.{read}
use Rattle.sheet.specs.Sheets.{code, times}
use Rattle.sheet.proofs.sections.read_codes.Given as goal

abbrev pub invariant-loop : goal.invariant-loop
invariant-loop l = (l.next ≤ length l.sheet) × (read (times (l.count - l.counter) code) l.sheet l.next ≡ read (times l.count code) l.sheet l.at)
