-- `sheet::sections::known_codes` meets its contract: where all bytes are there, reading may begin at the first unknown code of that part.
use mathlib.Core.Path.{◌≡◌}
use Prim.Native.Nat.{◌+◌, ◌-◌}
use native.Mathlib.Omega.{arith}
use Rattle.sheet.proofs.Codes.{codes_ahead}
use Rattle.sheet.proofs.sections.known_codes.Goals as goal

pub returns : goal.returns
returns c =
    let a = c.args in
    let f = c.first_unknown in
    let d : a.at + a.count - a.at ≡ a.count = omega arith in
    codes_ahead a.sheet.now a.at a.count (omega arith) f.result (rw d at f.ensures)
