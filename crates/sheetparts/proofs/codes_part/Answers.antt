-- `sheetparts::codes_part` meets its contract: the part is there, as the count says, or it is empty.
use mathlib.Core.Path.{◌≡◌}
use Prim.Native.Nat.{◌+◌, ◌-◌}
use native.Mathlib.Omega.{arith}
use Rattle.sheetparts.proofs.Parts.{count_read, codes_there_lem}
use Rattle.sheetparts.proofs.codes_part.Goals as goal

pub returns : goal.returns
returns c =
    let w = c.word_at-count in
    let p = c.codes_place-place in
    let s = c.args.sheet.now in
    let e = count_read s p.result w.result p.ensures (omega arith) w.ensures in
    let d : p.result + w.result - p.result ≡ w.result = omega arith in
    rw (d, e, p.ensures) (codes_there_lem s (omega (arith, p.ensures)))
