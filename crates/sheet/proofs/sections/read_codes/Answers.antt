-- `sheet::sections::read_codes` meets its contract: what is left to read from the next place on is what the whole reads from the first.
use mathlib.Core.Path.{◌≡◌, sym, ◌∙◌}
use Prim.Native.Nat.{◌+◌, ◌-◌}
use native.Mathlib.Omega.{arith}
use Rattle.sheet.specs.Sheets.{code}
use Rattle.sheet.proofs.Reading.{times_none, times_more, times_stop, next_within}
use Rattle.sheet.proofs.sections.read_codes.Goals as goal

pub loop-init : goal.loop-init
loop-init c = (c.known_codes-known.ensures.1, c.known_codes-known.ensures.2)

pub returns-in_default : goal.returns-in_default
returns-in_default c =
    let l = c.loop in
    let e = c.in_default.is in
    let f = c.read_code-code.ensures in
    e ∙ sym (times_stop code _ l.next (c.args.count - l.counter) _ _ (omega arith) (sym f ∙ e)) ∙ l.invariant.1

pub loop-preserved : goal.loop-preserved
loop-preserved c =
    let l = c.loop in
    let n = c.args.count in
    let e = c.in-Value.is in
    let f = c.read_code-code in (
      next_within code _ l.next _ _ f.result f.ensures e l.invariant.0,
      sym (times_more code _ l.next (n - l.counter) (n - (l.counter + 1)) _ _ (omega arith) (sym f.ensures ∙ e)) ∙ l.invariant.1,
    )

pub returns : goal.returns
returns c =
    let l = c.loop in
    let z : c.args.count - l.counter ≡ 0 = omega arith in
    times_none code _ l.next ∙ rw z at l.invariant.1
