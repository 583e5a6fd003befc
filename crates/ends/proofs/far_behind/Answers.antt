-- `ends::far_behind` meets its contract: the two tests are the definition's.
use Prim.Native.Nat.{◌+◌, ◌*◌, ◌<◌}
use native.Mathlib.Omega.{arith}
use borrow.Author.Tests.{lt-ltb, le-ltb, le-leb, lt-leb}
use Rattle.ends.specs.Filling.{far_behind}
use Rattle.ends.proofs.far_behind.Goals.{Else-inside-places}
use Rattle.ends.proofs.far_behind.Goals as goal

-- where the own sub-cell is stepped over
passed : (c : Else-inside-places) → let a = c.args in a.far + a.places * a.size + (a.size + 1) < 4294967296
unfolding far_behind
passed c = rw (lt-ltb c.args.inside c.args.sub (omega (arith, c.if-sub-inside.false)), le-leb c.args.sub (c.args.inside + c.args.places) (omega (arith, c.if-inside-places.false))) at c.requires.1

pub overflow_mul-next : goal.overflow_mul-next
unfolding far_behind
overflow_mul-next c = omega (arith, c.requires.1)

pub overflow_add-next : goal.overflow_add-next
unfolding far_behind
overflow_add-next c = omega (arith, c.requires.1)

pub returns-then-sub-inside : goal.returns-then-sub-inside
unfolding far_behind
returns-then-sub-inside c = let a = c.args in rw (le-ltb a.inside a.sub c.if-sub-inside.true) (omega arith)

pub returns-then-inside-places : goal.returns-then-inside-places
unfolding far_behind
returns-then-inside-places c = let a = c.args in
    rw (lt-ltb a.inside a.sub (omega (arith, c.if-sub-inside.false)), lt-leb a.sub (a.inside + a.places) c.if-inside-places.true) (omega arith)

pub overflow_add-result : goal.overflow_add-result
overflow_add-result c = omega (arith, passed (goal.at.overflow_add-result c).Else-inside-places)

pub overflow_add-result-2 : goal.overflow_add-result-2
overflow_add-result-2 c = omega (arith, passed (goal.at.overflow_add-result-2 c).Else-inside-places)

pub returns : goal.returns
unfolding far_behind
returns c = let a = c.args in
    rw (lt-ltb a.inside a.sub (omega (arith, c.if-sub-inside.false)), le-leb a.sub (a.inside + a.places) (omega (arith, c.if-inside-places.false))) (omega arith)
