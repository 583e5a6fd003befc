-- `forward::cell_size` meets its contract: a DCell0 has n servers, a DCell1 (n + 1) n.
use mathlib.Core.Path.{◌≡◌, sym}
use Prim.Native.Nat.{◌+◌, ◌*◌}
use native.Mathlib.Omega.{arith}
use Rattle.hall.proofs.Growth.{valid_known}
use Rattle.local.specs.Local.{cell_size}
use Rattle.local.proofs.Sizes.{size_switch, size_cell, size_fits, b_one}
use Rattle.forward.proofs.cell_size.Goals.{After-struct_known-3-1}
use Rattle.forward.proofs.cell_size.Goals as goal

whole : (c : After-struct_known-3-1) → let h = c.args.h in cell_size h ≡ (h.n + 1) * h.n
whole c = let h = c.args.h in size_cell h (b_one h (valid_known h c.requires) c.if-h-eq0.false)

pub returns-then-h-eq0 : goal.returns-then-h-eq0
returns-then-h-eq0 c = sym (size_switch c.args.h c.if-h-eq0.true)

pub overflow_add-result : goal.overflow_add-result
overflow_add-result c = let v = valid_known _ c.requires in omega arith

pub overflow_mul-result : goal.overflow_mul-result
overflow_mul-result c = omega (arith, size_fits _ (valid_known _ c.requires), whole (goal.at.overflow_mul-result c).After-struct_known-3-1)

pub returns : goal.returns
returns c = sym (whole (goal.at.returns c).After-struct_known-3-1)
