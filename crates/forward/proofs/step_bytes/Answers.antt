-- `forward::step_bytes` meets its contract: the codes of the cell, and a far code for each server and level above b.
use mathlib.Core.Path.{◌≡◌, ◌∙◌}
use Prim.Native.Nat.{◌-◌, ◌*◌}
use native.Mathlib.Omega.{arith}
use Rattle.hall.proofs.Growth.{valid_known}
use Rattle.ports.specs.Codes.{cell_length}
use Rattle.local.proofs.Asks.{bytes_are}
use Rattle.ends.specs.Tables.{far_count, step_length}
use Rattle.ends.proofs.Codes.{all_far, far_few, cell_bytes}
use Rattle.forward.proofs.step_bytes.Goals.{After-bytes_of}
use Rattle.forward.proofs.step_bytes.Goals as goal

near : (c : After-bytes_of) → c.bytes_of.result ≡ cell_length c.args.h c.args.h.b
near c = c.bytes_of.ensures ∙ bytes_are _ _ c.requires.1

far : (c : After-bytes_of) → c.args.cell * (c.args.h.k - c.args.h.b) ≡ far_count c.args.h
far c = all_far _ c.requires.0 _ c.requires.1

pub overflow_sub-result : goal.overflow_sub-result
overflow_sub-result c = let v = valid_known _ c.requires.0 in omega (arith, v.b_low)

pub overflow_mul-result : goal.overflow_mul-result
overflow_mul-result c = omega (arith, far (goal.at.overflow_mul-result c).After-bytes_of, far_few _ c.requires.0)

pub overflow_add-result : goal.overflow_add-result
overflow_add-result c = let v = c.requires.0 in omega (arith, near (goal.at.overflow_add-result c).After-bytes_of, cell_bytes _ v, far (goal.at.overflow_add-result c).After-bytes_of, far_few _ v)

pub returns : goal.returns
unfolding step_length
returns c = omega (arith, near (goal.at.returns c).After-bytes_of, far (goal.at.returns c).After-bytes_of)
