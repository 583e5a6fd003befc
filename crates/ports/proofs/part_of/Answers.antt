-- `ports::part_of` meets its contract: where nothing is refused, the run for the DCell(b) lies within the table.
use Prim.Native.Nat.{◌+◌, ◌*◌, ◌/◌, ◌≤◌}
use native.Mathlib.Omega.{arith}
use lib.ListN.{length}
use Rattle.ports.proofs.Parts.{part_counts, part_within, part_is}
use Rattle.ports.proofs.part_of.Goals.{After-bytes_of-bytes}
use Rattle.ports.proofs.part_of.Goals as goal

-- the run that the code takes
within : (c : After-bytes_of-bytes) → let w = c.bytes_of-bytes.result in c.args.uid / c.size_of-count.result * w + w ≤ length c.args.table.now
within c = part_within _ _ _ _ c.part_refusal.ensures c.if-is_err.ensures.value _ c.size_of-count.ensures _ c.bytes_of-bytes.ensures

pub nonzero_div-from : goal.nonzero_div-from
nonzero_div-from c = part_counts _ _ _ _ c.part_refusal.ensures c.if-is_err.ensures.value _ c.size_of-count.ensures

pub overflow_mul-from : goal.overflow_mul-from
overflow_mul-from c = omega (arith, within (goal.at.overflow_mul-from c).After-bytes_of-bytes)

pub overflow_add-to : goal.overflow_add-to
overflow_add-to c = omega (arith, within (goal.at.overflow_add-to c).After-bytes_of-bytes)

pub slice_bounds-result-end-2 : goal.slice_bounds-result-end-2
slice_bounds-result-end-2 c = within (goal.at.slice_bounds-result-end-2 c).After-bytes_of-bytes

pub returns : goal.returns
returns c = part_is _ _ _ _ c.part_refusal.ensures c.if-is_err.ensures.value _ c.size_of-count.ensures _ c.bytes_of-bytes.ensures
