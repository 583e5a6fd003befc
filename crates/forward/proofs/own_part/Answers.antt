-- `forward::own_part` meets its contract: the first bytes of what is lent, or the run of the hall table for the DCell(b).
use mathlib.Core.Path.{◌≡◌, ◌∙◌}
use native.Mathlib.Omega.{arith}
use Rattle.hall.proofs.Growth.{valid_known}
use Rattle.ports.specs.Codes.{cell_length}
use Rattle.local.proofs.Sizes.{cell_size_lem, size_pos}
use Rattle.local.proofs.Asks.{bytes_are}
use Rattle.forward.proofs.CodeTables.{own_within, own_first, part_within, part_first}
use Rattle.forward.proofs.own_part.Goals.{After-bytes_of-bytes, After-bytes_of-lent}
use Rattle.forward.proofs.own_part.Goals as goal

lent_long : (c : After-bytes_of-lent) → let h = c.args.h in c.bytes_of-lent.result ≡ cell_length h h.b
lent_long c =
    c.bytes_of-lent.ensures ∙ bytes_are c.args.h _ (cell_size_lem _ _ c.requires.sound c.size_of.ensures)

long : (c : After-bytes_of-bytes) → let h = c.args.h in c.bytes_of-bytes.result ≡ cell_length h h.b
long c = c.bytes_of-bytes.ensures ∙ bytes_are c.args.h _ c.cell_size-cell.ensures

pub slice_bounds-result-end : goal.slice_bounds-result-end
slice_bounds-result-end c = own_within _ _ _ _ c.requires _ (lent_long (goal.at.slice_bounds-result-end c).After-bytes_of-lent) c.if-not-whole.true

pub returns-then-not-whole : goal.returns-then-not-whole
returns-then-not-whole c = own_first _ _ _ _ c.requires _ (lent_long (goal.at.returns-then-not-whole c).After-bytes_of-lent) c.if-not-whole.true

pub nonzero_div-from : goal.nonzero_div-from
nonzero_div-from c = omega (arith, size_pos _ (valid_known _ c.requires.sound), c.cell_size-cell.ensures)

pub overflow_mul-from : goal.overflow_mul-from
overflow_mul-from c = omega (arith, part_within _ _ _ _ c.requires _ (long (goal.at.overflow_mul-from c).After-bytes_of-bytes) c.if-not-whole.false _ c.cell_size-cell.ensures)

pub overflow_add-to : goal.overflow_add-to
overflow_add-to c = omega (arith, part_within _ _ _ _ c.requires _ (long (goal.at.overflow_add-to c).After-bytes_of-bytes) c.if-not-whole.false _ c.cell_size-cell.ensures)

pub slice_bounds-result-end-2 : goal.slice_bounds-result-end-2
slice_bounds-result-end-2 c = part_within _ _ _ _ c.requires _ (long (goal.at.slice_bounds-result-end-2 c).After-bytes_of-bytes) c.if-not-whole.false _ c.cell_size-cell.ensures

pub returns : goal.returns
returns c =
    part_first _ _ _ _ c.requires _ (long (goal.at.returns c).After-bytes_of-bytes) c.if-not-whole.false _ c.cell_size-cell.ensures
