-- `ports::known_blocks` meets its contract: a block that is passed has known codes alone, so the first unknown of what is left is the table's.
use mathlib.Core.Path.{◌≡◌, sym, ◌∙◌}
use mathlib.Core.List.{◌++◌}
use lib.ListN.{drop}
use Rattle.std.specs.Slice.Iter.{chunks_rest}
use Rattle.ports.proofs.Tables.{block_left, block_known}
use Rattle.ports.proofs.known_blocks.Goals.{After-all_known}
use Rattle.ports.proofs.known_blocks.Goals as goal

-- a block begins what is left
left : (c : After-all_known) → drop c.loop-block.from c.args.table.now ≡ c.in-Some.block.now ++ chunks_rest c.next.new.self
left c = c.loop-block.invariant.left_is ∙ c.in-Some.ensures.steps.1.0

pub loop-block-preserved : goal.loop-block-preserved
loop-block-preserved c =
    let l = left (goal.at.loop-block-preserved c).After-all_known in
    record { left_is = block_left _ _ _ _ l; first = block_known _ _ _ _ l c.loop-block.invariant.first (sym c.all_known.ensures ∙ c.if-not-all_known.false) }
