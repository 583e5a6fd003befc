-- `ports::known_blocks` meets its contract: a block that is passed has known codes alone, so the first unknown of what is left is the table's.
use mathlib.Core.Path.{◌≡◌}
use mathlib.Core.List.{List}
use Prim.Native.Nat.{ℕ, ◌+◌}
use lib.ListN.{drop}
use Rattle.std.specs.Slice.Iter.{chunks_rest}
use Rattle.ports.specs.Codes.{first_unknown}
use Rattle.ports.proofs.known_blocks.Given as goal

-- what the blocks before a place of the table have left
pub record Passed (table left : List ℕ) (from : ℕ) : Type 0 where
  pub left_is : drop from table ≡ left
  pub first : from + first_unknown (drop from table) ≡ first_unknown table

abbrev pub invariant-loop-block : goal.invariant-loop-block
invariant-loop-block l = Passed l.table (chunks_rest l.block-iterator) l.from
