-- `plan::next_prefix` meets its contract: where nothing is refused, k is at least 2, and the level is one less.
use borrow.Author.Rules.{rules}
use Rattle.plan.proofs.Asks.{plan_good}
use Rattle.plan.proofs.next_prefix.Goals as goal

pub prefix_up_to-requires-clause-sized : goal.prefix_up_to-requires-clause-sized
prefix_up_to-requires-clause-sized c = search (rules, plan_good)
