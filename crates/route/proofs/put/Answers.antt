-- `route::put` meets its contract: where x and y are one server the place behind it holds 0 as it did.
use Prim.Native.Nat.{◌+◌}
use native.Mathlib.Omega.{arith}
use Rattle.route.proofs.Filling.{put_links}
use Rattle.route.proofs.put.Goals as goal

pub returns : goal.returns
returns c =
    let it = put_links c.args.uids.now c.args.x c.args.y c.args.at c.from-links.result c.from-links.ensures (c.requires.clear (c.args.at + 1) (omega arith)) in record { next = it.0; filled = it.1 }
