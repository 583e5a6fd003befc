-- `report::lengths::uids_length` meets its contract: the sum is the length of the text of the uids, at most eleven for each.
use mathlib.Core.Path.{◌≡◌, ◌∙◌}
use Prim.Native.Nat.{◌+◌}
use native.Mathlib.Omega.{arith}
use lib.ListN.{length}
use Rattle.std.proofs.Common.{rules}
use Rattle.std.specs.List.{sum_by}
use Rattle.report.specs.Texts.{decimal}
use Rattle.report.proofs.Texts.{uids_sum, uids_fit_all}
use Rattle.report.proofs.lengths.uids_length.Goals as goal

pub returns : goal.returns
returns c =
    let u = c.args.uids.now in
    let s : c.sum.result ≡ sum_by (λ v. length (decimal v) + 1) u = search rules in
    let l = s ∙ uids_sum u in
    record { length = l; most = omega (arith, l, uids_fit_all u (λ i. omega (arith, c.type_inv.uids i))) }
