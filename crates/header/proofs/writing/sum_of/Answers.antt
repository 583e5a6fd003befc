-- `header::writing::sum_of` meets its contract: the checksum goes by the plain sum of the words, each of which fits 32 bits.
use mathlib.Core.Path.{◌≡◌, ◌∙◌, ap}
use Prim.Native.Nat.{ℕ, ◌-◌}
use native.Mathlib.Omega.{arith}
use lib.ListN.{length, get_or}
use Rattle.std.proofs.Common.{sum, rules}
use Rattle.frame.specs.Checksum.{folded}
use Rattle.frame.proofs.Sums.{plain_sum}
use Rattle.header.proofs.Written.{total_all}
use Rattle.header.proofs.writing.sum_of.Goals as goal

pub returns : goal.returns
returns c =
    let w = c.args.words.now in
    let s : c.sum.result ≡ sum w = search rules in
    c.complement.ensures
    ∙ ap (λ (n : ℕ). 65535 - folded n) (s ∙ total_all w)
    ∙ plain_sum (λ i. get_or w i 0) (length w) (λ i h. omega (arith, c.type_inv.words i)) c.requires.0 c.requires.2
