-- `ports::all_known` meets its contract: all codes are known exactly where the highest is.
use mathlib.Core.Path.{◌≡◌, ap, ◌∙◌}
use Prim.Native.Nat.{ℕ, max}
use borrow.Author.Rules.{rules}
use Rattle.std.specs.List.{fold}
use Rattle.ports.specs.Codes.{known}
use Rattle.ports.proofs.Tables.{known_highest}
use Rattle.ports.proofs.all_known.Goals as goal

pub returns : goal.returns
returns c =
    let highest : c.fold.result ≡ fold (λ (high : ℕ) (code : ℕ). max high code) 0 c.args.codes.now = search rules in
    c.is_known.ensures ∙ ap known highest ∙ known_highest _
