-- `forward::first_link` meets its contract: it is the link that is told, and none where that is refused.
use mathlib.Core.Path.{◌≡◌, refl, ap, ◌∙◌}
use Rattle.std.proofs.Common.{Option, None, Result, Ok, Err}
use Rattle.std.specs.Result.{result_unwrap_or}
use Rattle.hall.specs.declared.refusals.Refusal.{Refusal}
use Rattle.route.specs.declared.Crossing.{Crossing}
use Rattle.route.specs.Answers.{FirstLinkAnswer, first_link_stated}
use Rattle.route.proofs.Answers.{first_told}
use Rattle.forward.proofs.first_link.Goals as goal

told : (r : Result (Option Crossing) Refusal) → result_unwrap_or r None ≡ (first_link_stated r).link
told (Ok link) = refl
told (Err e) = refl

pub returns : goal.returns
returns c =
    c.unwrap_or.ensures ∙ told c.first_link.result ∙ ap (λ (a : FirstLinkAnswer). a.link) c.first_link.ensures ∙ first_told c.args.h c.args.x c.args.y
