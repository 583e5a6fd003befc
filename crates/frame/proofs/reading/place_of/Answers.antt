-- `frame::reading::place_of` meets its contract: four refusals tell a place, and no other does.
use mathlib.Core.Path.{sym}
use Rattle.hall.specs.declared.refusals.Refusal.TheVariants.{BadVersion, BadDhl, BadFlags, BadPf}
use Rattle.hall.proofs.Stated.{number_one}
use Rattle.frame.proofs.Places.{no_place}
use Rattle.frame.specs.Worked.{places_told}
use Rattle.frame.proofs.reading.place_of.Goals as goal

pub returns-in-BadVersion : goal.returns-in-BadVersion
returns-in-BadVersion c = rw c.in-BadVersion.is (sym places_told.0)

pub returns-in-BadDhl : goal.returns-in-BadDhl
returns-in-BadDhl c = rw c.in-BadDhl.is (sym places_told.1)

pub returns-in-BadFlags : goal.returns-in-BadFlags
returns-in-BadFlags c = rw c.in-BadFlags.is (sym places_told.2)

pub returns-in-BadPf : goal.returns-in-BadPf
returns-in-BadPf c = rw c.in-BadPf.is (sym places_told.3)

pub returns-in_default : goal.returns-in_default
returns-in_default c =
    let w = c.in_default in
    sym (no_place _ (λ e. w.not-BadVersion (number_one _ BadVersion e)) (λ e. w.not-BadDhl (number_one _ BadDhl e)) (λ e. w.not-BadFlags (number_one _ BadFlags e)) (λ e. w.not-BadPf (number_one _ BadPf e)))
