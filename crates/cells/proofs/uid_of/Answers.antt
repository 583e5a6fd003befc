-- `cells::uid_of` meets its contract: the hall is asked first, by its sizes, then the tuple.
use mathlib.Core.Path.{◌≡◌, refl, sym, ◌∙◌}
use mathlib.Core.Bool.{true}
use Rattle.hall.specs.Refusals.{refusal}
use Rattle.hall.specs.Halls.{valid}
use Rattle.hall.proofs.Growth.{valid_known, sizes_refused, sizes_given, sizes_listed}
use Rattle.hall.proofs.Stated.{number_not_zero}
use Rattle.hall.proofs.Stated.{handed}
use Rattle.cells.proofs.uid_of.Goals.{In_ok-sizes}
use Rattle.cells.proofs.uid_of.Goals as goal

sound : (c : In_ok-sizes) → valid c.args.h ≡ true
sound c = sizes_given _ _ c.in_ok-sizes.ensures refl

pub returns-in_err-sizes : goal.returns-in_err-sizes
unfolding refusal
returns-in_err-sizes c =
    let k = sizes_refused _ _ c.in_err-sizes.ensures (number_not_zero _) in
    rw (handed _ c.from_residual.ensures, k.0, k.1)

pub tuple_fits-requires : goal.tuple_fits-requires
tuple_fits-requires c =
    let v = sound (goal.at.tuple_fits-requires c).In_ok-sizes in
    ((valid_known _ v).sized, sizes_listed _ _ c.in_ok-sizes.ensures v)

pub returns-then-not-tuple_fits : goal.returns-then-not-tuple_fits
unfolding refusal
returns-then-not-tuple_fits c =
    rw (sound (goal.at.returns-then-not-tuple_fits c).In_ok-sizes, ← c.tuple_fits.ensures, c.if-not-tuple_fits.true)

pub uid_up_to-requires : goal.uid_up_to-requires
uid_up_to-requires c =
    let v = sound (goal.at.uid_up_to-requires c).In_ok-sizes in
    ((valid_known _ v).sized, sym c.tuple_fits.ensures ∙ c.if-not-tuple_fits.false)

pub returns : goal.returns
unfolding refusal
returns c = rw (sound (goal.at.returns c).In_ok-sizes, ← c.tuple_fits.ensures, c.if-not-tuple_fits.false, c.uid_up_to.ensures)
