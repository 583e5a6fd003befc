-- `hall::is_valid` meets its contract: it asks of n, k, b and the count what the definition asks, in turn.
use mathlib.Core.Path.{sym, ◌∙◌}
use Rattle.hall.specs.Halls.{valid}
use Rattle.hall.proofs.Racks.{sized_fits}
use Rattle.hall.proofs.is_valid.Goals as goal

pub returns-then-not-n_fits : goal.returns-then-not-n_fits
unfolding valid
returns-then-not-n_fits c = let n = c.n_fits in rw (← n.ensures, c.if-not-n_fits.true)

pub returns-then-not-k_fits : goal.returns-then-not-k_fits
unfolding valid
returns-then-not-k_fits c =
    let k = c.k_fits in
    let n = c.n_fits in
    rw (← n.ensures, c.if-not-n_fits.false, ← k.ensures, c.if-not-k_fits.true)

pub returns-then-not-b_fits : goal.returns-then-not-b_fits
unfolding valid
returns-then-not-b_fits c =
    let b = c.b_fits in
    let k = c.k_fits in
    let n = c.n_fits in
    rw (
      ← n.ensures,
      c.if-not-n_fits.false,
      ← k.ensures,
      c.if-not-k_fits.false,
      ← b.ensures,
      c.if-not-b_fits.true,
    )

pub count_fits-requires : goal.count_fits-requires
count_fits-requires c =
    let k = c.k_fits in
    let n = c.n_fits in
    sized_fits _ _
    (sym n.ensures ∙ c.if-not-n_fits.false)
    (sym k.ensures ∙ c.if-not-k_fits.false)

pub returns : goal.returns
unfolding valid
returns c =
    let b = c.b_fits in
    let k = c.k_fits in
    let n = c.n_fits in
    rw (
      ← n.ensures,
      c.if-not-n_fits.false,
      ← k.ensures,
      c.if-not-k_fits.false,
      ← b.ensures,
      c.if-not-b_fits.false,
    )
    c.count_fits.ensures
