-- `hall::racks_of` meets its contract: it asks of n and k what the definition asks.
use mathlib.Core.Path.{sym, ◌∙◌}
use Rattle.hall.specs.Answers.{racks_of}
use Rattle.hall.proofs.Racks.{sized_fits}
use Rattle.hall.proofs.racks_of.Goals as goal

pub returns-then-not-n_fits : goal.returns-then-not-n_fits
unfolding racks_of
returns-then-not-n_fits c = let n = c.n_fits in rw (← n.ensures, c.if-not-n_fits.true)

pub returns-then-not-k_fits : goal.returns-then-not-k_fits
unfolding racks_of
returns-then-not-k_fits c =
    let k = c.k_fits in
    let n = c.n_fits in
    rw (← n.ensures, c.if-not-n_fits.false, ← k.ensures, c.if-not-k_fits.true)

pub capacity-requires : goal.capacity-requires
capacity-requires c =
    let k = c.k_fits in
    let n = c.n_fits in
    sized_fits _ _
    (sym n.ensures ∙ c.if-not-n_fits.false)
    (sym k.ensures ∙ c.if-not-k_fits.false)

pub returns : goal.returns
unfolding racks_of
returns c =
    let k = c.k_fits in
    let n = c.n_fits in
    rw (
      ← n.ensures,
      c.if-not-n_fits.false,
      ← k.ensures,
      c.if-not-k_fits.false,
    )
    c.capacity.ensures
