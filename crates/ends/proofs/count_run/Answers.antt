-- `ends::count_run` meets its contract: after d turns the codes of the first d ports are as they count and those of the others as lent, and all
-- together they are the run.
use mathlib.Core.Path.{◌≡◌, refl, ◌∙◌, ap}
use native.Mathlib.Omega.{arith}
use Rattle.local.specs.Local.{cell_size, first_of}
use Rattle.plan.proofs.Asks.{told_fitted}
use Rattle.ends.specs.Filling.{layered, run_counted}
use Rattle.ends.proofs.Counts.{code_above, run_more, run_put}
use Rattle.ends.proofs.count_run.Goals as goal

pub loop-d-init : goal.loop-d-init
unfolding layered
loop-d-init c = refl

pub count_port-requires : goal.count_port-requires
count_port-requires c =
    let t = c.loop-d-test.true in (
      c.requires.0,
      c.requires.1,
      omega (arith, t, c.requires.2),
      c.is_fitted-here.ensures ∙ told_fitted c.args.h c.args.uid c.requires.0 c.requires.1,
      omega (arith, t),
      omega (arith, c.requires.2),
      omega (arith, t, c.loop-d.auto.room, c.requires.3),
    )

pub loop-d-preserved : goal.loop-d-preserved
loop-d-preserved c =
    let a = c.args in
    let l = c.loop-d in
    c.count_port.ensures
    ∙ run_more a.h (first_of a.h a.uid) a.lowest a.ports a.room.now a.at (cell_size a.h) l.d c.loop-d-test.true l.room l.invariant

pub returns : goal.returns
unfolding run_counted
returns c =
    let a = c.args in
    let l = c.loop-d in
    let e : l.d ≡ a.ports = omega (arith, l.auto.d-end, c.loop-d-test.false) in
    l.invariant
    ∙ ap (layered a.room.now a.at a.ports (code_above a.h (first_of a.h a.uid) a.lowest a.ports a.room.now a.at) (cell_size a.h)) e
    ∙ run_put a.h (first_of a.h a.uid) a.lowest a.ports a.room.now a.at (cell_size a.h) c.requires.3
