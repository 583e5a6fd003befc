-- `ends::count_codes` meets its contract: one run with every port, and one with those of the levels above b.
use mathlib.Core.Path.{◌∙◌, ap}
use mathlib.Core.List.{List}
use Prim.Native.Nat.{ℕ, ◌+◌}
use native.Mathlib.Omega.{arith}
use Rattle.hall.proofs.Growth.{valid_known}
use Rattle.ends.specs.Tables.{levels}
use Rattle.ends.specs.Filling.{run_counted, table_counted}
use Rattle.ends.proofs.Counts.{near_room, far_room}
use Rattle.ends.proofs.count_codes.Goals as goal

pub overflow_add-h : goal.overflow_add-h
overflow_add-h c = omega (arith, (valid_known _ c.requires.0).k_high)

pub count_run-requires : goal.count_run-requires
count_run-requires c = (c.requires.0, c.requires.1, omega arith, omega (arith, near_room c.args.h, c.requires.3))

pub overflow_add-h-2 : goal.overflow_add-h-2
overflow_add-h-2 c = omega (arith, (valid_known _ c.requires.0).b_high)

pub overflow_sub-h : goal.overflow_sub-h
overflow_sub-h c = omega (arith, (valid_known _ c.requires.0).b_low)

pub count_run-requires-2 : goal.count_run-requires-2
count_run-requires-2 c = (c.requires.0, c.requires.1, omega (arith, (valid_known _ c.requires.0).b_low), omega (arith, far_room c.args.h, c.requires.2, c.requires.3, c.count_run.auto.room))

pub returns : goal.returns
unfolding table_counted
returns c = c.count_run-2.ensures
    ∙ ap (λ (r : List ℕ). run_counted c.args.h c.args.uid (c.args.h.b + 1) (levels c.args.h) r c.args.near) c.count_run.ensures
    ∙ ap (run_counted c.args.h c.args.uid (c.args.h.b + 1) (levels c.args.h) (run_counted c.args.h c.args.uid 0 (c.args.h.k + 1) c.args.room.now 0)) c.requires.2
