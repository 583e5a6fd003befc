-- `forward::is_up_over` meets its contract: what the near end is lent has both codes, or the hall table has them at both ends.
use mathlib.Core.Path.{◌≡◌, ◌∙◌}
use native.Mathlib.Omega.{arith}
use Rattle.hall.proofs.Growth.{valid_known}
use Rattle.local.specs.Local.{cell_size}
use Rattle.local.proofs.Sizes.{size_pos, place_under}
use Rattle.forward.proofs.CodeTables.{own_length, own_usable, near_closed, far_decides}
use Rattle.forward.proofs.is_up_over.Goals.{After-cell_size}
use Rattle.forward.proofs.is_up_over.Goals as goal

sized : (c : After-cell_size) → c.cell_size.result ≡ cell_size c.args.h
sized c = c.cell_size.ensures

pub nonzero_rem-near : goal.nonzero_rem-near
nonzero_rem-near c = omega (arith, size_pos _ (valid_known _ c.requires.here.sound), sized (goal.at.nonzero_rem-near c).After-cell_size)

pub is_open-requires : goal.is_open-requires
is_open-requires c =
    let a = c.requires in (
      record { sound = a.here.sound; inside = place_under _ (valid_known _ a.here.sound) _ _ (sized (goal.at.is_open-requires c).After-cell_size); low = a.low; high = a.high },
      own_length _ _ _ _ a.here c.if-not-whole.true,
    )

pub returns-then-not-whole : goal.returns-then-not-whole
returns-then-not-whole c = c.is_open.ensures ∙ own_usable _ c.args.whole _ _ _ _ c.if-not-whole.true (sized (goal.at.returns-then-not-whole c).After-cell_size)

pub returns-then-not-is_up : goal.returns-then-not-is_up
returns-then-not-is_up c =
    let f = c.is_up in
    near_closed _ _ _ _ _ _ c.requires c.if-not-whole.false _ f.ensures c.if-not-is_up.true

pub returns : goal.returns
returns c =
    let f = c.is_up in
    far_decides _ _ _ _ _ _ c.requires c.if-not-whole.false _ f.ensures c.if-not-is_up.false _ c.is_up-2.ensures
