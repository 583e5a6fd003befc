-- `local::one_round` meets its contract. The outer loop's invariant: the distances are filled up to the switch s; the inner loop's: those that
-- it found are filled up to server i of that switch, whose flag stays right as what is written reads as not reached.
use mathlib.Core.Path.{◌≡◌, ◌∙◌, sym}
use Prim.Native.Nat.{ℕ, ◌+◌, ◌*◌, ◌≤◌, ◌<◌}
use native.Mathlib.Omega.{arith}
use lib.ListN.{length}
use Rattle.hall.proofs.Growth.{valid_known}
use Rattle.search.proofs.InPlace.{fill_new, fill_old, any_new, any_old}
use Rattle.local.specs.Local.{none, cell_size, linked}
use Rattle.local.proofs.Sizes.{place_below, switch_within}
use Rattle.local.proofs.Rounds.{round_starts, round_starts_any, filled_length, live_on, switch_starts, switch_starts_any, switch_ends, switch_ends_any}
use Rattle.local.proofs.one_round.Goals.{then-is_new, else-is_new}
use Rattle.local.proofs.one_round.Goals as goal

pub loop-s-init : goal.loop-s-init
loop-s-init c =
    let a = c.args in (
      c.requires.2,
      round_starts a.h a.table.now a.r a.d.now (0 * a.h.n) (omega arith),
      round_starts_any a.h a.table.now a.r a.d.now (0 * a.h.n) (omega arith),
    )

pub loop-i-init : goal.loop-i-init
loop-i-init c =
    let w = c.loop-s in
    let x : ℕ = w.s * c.args.h.n in
    let k : x ≤ 72 = omega (arith, switch_within _ _ _ c.requires.0 c.switches-count.ensures c.loop-s-test.true) in (
      filled_length _ _ _ _ x w.d w.invariant.1 w.invariant.0 k,
      c.is_live-live.ensures,
      switch_starts _ _ _ _ (omega arith) x w.d w.invariant.1 (x + 0) (omega arith),
      switch_starts_any _ _ _ _ (omega arith) x w.d w.invariant.1 (x + 0) w.any (omega arith),
    )

pub is_new-requires : goal.is_new-requires
is_new-requires c =
    let v = valid_known _ c.requires.0 in
    let w = c.loop-i in (
      c.requires.0,
      omega arith,
      c.loop-i-test.true,
      place_below _ v _ _ _ c.switches-count.ensures c.loop-s-test.true c.loop-i-test.true,
      live_on _ _ _ _ (omega arith) _ _ w.d _ w.invariant.2 w.invariant.1,
    )

pub loop-i-preserved : goal.loop-i-preserved
loop-i-preserved c =
    let w = c.loop-i in
    let x : ℕ = c.loop-s.s * c.args.h.n + w.i in
    let e : x + 1 ≡ c.loop-s.s * c.args.h.n + (w.i + 1) = omega arith in
    let k : x < length c.loop-s.d = omega (arith, w.invariant.0, switch_within _ _ _ c.requires.0 c.switches-count.ensures c.loop-s-test.true) in (
      w.invariant.0,
      w.invariant.1,
      rw (sym e)
          (elim c.if-is_new.branch [
            | then-is_new b ↦ b.d-is ∙ fill_new (linked _ _) (cell_size _) none _ _ (omega arith) x w.d _ w.invariant.2 c.is_new.ensures k b.if-is_new.true
            | else-is_new b ↦ b.d-is ∙ fill_old (linked _ _) (cell_size _) none _ _ (omega arith) x w.d _ w.invariant.2 c.is_new.ensures k b.if-is_new.false
          ]),
      rw (sym e)
          (elim c.if-is_new.branch [
            | then-is_new b ↦ b.any-is ∙ any_new (linked _ _) (cell_size _) none _ _ (omega arith) x w.d _ w.invariant.2 c.is_new.ensures k c.loop-s.any b.if-is_new.true
            | else-is_new b ↦ b.any-is ∙ any_old (linked _ _) (cell_size _) none _ _ (omega arith) x w.d _ w.invariant.2 c.is_new.ensures k c.loop-s.any w.any w.invariant.3 b.if-is_new.false
          ]),
    )

pub loop-s-preserved : goal.loop-s-preserved
loop-s-preserved c =
    let o = c.loop-s in
    let w = c.loop-i in
    let e : (o.s + 1) * c.args.h.n ≡ o.s * c.args.h.n + w.i = omega arith in (
      o.invariant.0,
      rw e (switch_ends _ _ _ _ (omega arith) (o.s * c.args.h.n) o.d o.invariant.1 (o.s * c.args.h.n + w.i) w.d (omega arith) w.invariant.2),
      rw e (switch_ends_any _ _ _ _ (omega arith) (o.s * c.args.h.n) o.d o.invariant.1 (o.s * c.args.h.n + w.i) o.any w.any (omega arith) o.invariant.2 w.invariant.3),
    )
