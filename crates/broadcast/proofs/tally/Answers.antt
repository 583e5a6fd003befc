-- `broadcast::tally` meets its contract: the loop has counted the numbers that it has passed.
use mathlib.Core.Path.{◌∙◌, sym}
use Prim.Native.Nat.{ℕ, ◌<◌}
use native.Mathlib.Omega.{arith}
use Rattle.std.proofs.Math.ListN.{length-take}
use Rattle.std.proofs.lemmas.List.{get_or-take}
use Rattle.search.proofs.Counts.{reached_start, reached_skip, reached_more, last_start, last_skip}
use Rattle.broadcast.specs.Broadcasts.{none}
use Rattle.broadcast.proofs.Rooms.{last_next}
use Rattle.broadcast.proofs.tally.Goals.{then-number, else-number}
use Rattle.broadcast.proofs.tally.Goals as goal

pub loop-number-init : goal.loop-number-init
loop-number-init c = (omega arith, sym (reached_start none _), sym (last_start none _))

pub loop-number-preserved : goal.loop-number-preserved
loop-number-preserved c =
    let w = c.loop-number in
    let a = c.args in
    let i : w.number-index < a.size = omega (arith, length-take {A = ℕ} a.size a.room.now) in
    let at = get_or-take a.size a.room.now w.number-index 0 i in (
      elim c.if-number.branch [ then-number b ↦ omega (arith, b.reached-is) | else-number b ↦ omega (arith, b.reached-is) ],
      elim c.if-number.branch [
        | then-number b ↦ b.reached-is ∙ rw w.invariant.1 (sym (reached_more none a.room.now w.number-index (λ e. b.if-number.true (at ∙ e))))
        | else-number b ↦ b.reached-is ∙ w.invariant.1 ∙ sym (reached_skip none a.room.now w.number-index (sym at ∙ b.if-number.false))
      ],
      elim c.if-number.branch [
        | then-number b ↦ b.last-is ∙ b.max-last.ensures ∙ rw (w.invariant.2, b.from.ensures, at) (sym (last_next a.room.now w.number-index (λ e. b.if-number.true (at ∙ e))))
        | else-number b ↦ b.last-is ∙ w.invariant.2 ∙ sym (last_skip none a.room.now w.number-index (sym at ∙ b.if-number.false))
      ],
    )
