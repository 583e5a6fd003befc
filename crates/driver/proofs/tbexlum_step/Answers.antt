-- `driver::tbexlum_step` meets its contract: it tells the step's answer, the flag and the bytes as numbers, and a refusal by its number.
use mathlib.Core.Path.{◌≡◌, refl, ◌∙◌}
use mathlib.Core.Bool.{Bool, true, false}
use mir.Val.{bool_byte}
use Rattle.hall.proofs.Stated.{refusal_told, refusal_unwritten}
use Rattle.driver.specs.Outcomes.{flag_of}
use Rattle.driver.proofs.tbexlum_step.Goals as goal

-- a flag as a number
flagged : (b : Bool) → bool_byte b ≡ flag_of b
flagged true = refl
flagged false = refl

pub returns-in-Ok-clause-room : goal.returns-in-Ok-clause-room
returns-in-Ok-clause-room c = rw (
  ← c.in-Ok.ensures,
  ← c.ending_of.ensures,
  ← c.next_of.ensures,
  ← (c.from.ensures ∙ flagged _),
  ← c.from-in-Ok.ensures,
  ← c.from-in-Ok-2.ensures,
) c.tell.ensures.room

pub returns-in-Err-clause-number : goal.returns-in-Err-clause-number
returns-in-Err-clause-number c = rw (← c.in-Err.ensures) (c.number.ensures ∙ refusal_told _ _ _)

pub returns-in-Err-clause-room : goal.returns-in-Err-clause-room
returns-in-Err-clause-room c = rw (← c.in-Err.ensures) (refusal_unwritten _ _ _)
