-- Laws of an answer's number and values: what is refused has the number and the values stated for it.
use mathlib.Core.Path.{◌≡◌, refl, ap, ◌∙◌, sym}
use mathlib.Core.List.{List, [], ◌∷◌}
use Prim.Native.Nat.{ℕ, ◌-◌, ◌<◌}
use native.Mathlib.Omega.{arith}
use lib.ListN.{get_or}
use Rattle.std.specs.Prelude.{Result, Ok, Err, IsErr, IsErrAnd, is_err, true, false}
use Rattle.combine.proofs.Tests.{never}
use borrow.Author.Tests.{eq-eqb, ne_eqb}
use Rattle.hall.specs.declared.refusals.Refusal.{Refusal}
use Rattle.hall.specs.declared.refusals.Refusal.TheVariants.{BadHall, BadUid, BadRange, BadLength, BadCode, ShortRoom, ShortFrame, BadRetry, BadChecksum, BadSheet, BadAddress, HallFull, BadVersion, BadDhl, BadFlags, BadPf}
use Rattle.hall.specs.Rooms.{told, written}
use Rattle.hall.proofs.Told.{told_refused, written_refused}
use Rattle.hall.specs.Refusals.{number_of, answered, refusal_in, stated}

-- no reason to refuse has the number 0
pub number_positive : (r : Refusal) → 0 < number_of r
number_positive BadHall = omega arith
number_positive BadUid = omega arith
number_positive BadRange = omega arith
number_positive BadLength = omega arith
number_positive BadCode = omega arith
number_positive ShortRoom = omega arith
number_positive ShortFrame = omega arith
number_positive BadRetry = omega arith
number_positive BadChecksum = omega arith
number_positive BadSheet = omega arith
number_positive BadAddress = omega arith
number_positive HallFull = omega arith
number_positive BadVersion = omega arith
number_positive BadDhl = omega arith
number_positive BadFlags = omega arith
number_positive BadPf = omega arith

pub number_not_zero : (r : Refusal) → number_of r ≡ 0 → ⊥
number_not_zero r z = let p = number_positive r in absurd (omega arith)

-- a refusal told through room is its number, and leaves the room as lent
module _ {A : Type 0} (r : Refusal) (words room : List A) where
  pub refusal_told : number_of r ≡ told (number_of r, words) room
  refusal_told = sym (told_refused (number_of r) words room (number_not_zero r))

  pub refusal_unwritten : room ≡ written (number_of r, words) room
  refusal_unwritten = written_refused (number_of r) words room (number_not_zero r)

module _ {T : Type 0} (good : T) (refused : ℕ → T) where
  -- an answer that is refused by a number other than 0
  pub answered_refused : (r : Refusal) (number : ℕ) → number_of r ≡ number → refused (number_of r) ≡ answered number good refused
  answered_refused r number e = rw (← e, ne_eqb (number_of r) 0 (number_not_zero r))

  -- and one that is not
  pub answered_good : (number : ℕ) → number ≡ 0 → good ≡ answered number good refused
  answered_good number e = rw (eq-eqb number 0 e)

-- an answer that is no refusal has the number 0
pub accepted : {A : Type 0} (number : ℕ) (x : Result A Refusal) → refusal_in x ≡ number → is_err x ≡ false → number ≡ 0
accepted number (Ok a) e f = sym e
accepted number (Err r) e f = never refl f

-- and one that is a refusal has another
pub refused : {A : Type 0} (number : ℕ) (x : Result A Refusal) → refusal_in x ≡ number → is_err x ≡ true → number ≡ 0 → ⊥
refused number (Ok a) e f z = never f refl
refused number (Err r) e f z = number_not_zero r (e ∙ z)

-- a call's refusal goes on as it is
pub handed : {A : Type 0} {e : Refusal} (r : Result A Refusal) → IsErr r × IsErrAnd r (λ x. x ≡ e) → r ≡ Err e
handed (Ok a) p = absurd p.1
handed (Err x) p = ap Err p.1

-- the reasons in the order of their numbers, from 1 on
reasons : List Refusal
reasons =
    BadHall ∷ BadUid ∷ BadRange ∷ BadLength ∷ BadCode ∷ ShortRoom ∷ ShortFrame ∷ BadRetry ∷ BadChecksum ∷ BadSheet ∷ BadAddress ∷ HallFull
    ∷ BadVersion ∷ BadDhl ∷ BadFlags ∷ BadPf ∷ []

-- the reason of a number
reason_of : ℕ → Refusal
reason_of number = get_or reasons (number - 1) BadHall

reason_of_number : (r : Refusal) → reason_of (number_of r) ≡ r
unfolding reason_of reasons
reason_of_number BadHall = refl
reason_of_number BadUid = refl
reason_of_number BadRange = refl
reason_of_number BadLength = refl
reason_of_number BadCode = refl
reason_of_number ShortRoom = refl
reason_of_number ShortFrame = refl
reason_of_number BadRetry = refl
reason_of_number BadChecksum = refl
reason_of_number BadSheet = refl
reason_of_number BadAddress = refl
reason_of_number HallFull = refl
reason_of_number BadVersion = refl
reason_of_number BadDhl = refl
reason_of_number BadFlags = refl
reason_of_number BadPf = refl

-- no two reasons have one number
pub number_one : (r s : Refusal) → number_of r ≡ number_of s → r ≡ s
number_one r s e = sym (reason_of_number r) ∙ ap reason_of e ∙ reason_of_number s

-- the number of an answer is that of one answer without values
pub refusal_one : (x y : Result (Unit {0}) Refusal) → refusal_in x ≡ refusal_in y → x ≡ y
refusal_one (Ok a) (Ok b) e = refl
refusal_one (Ok a) (Err r) e = absurd (number_not_zero r (sym e))
refusal_one (Err r) (Ok b) e = absurd (number_not_zero r e)
refusal_one (Err r) (Err s) e = ap Err (number_one r s e)

-- and the number and the values stated for an answer are those of one answer, where both can be read off them
module _ {A T : Type 0} (good : A → T) (refused : ℕ → T) (number : T → ℕ) (value : T → A) (accepted : (a : A) → number (good a) ≡ 0) (valued : (a : A) → value (good a) ≡ a) (numbered : (n : ℕ) → number (refused n) ≡ n) where
  apart : (a : A) (r : Refusal) → good a ≡ refused (number_of r) → ⊥
  apart a r e = number_not_zero r (sym (numbered (number_of r)) ∙ sym (ap number e) ∙ accepted a)

  pub stated_one : (x y : Result A Refusal) → stated good refused x ≡ stated good refused y → x ≡ y
  stated_one (Ok a) (Ok b) e = ap Ok (sym (valued a) ∙ ap value e ∙ valued b)
  stated_one (Ok a) (Err r) e = absurd (apart a r e)
  stated_one (Err r) (Ok b) e = absurd (apart b r (sym e))
  stated_one (Err r) (Err s) e = ap Err (number_one r s (sym (numbered (number_of r)) ∙ ap number e ∙ numbered (number_of s)))
