-- `sheet::fields::read_code` meets its contract: the code is there and known, or not known, or the sheet is cut.
use mathlib.Core.Path.{◌≡◌, sym, ◌∙◌}
use mathlib.Core.Bool.{Bool, true, false}
use mathlib.Core.List.{List}
use Prim.Native.Nat.{ℕ, ◌+◌, ◌≤◌}
use native.Mathlib.Omega.{arith}
use lib.ListN.{length, get_or}
use Rattle.hall.specs.Refusals.{bad_code}
use Rattle.ports.specs.Codes.{known}
use Rattle.sheet.specs.declared.Field.TheVariants.{Value, Refused}
use Rattle.sheet.specs.Formats.{done, read}
use Rattle.sheet.specs.Sheets.{code}
use Rattle.words.proofs.Words.{value_one}
use Rattle.sheet.proofs.Reading.{read_done, read_sound, read_wrong, read_cut}
use Rattle.sheet.proofs.fields.read_code.Goals as goal

-- a code that is there, by whether it is known
module _ (s : List ℕ) (at : ℕ) (h : at + 1 ≤ length s) (t : Bool) (e : t ≡ known (get_or s at 0)) where
  wrong : t ≡ false → Refused bad_code at ≡ read code s at
  wrong f = sym (read_wrong s 1 known bad_code done at h (rw (value_one s at) (sym e ∙ f)))

  sound : t ≡ true → Value (get_or s at 0) (at + 1) ≡ read code s at
  sound f = sym (read_sound s 1 known bad_code done at h (rw (value_one s at) (sym e ∙ f)) ∙ rw (value_one s at) (read_done (get_or s at 0) s (at + 1)))

pub returns-then-sheet-at : goal.returns-then-sheet-at
returns-then-sheet-at c = let a = c.args in sym (read_cut a.sheet.now 1 known bad_code done a.at (omega arith))

pub returns-then-not-is_known : goal.returns-then-not-is_known
returns-then-not-is_known c =
    let a = c.args in
    let r = c.is_known in
    wrong a.sheet.now a.at (omega arith) r.result r.ensures c.if-not-is_known.true

pub returns : goal.returns
returns c =
    let a = c.args in
    let r = c.is_known in
    sound a.sheet.now a.at (omega arith) r.result r.ensures c.if-not-is_known.false
