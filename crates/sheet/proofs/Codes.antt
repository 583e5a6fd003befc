-- Laws of a hall table whose bytes are all there: reading it goes on as if begun behind codes that are known.
use mathlib.Core.Path.{◌≡◌, sym, ◌∙◌, ap}
use mathlib.Core.Bool.{true}
use mathlib.Core.List.{List}
use Prim.Native.Nat.{ℕ, ◌+◌, ◌-◌, ◌*◌, ◌≤◌, ◌<◌}
use native.Mathlib.Omega.{arith}
use lib.ListN.{length, get_or, take, drop, length-drop}
use lib.Seq.{get_or-take, get_or-drop, length-take-le}
use Rattle.hall.specs.Refusals.{bad_code}
use Rattle.ports.specs.Codes.{known, first_unknown}
use Rattle.ports.proofs.Tables.{known_before, first_within}
use Rattle.sheet.specs.declared.Field.TheVariants.{Value}
use Rattle.words.specs.Words.{value}
use Rattle.sheet.specs.Formats.{read}
use Rattle.sheet.specs.Sheets.{code, codes}
use Rattle.words.proofs.Words.{value_one}
use Rattle.sheet.proofs.Reading.{field_read, field_sound}
use Rattle.sheet.proofs.Accepted.{times_past}

-- a code takes one byte
pub code_width : (s : List ℕ) (at v next : ℕ) → read code s at ≡ Value v next → next ≡ at + 1
code_width s at v next e = (field_read 1 known bad_code s at v next e).3

module _ (s : List ℕ) (at so-many : ℕ) (there : at + so-many ≤ length s) where
  -- the hall table's bytes
  abbrev part : List ℕ
  part = take so-many (drop at s)

  part_long : length part ≡ so-many
  part_long = length-take-le so-many (drop at s) (omega (arith, length-drop at s))

  -- code i of the part is the byte i places further on
  part_code : (i : ℕ) → i < so-many → get_or part i 0 ≡ value s (at + i) 1
  part_code i h = get_or-take so-many (drop at s) i 0 h ∙ get_or-drop at s i 0 ∙ sym (value_one s (at + i))

  -- the codes before the first unknown one are passed
  pub codes_past : (i rest : ℕ) → i + rest ≡ so-many → i ≤ first_unknown part → read (codes so-many) s at ≡ read (codes rest) s (at + i)
  codes_past i rest e h =
      let w : at + 1 * i ≡ at + i = omega arith in
      ap (λ (n : ℕ). read (codes n) s at) (sym e)
      ∙ times_past code 1 s (code_width s) i rest at (λ j l.
      let z : at + 1 * j ≡ at + j = omega arith in
      let k : known (value s (at + j) 1) ≡ true = rw (← part_code j (omega arith)) (known_before part j (omega arith)) in
      (value s (at + j) 1, at + j + 1, rw z (field_sound 1 known bad_code s (at + j) (omega arith) k)))
      ∙ ap (λ (m : ℕ). read (codes rest) s m) w

  -- so reading may begin at the first unknown code, or behind the last
  pub codes_ahead : (place : ℕ) → place ≡ first_unknown part
      → (place ≤ so-many) × (at + place ≤ length s) × (read (codes (so-many - place)) s (at + place) ≡ read (codes so-many) s at)
  codes_ahead place found =
      let l = part_long in
      let w = first_within part in
      let q : place ≤ so-many = omega arith in
      (q, omega arith, sym (codes_past place (so-many - place) (omega arith) (omega arith)))
