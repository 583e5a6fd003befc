-- Worked rows: what the definitions compute of two rows of 32 bits.
use Rattle.std.specs.Prelude.{◌+◌, true, false, List, [], ◌∷◌, ◌≡◌, refl}
use Rattle.rows.specs.Rows.{Row, bits, has, within, apart, sound, joined, laid, cut, value_by, before, offset_in}

-- fields 0 and 1 in the first row, field 2 in the second
abbrev pub rows : List Row
rows = ((0, 8) ∷ (1, 24) ∷ []) ∷ ((2, 32) ∷ []) ∷ []

pub rows_sound : sound rows ≡ true
unfolding sound apart within has bits
rows_sound = refl

-- a field that comes twice, and a row of 31 bits
pub twice_unsound : sound (((0, 8) ∷ (0, 24) ∷ []) ∷ []) ≡ false
unfolding sound apart within has bits
twice_unsound = refl

pub short_unsound : sound (((0, 8) ∷ (1, 23) ∷ []) ∷ []) ≡ false
unfolding sound apart within has bits
short_unsound = refl

-- the values 10, 11 and 12 make 0A00000B and 0000000C, and field 1 reads back
pub words_laid : (laid rows (λ f. 10 + f) 0 ≡ 167772171) × (laid rows (λ f. 10 + f) 1 ≡ 12)
unfolding laid joined bits
words_laid = (refl, refl)

pub field_read : value_by rows (laid rows (λ f. 10 + f)) 1 ≡ 11
unfolding laid joined bits value_by cut has
field_read = refl

-- and stands 8 bits behind the beginning
pub field_offset : offset_in 1 rows ≡ 8
unfolding offset_in before has
field_offset = refl
