-- A layout is any number of rows of fields: the words that values make by it, and the values that words have by it.
-- Section "Frame header", whatever the fields.
use Rattle.std.specs.Prelude.{ℕ, suc, ◌+◌, ◌*◌, ◌/◌, ◌%◌, ◌^◌, ◌<◌, Bool, true, false, not, List, [], ◌∷◌, eqb, get_or}
use Rattle.combine.specs.Tests.{pick, both, either}

-- a row's part: a field, and its bits
abbrev pub Part : Type 0
Part = ℕ × ℕ

-- a row is its parts, the most significant first
abbrev pub Row : Type 0
Row = List Part

-- the bits of a row
unfoldable pub bits : Row → ℕ
bits [] = 0
bits (p ∷ row) = p.1 + bits row

-- a row has the field
unfoldable pub has : ℕ → Row → Bool
has field [] = false
has field (p ∷ row) = either (eqb p.0 field) (has field row)

-- rows have the field
unfoldable pub within : ℕ → List Row → Bool
within field [] = false
within field (row ∷ rows) = either (has field row) (within field rows)

-- no field of a row comes again, behind it in the row or in the rows below
unfoldable pub apart : Row → List Row → Bool
apart [] rows = true
apart (p ∷ row) rows = both (not (either (has p.0 row) (within p.0 rows))) (apart row rows)

-- each row has 32 bits, and no field comes twice
unfoldable pub sound : List Row → Bool
sound [] = true
sound (row ∷ rows) = both (eqb (bits row) 32) (both (apart row rows) (sound rows))

-- writing: the word that a row makes of the fields' values
unfoldable pub joined : Row → (ℕ → ℕ) → ℕ
joined [] values = 0
joined (p ∷ row) values = values p.0 * 2 ^ bits row + joined row values

-- and the words that rows make
unfoldable pub laid : List Row → (ℕ → ℕ) → ℕ → ℕ
laid rows values i = joined (get_or rows i []) values

-- reading: the value of a field in a row's word
unfoldable pub cut : ℕ → Row → ℕ → ℕ
cut field [] word = 0
cut field (p ∷ row) word = pick (eqb p.0 field) (word / 2 ^ bits row % 2 ^ p.1) (cut field row word)

-- and in the words of rows, 0 where they don't have it
unfoldable pub value_by : List Row → (ℕ → ℕ) → ℕ → ℕ
value_by [] words field = 0
value_by (row ∷ rows) words field =
    pick (has field row) (cut field row (words 0)) (value_by rows (λ i. words (suc i)) field)

-- what is left of values in the words that they make
unfoldable pub kept_by : List Row → (ℕ → ℕ) → ℕ → ℕ
kept_by rows values field = pick (within field rows) (values field) 0

-- the row that a field stands in
unfoldable pub row_of : ℕ → List Row → ℕ
row_of field [] = 0
row_of field (row ∷ rows) = pick (has field row) 0 (suc (row_of field rows))

-- the bits before a field in its row
unfoldable pub before : ℕ → Row → ℕ
before field [] = 0
before field (p ∷ row) = pick (eqb p.0 field) 0 (p.1 + before field row)

-- and in the rows
unfoldable pub offset_in : ℕ → List Row → ℕ
offset_in field [] = 0
offset_in field (row ∷ rows) = pick (has field row) (before field row) (bits row + offset_in field rows)

-- the bits of a field in its row
unfoldable pub width : ℕ → Row → ℕ
width field [] = 0
width field (p ∷ row) = pick (eqb p.0 field) p.1 (width field row)

-- and in the rows
unfoldable pub width_in : ℕ → List Row → ℕ
width_in field rows = width field (get_or rows (row_of field rows) [])

-- what holds of each part of a row
abbrev pub EachPart : (Part → Type 0) → Row → Type 0
EachPart P [] = Unit
EachPart P (p ∷ row) = P p × EachPart P row

-- and of each part of the rows
abbrev pub Each : (Part → Type 0) → List Row → Type 0
Each P [] = Unit
Each P (row ∷ rows) = EachPart P row × Each P rows

-- a value is below what the bits of its part hold
abbrev pub Below : (ℕ → ℕ) → Part → Type 0
Below values p = values p.0 < 2 ^ p.1
