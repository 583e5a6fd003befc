-- Laws of a field's place: by its offset alone, a field is read where it stands, whatever the rows.
use mathlib.Core.Path.{◌≡◌, refl, ◌∙◌}
use mathlib.Core.Bool.{true}
use mathlib.Core.List.{List, [], ◌∷◌, ◌++◌}
use Prim.Native.Nat.{ℕ, zero, suc, ◌+◌, ◌-◌, ◌*◌, ◌/◌, ◌%◌, ◌^◌, ◌≤◌, ◌<◌}
use native.Mathlib.Omega.{arith}
use lib.Dec.{eqb}
use lib.ListN.{length, get_or}
use Rattle.combine.proofs.Tests.{cases, never}
use Rattle.rows.specs.Rows.{Row, bits, has, within, sound, cut, value_by, row_of, before, offset_in, width, width_in}
use Rattle.rows.proofs.Rows.{sound_bits, sound_rest, value_here, value_below}

-- in a row: a field's bits lie behind those before it
pub width_fits : (row : Row) (f : ℕ) → has f row ≡ true → before f row + width f row ≤ bits row
unfolding before width bits has
width_fits [] f h = never h refl
width_fits (p ∷ row) f h =
    cases (eqb p.0 f) (λ q. rw q (omega arith)) (λ q. rw q (omega (arith, width_fits row f (rw q at h))))

pub cut_place : (row : Row) (f word : ℕ) → has f row ≡ true → cut f row word ≡ word / 2 ^ (bits row - (before f row + width f row)) % 2 ^ width f row
unfolding cut before width bits has
cut_place [] f word h = never h refl
cut_place (p ∷ row) f word h =
    cases (eqb p.0 f)
    (λ q. let e : p.1 + bits row - (0 + p.1) ≡ bits row = omega arith in rw (q, e))
    (λ q.
    let w = width_fits row f (rw q at h) in
    let e : p.1 + bits row - (p.1 + before f row + width f row) ≡ bits row - (before f row + width f row) = omega arith in
    rw (q, e) (cut_place row f word (rw q at h)))

-- in rows: the row, its word, and the offset
pub value_row : (rows : List Row) (words : ℕ → ℕ) (f : ℕ) → within f rows ≡ true → value_by rows words f ≡ cut f (get_or rows (row_of f rows) []) (words (row_of f rows))
unfolding within row_of
value_row [] words f h = never h refl
value_row (row ∷ rows) words f h =
    cases (has f row) (λ q. rw q (value_here row rows words f q))
    (λ q. rw q (value_below row rows words f q ∙ value_row rows (λ i. words (suc i)) f (rw q at h)))

pub row_has : (rows : List Row) (f : ℕ) → within f rows ≡ true → has f (get_or rows (row_of f rows) []) ≡ true
unfolding within row_of
row_has [] f h = never h refl
row_has (row ∷ rows) f h = cases (has f row) (λ q. rw (q, q)) (λ q. rw q (row_has rows f (rw q at h)))

pub row_there : (rows : List Row) (f : ℕ) → within f rows ≡ true → row_of f rows < length rows
unfolding within row_of
row_there [] f h = never h refl
row_there (row ∷ rows) f h = cases (has f row) (λ q. rw q (omega arith)) (λ q. rw q (omega (arith, row_there rows f (rw q at h))))

pub row_bits : (rows : List Row) (i : ℕ) → sound rows ≡ true → i < length rows → bits (get_or rows i []) ≡ 32
row_bits [] i s h = absurd (omega arith)
row_bits (row ∷ rows) zero s h = sound_bits row rows s
row_bits (row ∷ rows) (suc i) s h = row_bits rows i (sound_rest row rows s) (omega arith)

pub offset_row : (rows : List Row) (f : ℕ) → sound rows ≡ true → within f rows ≡ true → offset_in f rows ≡ 32 * row_of f rows + before f (get_or rows (row_of f rows) [])
unfolding within row_of offset_in
offset_row [] f s h = never h refl
offset_row (row ∷ rows) f s h =
    cases (has f row) (λ q. rw q (omega arith))
    (λ q. rw q (omega (arith, sound_bits row rows s, offset_row rows f (sound_rest row rows s) (rw q at h))))

-- a field that has a bit is the bits of its word from its offset on
pub value_at : (rows : List Row) (words : ℕ → ℕ) (f : ℕ) → sound rows ≡ true → within f rows ≡ true → 0 < width_in f rows
    → value_by rows words f ≡ words (offset_in f rows / 32) / 2 ^ (32 - (offset_in f rows % 32 + width_in f rows)) % 2 ^ width_in f rows
unfolding width_in
value_at rows words f s h w =
    let i = row_of f rows in
    let row : Row = get_or rows (row_of f rows) [] in
    let b = row_bits rows (row_of f rows) s (row_there rows f h) in
    let o = offset_row rows f s h in
    let k = width_fits row f (row_has rows f h) in
    let e₁ : offset_in f rows / 32 ≡ row_of f rows = omega arith in
    let e₂ : offset_in f rows % 32 ≡ before f (get_or rows (row_of f rows) []) = omega arith in
    rw (e₁, e₂) (value_row rows words f h ∙ cut_place row f (words (row_of f rows)) (row_has rows f h) ∙ rw b)

-- rows behind don't move a field
pub offset_front : (rows more : List Row) (f : ℕ) → within f rows ≡ true → offset_in f (rows ++ more) ≡ offset_in f rows
unfolding within offset_in
offset_front [] more f h = never h refl
offset_front (row ∷ rows) more f h = cases (has f row) (λ q. rw q) (λ q. rw (q, offset_front rows more f (rw q at h)))
