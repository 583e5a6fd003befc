-- Laws of any number of rows: each value reads back from where it was laid, and words are what their values lay.
use mathlib.Core.Path.{◌≡◌, refl, ◌∙◌, ap, fun_ext}
use mathlib.Core.Bool.{true, false}
use mathlib.Core.List.{List, [], ◌∷◌, ◌++◌}
use Prim.Native.Nat.{ℕ, zero, suc, ◌^◌, ◌<◌}
use native.Mathlib.Nat.{mod-eq_of_lt}
use native.Mathlib.Omega.{arith}
use lib.Dec.{eqb}
use lib.ListN.{length, get_or}
use borrow.Author.Tests.{eqb-true}
use Rattle.combine.proofs.Tests.{cases, never, both_left, both_right, either_cases}
use Rattle.rows.specs.Rows.{Row, bits, has, within, apart, sound, joined, laid, cut, value_by, kept_by, row_of, EachPart, Each, Below}
use Rattle.rows.proofs.Row.{neither_left, neither_right, joined_fits, cut_joined, joined_cong, apart_below, joined_cut}

-- rows by their first row
module _ (row : Row) (rows : List Row) (s : sound (row ∷ rows) ≡ true) where
  pub sound_bits : bits row ≡ 32
  unfolding sound
  sound_bits = eqb-true (bits row) 32 (both_left _ _ s)

  pub sound_apart : apart row rows ≡ true
  unfolding sound
  sound_apart = both_left _ _ (both_right (eqb (bits row) 32) _ s)

  pub sound_rest : sound rows ≡ true
  unfolding sound
  sound_rest = both_right (apart row rows) _ (both_right (eqb (bits row) 32) _ s)

pub value_here : (row : Row) (rows : List Row) (words : ℕ → ℕ) (f : ℕ) → has f row ≡ true → value_by (row ∷ rows) words f ≡ cut f row (words 0)
unfolding value_by
value_here row rows words f h = rw h

pub value_below : (row : Row) (rows : List Row) (words : ℕ → ℕ) (f : ℕ) → has f row ≡ false → value_by (row ∷ rows) words f ≡ value_by rows (λ i. words (suc i)) f
unfolding value_by
value_below row rows words f h = rw h

-- what is read goes by the rows' own words
pub value_cong : (rows : List Row) (words other : ℕ → ℕ) (f : ℕ) → ((i : ℕ) → i < length rows → words i ≡ other i) → value_by rows words f ≡ value_by rows other f
unfolding value_by
value_cong [] words other f e = refl
value_cong (row ∷ rows) words other f e =
    rw (e 0 (omega arith), value_cong rows (λ i. words (suc i)) (λ i. other (suc i)) f (λ i h. e (suc i) (omega arith)))

-- a field of the first rows is one of all
pub within_front : (rows more : List Row) (f : ℕ) → within f rows ≡ true → within f (rows ++ more) ≡ true
unfolding within
within_front [] more f h = never h refl
within_front (row ∷ rows) more f h = cases (has f row) (λ q. rw q) (λ q. rw q (within_front rows more f (rw q at h)))

-- a field of the first rows reads alike, whatever rows come behind
pub value_front : (rows more : List Row) (words : ℕ → ℕ) (f : ℕ) → within f rows ≡ true → value_by (rows ++ more) words f ≡ value_by rows words f
unfolding value_by within
value_front [] more words f h = never h refl
value_front (row ∷ rows) more words f h =
    cases (has f row) (λ q. rw q) (λ q. rw q (value_front rows more (λ i. words (suc i)) f (rw q at h)))

-- a field that is not there reads as 0
pub value_absent : (rows : List Row) (words : ℕ → ℕ) (f : ℕ) → within f rows ≡ false → value_by rows words f ≡ 0
unfolding value_by within
value_absent [] words f h = refl
value_absent (row ∷ rows) words f h =
    rw (neither_left (has f row) (within f rows) h) (value_absent rows (λ i. words (suc i)) f (neither_right (has f row) (within f rows) h))

-- the words that values make by a row's values alone
pub laid_cong : (rows : List Row) (values other : ℕ → ℕ) (i : ℕ) → ((f : ℕ) → has f (get_or rows i []) ≡ true → values f ≡ other f) → laid rows values i ≡ laid rows other i
unfolding laid
laid_cong rows values other i e = joined_cong (get_or rows i []) values other e

-- what stands in a row stands in the rows
pub row_within : (rows : List Row) (i f : ℕ) → has f (get_or rows i []) ≡ true → within f rows ≡ true
unfolding within has
row_within [] i f h = h
row_within (row ∷ rows) zero f h = rw h
row_within (row ∷ rows) (suc i) f h = cases (has f row) (λ q. rw q) (λ q. rw (q, row_within rows i f h))

-- what holds of each part's field holds of every field of the rows
pub each_part : (P : ℕ → Type 0) (row : Row) (f : ℕ) → EachPart (λ p. P p.0) row → has f row ≡ true → P f
unfolding has
each_part P [] f e h = never h refl
each_part P (p ∷ row) f e h =
    either_cases (eqb p.0 f) (has f row) h (λ q. rw (← eqb-true p.0 f q) e.0) (λ q. each_part P row f e.1 q)

pub each_field : (P : ℕ → Type 0) (rows : List Row) (f : ℕ) → Each (λ p. P p.0) rows → within f rows ≡ true → P f
unfolding within
each_field P [] f e h = never h refl
each_field P (row ∷ rows) f e h =
    either_cases (has f row) (within f rows) h (each_part P row f e.0) (each_field P rows f e.1)

-- a row that has a field of sound rows is the field's
pub row_one : (rows : List Row) (i f : ℕ) → sound rows ≡ true → has f (get_or rows i []) ≡ true → i ≡ row_of f rows
unfolding row_of has
row_one [] i f s h = never h refl
row_one (row ∷ rows) zero f s h = rw h
row_one (row ∷ rows) (suc i) f s h =
    cases (has f row) (λ q. never (row_within rows i f h) (apart_below row rows f (sound_apart row rows s) q))
    (λ q. rw q (ap suc (row_one rows i f (sound_rest row rows s) h)))

-- the first rows make their words, whatever rows come behind
pub laid_front : (rows more : List Row) (values : ℕ → ℕ) (i : ℕ) → i < length rows → laid (rows ++ more) values i ≡ laid rows values i
unfolding laid
laid_front [] more values i h = absurd (omega arith)
laid_front (row ∷ rows) more values zero h = refl
laid_front (row ∷ rows) more values (suc i) h = laid_front rows more values i (omega arith)

-- values below their bits make words of 32 bits
pub laid_fits : (rows : List Row) (values : ℕ → ℕ) (i : ℕ) → sound rows ≡ true → Each (Below values) rows → laid rows values i < 4294967296
unfolding laid joined
laid_fits [] values i s b = omega arith
laid_fits (row ∷ rows) values zero s b =
    let e : 2 ^ bits row ≡ 4294967296 = ap (λ (n : ℕ). 2 ^ n) (sound_bits row rows s) in
    rw e at (joined_fits row values b.0)
laid_fits (row ∷ rows) values (suc i) s b = laid_fits rows values i (sound_rest row rows s) b.1

-- words that values make by rows read back to the values, at every field of the rows
pub value_laid : (rows : List Row) (values words : ℕ → ℕ) (f : ℕ) → Each (Below values) rows → ((i : ℕ) → i < length rows → words i ≡ laid rows values i)
    → within f rows ≡ true → value_by rows words f ≡ values f
unfolding within laid
value_laid [] values words f b e h = never h refl
value_laid (row ∷ rows) values words f b e h =
    cases (has f row)
    (λ q. value_here row rows words f q ∙ ap (cut f row) (e 0 (omega arith)) ∙ cut_joined row values f b.0 q)
    (λ q.
    value_below row rows words f q
    ∙ value_laid rows values (λ i. words (suc i)) f b.1 (λ i l. e (suc i) (omega arith)) (rw q at h))

-- as functions of the field: words that agree have the same values, and what is laid reads as what is left of it
pub values_cong : (rows : List Row) (words other : ℕ → ℕ) → ((i : ℕ) → i < length rows → words i ≡ other i) → value_by rows words ≡ value_by rows other
values_cong rows words other e = fun_ext (λ f. value_cong rows words other f e)

pub values_laid : (rows : List Row) (values words : ℕ → ℕ) → Each (Below values) rows → ((i : ℕ) → i < length rows → words i ≡ laid rows values i)
    → value_by rows words ≡ kept_by rows values
unfolding kept_by
values_laid rows values words b e =
    fun_ext
    (λ f. cases (within f rows) (λ q. rw q (value_laid rows values words f b e q)) (λ q. rw q (value_absent rows words f q)))

-- words of 32 bits are what their values make
pub laid_value : (rows : List Row) (words : ℕ → ℕ) (i : ℕ) → sound rows ≡ true → i < length rows → words i < 4294967296 → laid rows (value_by rows words) i ≡ words i
unfolding laid
laid_value [] words i s l h = absurd (omega arith)
laid_value (row ∷ rows) words zero s l h =
    let e : 2 ^ bits row ≡ 4294967296 = ap (λ (n : ℕ). 2 ^ n) (sound_bits row rows s) in
    joined_cong row (value_by (row ∷ rows) words) (λ f. cut f row (words 0)) (value_here row rows words)
    ∙ joined_cut row rows (words 0) (sound_apart row rows s)
    ∙ rw e (mod-eq_of_lt h)
laid_value (row ∷ rows) words (suc i) s l h =
    joined_cong (get_or rows i []) (value_by (row ∷ rows) words) (value_by rows (λ j. words (suc j)))
    (λ f q. value_below row rows words f (above f q))
    ∙ laid_value rows (λ j. words (suc j)) i (sound_rest row rows s) (omega arith) h
  where
    above : (f : ℕ) → has f (get_or rows i []) ≡ true → has f row ≡ false
    above f q = cases (has f row) (λ p. never (row_within rows i f q) (apart_below row rows f (sound_apart row rows s) p)) (λ p. p)
