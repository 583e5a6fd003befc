-- Laws of one row: what is joined is cut out again, and what is cut out joins to the word, whatever the row.
use mathlib.Core.Path.{◌≡◌, refl, ◌∙◌, ap, sym}
use mathlib.Core.Bool.{Bool, true, false, not}
use mathlib.Core.List.{List, [], ◌∷◌}
use Prim.Native.Nat.{ℕ, ◌+◌, ◌/◌, ◌%◌, ◌^◌, ◌<◌}
use native.Mathlib.Nat.{mod-eq_of_lt, mod-lt}
use native.Mathlib.Omega.{arith}
use lib.Arith.{digits_lt}
use lib.Dec.{eqb}
use lib.Pow.{pow_pos, pow-add, high, low, field, mod-mod-pow, mod-pow-add}
use borrow.Author.Tests.{eq-eqb, ne_eqb, eqb-true, not-true}
use Rattle.combine.specs.Tests.{either}
use Rattle.combine.proofs.Tests.{cases, never, both_left, both_right, either_cases}
use Rattle.rows.specs.Rows.{Part, Row, bits, has, within, apart, joined, cut, EachPart, Below}

-- a test of two, where neither holds
pub neither_left : (a b : Bool) → either a b ≡ false → a ≡ false
neither_left true b e = e
neither_left false b e = refl

pub neither_right : (a b : Bool) → either a b ≡ false → b ≡ false
neither_right true b e = never refl e
neither_right false b e = e

-- the first field of a row, and the others
pub cut_first : (p : Part) (row : Row) (f word : ℕ) → p.0 ≡ f → cut f (p ∷ row) word ≡ word / 2 ^ bits row % 2 ^ p.1
unfolding cut
cut_first p row f word e = rw (eq-eqb p.0 f e)

pub cut_later : (p : Part) (row : Row) (f word : ℕ) → eqb p.0 f ≡ false → cut f (p ∷ row) word ≡ cut f row word
unfolding cut
cut_later p row f word e = rw e

-- a row goes by its own bits of the word
pub cut_low : (row : Row) (f word : ℕ) → cut f row (word % 2 ^ bits row) ≡ cut f row word
unfolding cut bits
cut_low [] f word = refl
cut_low (p ∷ row) f word =
    cases (eqb p.0 f)
    (λ q. rw (q, field word p.1 (bits row)) (mod-eq_of_lt (mod-lt (word / 2 ^ bits row) (pow_pos p.1))))
    (λ q.
    rw q
    (sym (cut_low row f (word % 2 ^ (p.1 + bits row)))
    ∙ ap (cut f row) (mod-mod-pow word p.1 (bits row))
    ∙ cut_low row f word))

-- values below their bits make a word of the row's bits
pub joined_fits : (row : Row) (values : ℕ → ℕ) → EachPart (Below values) row → joined row values < 2 ^ bits row
unfolding joined bits
joined_fits [] values b = omega arith
joined_fits (p ∷ row) values b =
    rw (pow-add 2 p.1 (bits row)) (digits_lt b.0 (joined_fits row values b.1))

-- the value of a field in the word that a row makes of values below their bits is the value
pub cut_joined : (row : Row) (values : ℕ → ℕ) (f : ℕ) → EachPart (Below values) row → has f row ≡ true → cut f row (joined row values) ≡ values f
unfolding joined has
cut_joined [] values f b h = never h refl
cut_joined (p ∷ row) values f b h =
    cases (eqb p.0 f)
    (λ q.
    let e : p.0 ≡ f = eqb-true p.0 f q in
    cut_first p row f (joined (p ∷ row) values) e
    ∙ ap (λ (v : ℕ). v % 2 ^ p.1) (high (values p.0) (bits row) (joined_fits row values b.1))
    ∙ mod-eq_of_lt b.0
    ∙ ap values e)
    (λ q.
    cut_later p row f (joined (p ∷ row) values) q
    ∙ sym (cut_low row f (joined (p ∷ row) values))
    ∙ ap (cut f row) (low (values p.0) (bits row) (joined_fits row values b.1))
    ∙ cut_joined row values f b.1 (rw q at h))

-- a word goes by the values of the row's fields
pub joined_cong : (row : Row) (values other : ℕ → ℕ) → ((f : ℕ) → has f row ≡ true → values f ≡ other f) → joined row values ≡ joined row other
unfolding joined has
joined_cong [] values other e = refl
joined_cong (p ∷ row) values other e =
    rw (e p.0 (rw (eq-eqb p.0 p.0 refl)), joined_cong row values other (λ f h. e f (later f h)))
  where
    later : (f : ℕ) → has f row ≡ true → either (eqb p.0 f) (has f row) ≡ true
    later f h = cases (eqb p.0 f) (λ q. rw q) (λ q. rw (q, h))

-- a field of a row that is apart from what is below
pub apart_row : (p : Part) (row : Row) (rows : List Row) → apart (p ∷ row) rows ≡ true → has p.0 row ≡ false
unfolding apart
apart_row p row rows s = neither_left (has p.0 row) (within p.0 rows) (not-true _ (both_left _ _ s))

pub apart_rest : (p : Part) (row : Row) (rows : List Row) → apart (p ∷ row) rows ≡ true → apart row rows ≡ true
unfolding apart
apart_rest p row rows s = both_right (not (either (has p.0 row) (within p.0 rows))) _ s

-- no field of it is below
pub apart_below : (row : Row) (rows : List Row) (f : ℕ) → apart row rows ≡ true → has f row ≡ true → within f rows ≡ false
unfolding apart has
apart_below [] rows f s h = never h refl
apart_below (p ∷ row) rows f s h =
    either_cases (eqb p.0 f) (has f row) h
    (λ q.
    let e : p.0 ≡ f = eqb-true p.0 f q in
    rw (← e) (neither_right (has p.0 row) (within p.0 rows) (not-true _ (both_left _ _ s))))
    (λ q. apart_below row rows f (apart_rest p row rows s) q)

-- the fields of a row, none of them twice, leave no bit of its word free
pub joined_cut : (row : Row) (rows : List Row) (word : ℕ) → apart row rows ≡ true → joined row (λ f. cut f row word) ≡ word % 2 ^ bits row
unfolding joined bits
joined_cut [] rows word s = omega arith
joined_cut (p ∷ row) rows word s =
    rw (
      cut_first p row p.0 word refl,
      joined_cong row (λ f. cut f (p ∷ row) word) (λ f. cut f row word) other,
      joined_cut row rows word (apart_rest p row rows s),
    )
    (sym (mod-pow-add word p.1 (bits row)))
  where
    other : (f : ℕ) → has f row ≡ true → cut f (p ∷ row) word ≡ cut f row word
    other f h =
        cut_later p row f word
        (ne_eqb p.0 f (λ e. never (rw (← e) at h) (apart_row p row rows s)))
