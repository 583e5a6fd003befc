-- Laws of the header's rows: with and without a proxy they are sound, begin alike, and a header's words say by which of them they are laid.
use Rattle.std.proofs.Common.{◌≡◌, ℕ, zero, suc, ◌+◌, ◌-◌, ◌/◌, ◌%◌, ◌<◌, ◌≤◌, Bool, true, false, List, [], length, get_or, sym, refl, ap, ◌∙◌, arith}
use Rattle.rows.specs.Rows.{Row, bits, has, within, apart, sound, cut, laid, value_by, kept_by, row_of, Each, Below}
use Rattle.rows.proofs.Rows.{value_cong, value_front, value_laid, values_cong, values_laid, within_front, row_one}
use Rattle.frame.specs.Layout.{version, DHL, protocol, payload_length, identification, retry, flags, TTL, checksum, source, destination, proxy, front, more_of, rows_of, words_with, is_pf, rows_in, value_in}
use Rattle.frame.specs.Asks.{Told}

pub rows_sound : (b : Bool) → sound (rows_of b) ≡ true
unfolding sound apart within has bits more_of
rows_sound true = refl
rows_sound false = refl

-- a proxy is one word more
pub words_more : words_with true ≡ words_with false + 1
unfolding more_of
words_more = refl

pub words_fit : (b : Bool) → (5 ≤ words_with b) × (words_with b ≤ 6)
unfolding more_of
words_fit true = (omega arith, omega arith)
words_fit false = (omega arith, omega arith)

pub told_fits : (words : ℕ → ℕ) (count : ℕ) (b : Bool) → Told words count b → (5 ≤ count) × (count ≤ 6)
told_fits words count b t = let n = words_fit b in (omega (arith, t.agrees, n.0), omega (arith, t.agrees, n.1))

-- by the flags, where there is no other than PF
pub words_flagged : (f : ℕ) → f ≤ 1 → words_with (is_pf f) ≡ words_with false + f
unfolding more_of
words_flagged zero h = refl
words_flagged (suc zero) h = refl
words_flagged (suc (suc f)) h = absurd (omega arith)

-- the row of the checksum is the third
pub checksum_row : (b : Bool) (i : ℕ) → has checksum (get_or (rows_of b) i []) ≡ true → i ≡ 2
unfolding row_of has
checksum_row b i h = row_one (rows_of b) i checksum (rows_sound b) h

-- a field that every header has reads by the rows in front
pub front_read : (words : ℕ → ℕ) (f : ℕ) → within f front ≡ true → value_in words f ≡ value_by front words f
unfolding value_in rows_in
front_read words f h = value_front front (more_of (is_pf (value_by front words flags))) words f h

flags_front : within flags front ≡ true
unfolding within has
flags_front = refl

-- so the rows go by the values
pub rows_read : (words : ℕ → ℕ) → rows_in words ≡ rows_of (is_pf (value_in words flags))
unfolding rows_in
rows_read words = rw (front_read words flags flags_front)

pub values_read : (words : ℕ → ℕ) → value_in words ≡ value_by (rows_of (is_pf (value_in words flags))) words
unfolding value_in
values_read words = ap (λ (rows : List Row). value_by rows words) (rows_read words)

-- words that agree as far as the rows go have the same values
pub values_same : (words other : ℕ → ℕ) → ((i : ℕ) → i < length (rows_in words) → words i ≡ other i) → value_in words ≡ value_in other
unfolding value_in rows_in
values_same words other e =
    rw (← first) (values_cong (rows_of (is_pf (value_by front words flags))) words other e)
  where
    first : value_by front words flags ≡ value_by front other flags
    first =
        let n = words_fit (is_pf (value_by front words flags)) in
        value_cong front words other flags (λ i h. e i (omega (arith, n.0)))

-- words that values make by the rows that their PF says read as what is left of the values
pub values_written : (b : Bool) (values words : ℕ → ℕ) → is_pf (values flags) ≡ b → Each (Below values) (rows_of b)
    → ((i : ℕ) → i < words_with b → words i ≡ laid (rows_of b) values i) → value_in words ≡ kept_by (rows_of b) values
unfolding value_in rows_in
values_written b values words q fit e = rw (first, q) (values_laid (rows_of b) values words fit e)
  where
    first : value_by front words flags ≡ values flags
    first =
        sym (value_front front (more_of b) words flags flags_front)
        ∙ value_laid (rows_of b) values words flags fit e (within_front front (more_of b) flags flags_front)

-- where each field stands, for the code that takes it out of its word
module _ (words : ℕ → ℕ) where
  pub version_in : value_in words version ≡ words 0 / 268435456 % 16
  unfolding value_in rows_in value_by has cut bits
  version_in = refl

  pub DHL_in : value_in words DHL ≡ words 0 / 16777216 % 16
  unfolding value_in rows_in value_by has cut bits
  DHL_in = refl

  pub payload_in : value_in words payload_length ≡ words 0 % 65536
  unfolding value_in rows_in value_by has cut bits
  payload_in = omega arith

  pub flags_in : value_in words flags ≡ words 2 / 16777216 % 16
  unfolding value_in rows_in value_by has cut bits
  flags_in = refl

  pub checksum_in : value_in words checksum ≡ words 2 % 65536
  unfolding value_in rows_in value_by has cut bits
  checksum_in = omega arith

  -- those of a row are its part of the word
  pub parts_in : (value_in words protocol ≡ words 0 / 65536 % 256) × (value_in words retry ≡ words 2 / 268435456 % 16) × (value_in words TTL ≡ words 2 / 65536 % 256)
  unfolding value_in rows_in value_by has cut bits
  parts_in = (refl, refl, refl)

  -- those with a row of their own are its word
  module _ (fit : (i : ℕ) → words i < 4294967296) where
    pub whole_in : (value_in words identification ≡ words 1) × (value_in words source ≡ words 3) × (value_in words destination ≡ words 4)
    unfolding value_in rows_in value_by has cut bits
    whole_in = (omega (arith, fit 1), omega (arith, fit 3), omega (arith, fit 4))

    -- the proxy's is the last, where there is one
    pub proxy_in : is_pf (value_in words flags) ≡ true → value_in words proxy ≡ words (words_with true - 1)
    unfolding more_of value_by has cut bits
    proxy_in q = ap (λ (read : ℕ → ℕ). read proxy) (values_read words) ∙ rw q (omega (arith, fit 5))

  pub no_proxy_in : is_pf (value_in words flags) ≡ false → value_in words proxy ≡ 0
  unfolding more_of value_by has
  no_proxy_in q = ap (λ (read : ℕ → ℕ). read proxy) (values_read words) ∙ rw q
