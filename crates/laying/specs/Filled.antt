-- A format that is filled: a value for each of its fields. Its bytes, and what reading its values answers.
-- Section "The night sheet": "the first fault in byte order decides, with the offset of its field's first byte".
use Prim.{Unit}
use Rattle.std.specs.Prelude.{◌≡◌, Bool, true, false, List, [], ◌∷◌, ◌++◌, ℕ, ◌+◌, ◌^◌, ◌<◌, length}
use Rattle.combine.specs.Tests.{pick}
use Rattle.sheet.specs.declared.Field.{Field}
use Rattle.sheet.specs.declared.Field.TheVariants.{Value, Refused}
use Rattle.words.specs.Words.{value, bytes_of}
use Rattle.sheet.specs.Formats.{Format, done, field, and_then}
use Rattle.sheet.specs.Sheets.{times}

-- a value for each field, whether it is sound or not; the fields behind it are those that the value calls for
pub data Filled : Format → Type 0 where
  ended : {v : ℕ} → Filled (done v)
  put : {width number : ℕ} {sound : ℕ → Bool} {behind : ℕ → Format} (v : ℕ) → Filled (behind v) → Filled (field width sound number behind)

-- what the format is read for
unfoldable pub result : {f : Format} → Filled f → ℕ
result (ended {v}) = v
result (put v rest) = result rest

-- the bytes: each value big-endian in its field's width, one behind the other
unfoldable pub laid : {f : Format} → Filled f → List ℕ
laid ended = []
laid (put {width} v rest) = bytes_of width v ++ laid rest

-- the first value that is not sound decides, with its field's number and first byte
unfoldable pub judged : {f : Format} → Filled f → ℕ → Field
judged (ended {v}) at = Value v at
judged (put {width} {number} {sound} v rest) at = pick (sound v) (judged rest (at + width)) (Refused number at)

-- what it means that a value is the first that is not sound: its number, and the bytes before its field
pub data FirstUnsound : (f : Format) → Filled f → ℕ → ℕ → Type 0 where
  here : {width number : ℕ} {sound : ℕ → Bool} {behind : ℕ → Format} {v : ℕ} {rest : Filled (behind v)}
      → sound v ≡ false → FirstUnsound (field width sound number behind) (put v rest) number 0
  further : {width own number place : ℕ} {sound : ℕ → Bool} {behind : ℕ → Format} {v : ℕ} {rest : Filled (behind v)}
      → sound v ≡ true → FirstUnsound (behind v) rest number place → FirstUnsound (field width sound own behind) (put v rest) number (width + place)

-- what holds of each field, by its width, its test and its value
unfoldable pub All : (ℕ → (ℕ → Bool) → ℕ → Type 0) → {f : Format} → Filled f → Type 0
All P ended = Unit {0}
All P (put {width} {number} {sound} v rest) = P width sound v × All P rest

-- each value fits its field's width
abbrev pub Fits : {f : Format} → Filled f → Type 0
Fits x = All (λ width sound v. v < 256 ^ width) x

-- each value passes its field's test
abbrev pub Sound : {f : Format} → Filled f → Type 0
Sound x = All (λ width sound v. sound v ≡ true) x

-- the values that stand in a sheet from a place on
unfoldable pub values_in : (f : Format) → List ℕ → ℕ → Filled f
values_in (done v) s at = ended
values_in (field width sound number behind) s at = put (value s at width) (values_in (behind (value s at width)) s (at + width))

-- one filled format behind another
unfoldable pub fill_then : {f : Format} (g : ℕ → Format) (x : Filled f) → Filled (g (result x)) → Filled (and_then f g)
unfolding and_then result
fill_then g ended y = y
fill_then g (put v rest) y = put v (fill_then g rest y)

-- a format so many times, filled from a list
unfoldable pub each {ℓ} : {A : Type ℓ} {f : Format} → (A → Filled f) → (l : List A) → Filled (times (length l) f)
unfolding times
each {f = f} g [] = ended
each {f = f} g (a ∷ l) = fill_then (λ v. times (length l) f) (g a) (each g l)

-- the bytes of each element of a list, one behind the other
unfoldable pub joined {ℓ} : {A : Type ℓ} → (A → List ℕ) → List A → List ℕ
joined g [] = []
joined g (a ∷ l) = g a ++ joined g l

-- what holds of each element of a list
unfoldable pub Every {ℓ} : {A : Type ℓ} → (A → Type 0) → List A → Type 0
Every P [] = Unit {0}
Every P (a ∷ l) = P a × Every P l
