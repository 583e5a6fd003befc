-- Numbers as bytes, the highest first.
-- Sections "Route without failures", "Frame header" and "The night sheet": "big-endian".
use Rattle.std.specs.Prelude.{List, [], ◌∷◌, ◌++◌, ℕ, zero, suc, ◌+◌, ◌*◌, ◌/◌, ◌%◌, ◌<◌, leb, length, get_or}
use Rattle.combine.specs.Tests.{pick}

-- a byte string
pub record Bytes (s : List ℕ) : Type 0 where
  pub below : (i : ℕ) → get_or s i 0 < 256

-- a number in so many bytes
unfoldable pub bytes_of : ℕ → ℕ → List ℕ
bytes_of zero v = []
bytes_of (suc width) v = bytes_of width (v / 256) ++ (v % 256 ∷ [])

-- the four bytes of a word
abbrev pub big_endian : ℕ → List ℕ
big_endian word = word / 16777216 % 256 ∷ word / 65536 % 256 ∷ word / 256 % 256 ∷ word % 256 ∷ []

-- the bytes of words, one behind the other
unfoldable pub words_bytes : List ℕ → List ℕ
words_bytes [] = []
words_bytes (word ∷ words) = big_endian word ++ words_bytes words

-- the number in so many bytes from a place on
unfoldable pub value : List ℕ → ℕ → ℕ → ℕ
value s at zero = 0
value s at (suc width) = value s at width * 256 + get_or s (at + width) 0

-- the number in four bytes; 0 where they are not there
unfoldable pub word_at : List ℕ → ℕ → ℕ
word_at s at = pick (leb (at + 4) (length s)) (value s at 4) 0
