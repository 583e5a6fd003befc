-- The header's layout: rows of 32 bits cut into fields, the one description that reading and writing both go by.
-- Section "Frame header", and figure 10 of the paper.
use Rattle.std.specs.Prelude.{ℕ, zero, suc, ◌+◌, ◌*◌, ◌%◌, Bool, true, List, [], ◌∷◌, ◌++◌, length, ◌==◌, slice_index}
use Rattle.combine.specs.Tests.{pick}
use Rattle.rows.specs.Rows.{Row, value_by, offset_in}
use Rattle.words.specs.Words.{big_endian}

-- the fields by name, numbered in the layout's order
abbrev pub version : ℕ
version = 0

abbrev pub DHL : ℕ
DHL = 1

abbrev pub protocol : ℕ
protocol = 2

abbrev pub payload_length : ℕ
payload_length = 3

abbrev pub identification : ℕ
identification = 4

abbrev pub retry : ℕ
retry = 5

abbrev pub flags : ℕ
flags = 6

abbrev pub TTL : ℕ
TTL = 7

abbrev pub checksum : ℕ
checksum = 8

abbrev pub source : ℕ
source = 9

abbrev pub destination : ℕ
destination = 10

abbrev pub proxy : ℕ
proxy = 11

-- the rows that every header has, each field with its bits, the most significant first
abbrev pub front : List Row
front =
    ((version, 4) ∷ (DHL, 4) ∷ (protocol, 8) ∷ (payload_length, 16) ∷ [])
    ∷ ((identification, 32) ∷ [])
    ∷ ((retry, 4) ∷ (flags, 4) ∷ (TTL, 8) ∷ (checksum, 16) ∷ [])
    ∷ ((source, 32) ∷ [])
    ∷ ((destination, 32) ∷ [])
    ∷ []

-- the rows behind them: that of the proxy, where there is one
unfoldable pub more_of : Bool → List Row
more_of proxied = pick proxied (((proxy, 32) ∷ []) ∷ []) []

-- the rows of a header, with or without a proxy
abbrev pub rows_of : Bool → List Row
rows_of proxied = front ++ more_of proxied

-- DHL is their number
abbrev pub words_with : Bool → ℕ
words_with proxied = length (rows_of proxied)

-- the version that there is
abbrev pub the_version : ℕ
the_version = 1

-- PF is the flag of value 1
abbrev pub is_pf : ℕ → Bool
is_pf flagBits = flagBits % 2 == 1

-- a header is given by its words, `words i` being word i; PF says by which rows they are laid
unfoldable pub rows_in : (ℕ → ℕ) → List Row
rows_in words = rows_of (is_pf (value_by front words flags))

-- the value of a field in a header, 0 where its rows don't have it
unfoldable pub value_in : (ℕ → ℕ) → ℕ → ℕ
value_in words = value_by (rows_in words) words

-- the bits before a field in the header
unfoldable pub offset : ℕ → ℕ
offset field = offset_in field (rows_of true)

-- word i of a run of bytes, big-endian
unfoldable pub word_at : List ℕ → ℕ → ℕ
word_at bytes i =
    slice_index bytes (4 * i) * 16777216 + slice_index bytes (4 * i + 1) * 65536 + slice_index bytes (4 * i + 2) * 256
    + slice_index bytes (4 * i + 3)

-- the bytes of the first n words
unfoldable pub bytes_of : (ℕ → ℕ) → ℕ → List ℕ
bytes_of words zero = []
bytes_of words (suc n) = bytes_of words n ++ big_endian (words n)
