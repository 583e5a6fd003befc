-- The header's checksum: the ones' complement of the ones' complement sum of its 16-bit words, with the field as zero.
-- Section "Frame header", and RFC 791.
use Rattle.std.specs.Prelude.{ℕ, zero, suc, ◌+◌, ◌-◌, ◌*◌, ◌/◌, ◌%◌, Bool, ◌==◌, nat_lt}
use Rattle.combine.specs.Tests.{pick, both, either}
use Rattle.frame.specs.Layout.{checksum, offset}

-- the ones' complement sum of two 16-bit words: a carry out of the top comes in at the bottom
unfoldable pub plus_ones : ℕ → ℕ → ℕ
plus_ones a b = pick (nat_lt 65535 (a + b)) (a + b - 65535) (a + b)

-- the ones' complement sum of the first n of a run of 16-bit words
unfoldable pub sum_ones : (ℕ → ℕ) → ℕ → ℕ
sum_ones run zero = 0
sum_ones run (suc n) = plus_ones (sum_ones run n) (run n)

-- a run with zero at a place
unfoldable pub without : ℕ → (ℕ → ℕ) → ℕ → ℕ
without place run i = pick (i == place) 0 (run i)

-- the checksum of the first n of a run, with what stands at the place as zero
unfoldable pub checksum_of : ℕ → (ℕ → ℕ) → ℕ → ℕ
checksum_of place run n = 65535 - sum_ones (without place run) n

-- the 16-bit words of a header given by its words: two of each
unfoldable pub halves : (ℕ → ℕ) → ℕ → ℕ
halves words j = pick (j % 2 == 0) (words (j / 2) / 65536) (words (j / 2) % 65536)

-- the checksum field's number among the 16-bit words
unfoldable pub checksum_place : ℕ
checksum_place = offset checksum / 16

-- the checksum of a header of n words
unfoldable pub header_checksum : (ℕ → ℕ) → ℕ → ℕ
header_checksum words n = checksum_of checksum_place (halves words) (2 * n)

-- the plain sum of the first n of a run
unfoldable pub total : (ℕ → ℕ) → ℕ → ℕ
total run zero = 0
total run (suc n) = total run n + run n

-- a plain sum with every carry brought in again: the ones' complement sum of what was summed
unfoldable pub folded : ℕ → ℕ
folded sum = pick (sum == 0) 0 ((sum - 1) % 65535 + 1)

-- 0000 turned into FFFF or back: the one change of a word that a ones' complement sum can't see
unfoldable pub unseen : ℕ → ℕ → Bool
unseen old new = either (both (old == 0) (new == 65535)) (both (old == 65535) (new == 0))
