-- What an accepted sheet holds.
-- Section "The night sheet"; request K5.
use Rattle.std.specs.Prelude.{◌≡◌, true, List, ℕ, ◌+◌, ◌≤◌, ◌<◌, length}
use Rattle.hall.specs.declared.Hall.{Hall}
use Rattle.hall.specs.Refusals.{most_retry}
use Rattle.hall.specs.Halls.{valid, servers}
use Rattle.ports.specs.Codes.{known, table_length}
use Rattle.words.specs.Words.{value}
use Rattle.sheet.specs.Sheets.{longest, section_of}
use Rattle.sheet.specs.Answers.{count_place, codes_place, code_count_of, hall_in, packet_place}

-- the third count
unfoldable pub packet_count_of : List ℕ → ℕ
packet_count_of s = value s (codes_place s + code_count_of s) 4

-- source and dst below t(k), retry at most the greatest
pub record PacketFits (h : Hall) (s : List ℕ) (at : ℕ) : Type 0 where
  pub source : value s at 4 < servers h
  pub dst : value s (at + 4) 4 < servers h
  pub retry : value s (at + 8) 1 ≤ most_retry

-- a sound first section: it has 7 bytes exactly where the hall is not full, else 3
pub record Head (s : List ℕ) : Type 0 where
  pub first : value s 0 4 ≡ section_of (hall_in s)
  pub hall : valid (hall_in s) ≡ true
  pub there : count_place s ≤ length s

pub record Accepted (s : List ℕ) : Type 0 where
  pub short : length s ≤ longest
  pub first : value s 0 4 ≡ section_of (hall_in s)
  pub hall : valid (hall_in s) ≡ true
  pub second : code_count_of s ≡ table_length (hall_in s)
  pub codes : (i : ℕ) → i < code_count_of s → known (value s (codes_place s + i) 1) ≡ true
  pub packets : (i : ℕ) → i < packet_count_of s → PacketFits (hall_in s) s (packet_place s i)
  pub whole : length s ≡ packet_place s (packet_count_of s)
