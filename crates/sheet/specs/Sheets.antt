-- The night sheet as a format: its fields in order, and what each of them has to be.
-- Section "The night sheet"; request K5.
use Rattle.std.specs.Prelude.{true, ℕ, zero, suc, eqb, leb, ltb}
use Rattle.combine.specs.Tests.{pick, both, either}
use Rattle.hall.specs.declared.Hall.{Hall}
use Rattle.hall.specs.Halls.{hall_of, capacity, n_fits, k_fits, b_fits, is_full, servers}
use Rattle.hall.specs.Refusals.{bad_hall, bad_uid, bad_length, bad_code, bad_retry, most_retry}
use Rattle.ports.specs.Codes.{known, table_length}
use Rattle.sheet.specs.Formats.{Format, done, field, and_then}

-- at most 65,536 bytes
abbrev pub longest : ℕ
longest = 65536

-- a field of so many bytes, of any value
abbrev pub any : ℕ → Format
any width = field width (λ v. true) 0 done

-- the bytes of the first section: n, k and b; and the count behind them where the hall is not full
abbrev pub full_section : ℕ
full_section = 3

abbrev pub part_section : ℕ
part_section = 7

unfoldable pub section_of : Hall → ℕ
section_of h = pick (is_full h) full_section part_section

-- count one must be 3 or 7, else 4
abbrev pub first_count : Format
first_count = field 4 (λ v. either (eqb v full_section) (eqb v part_section)) bad_length done

-- count two must be t(k) × (k+1), else 4
abbrev pub count : ℕ → Format
count wanted = field 4 (λ v. eqb v wanted) bad_length done

abbrev pub number_n : Format
number_n = field 1 n_fits bad_hall done

abbrev pub number_k : ℕ → Format
number_k n = field 1 (k_fits n) bad_hall done

abbrev pub number_b : ℕ → Format
number_b k = field 1 (b_fits k) bad_hall done

-- the DCell1s fitted, fewer than the hall can have; with k below 2 there is no such number
abbrev pub number_count : ℕ → ℕ → Format
number_count n k = field 4 (λ v. both (leb 2 k) (ltb v (capacity n k))) bad_hall done

-- a section of 7 bytes carries their number; a section of 3 bytes is that of a full hall
unfoldable pub fitted : ℕ → ℕ → ℕ → Format
fitted first n k = pick (eqb first part_section) (number_count n k) (done (capacity n k))

abbrev pub code : Format
code = field 1 known bad_code done

abbrev pub uid : ℕ → Format
uid limit = field 4 (λ v. ltb v limit) bad_uid done

-- 0 to the greatest
abbrev pub retry : Format
retry = field 1 (λ v. leb v most_retry) bad_retry done

-- a format so many times
unfoldable pub times : ℕ → Format → Format
times zero f = done 0
times (suc rest) f = and_then f (λ v. times rest f)

-- the hall table
abbrev pub codes : ℕ → Format
codes bytes = times bytes code

-- source 4, dst 4, retry 1, TTL 1
unfoldable pub packet : ℕ → Format
packet limit = and_then (uid limit) (λ source. and_then (uid limit) (λ dst. and_then retry (λ v. any 1)))

abbrev pub packets : ℕ → ℕ → Format
packets limit packetCount = times packetCount (packet limit)

-- what stands behind the codes: the packets, whose count it is read for
abbrev pub behind_codes : ℕ → ℕ → Format
behind_codes limit v = and_then (any 4) (λ packetCount. and_then (packets limit packetCount) (λ v. done packetCount))

-- the sections behind the hall's: its table, and the packets
unfoldable pub tables_of : Hall → Format
tables_of h = and_then (count (table_length h)) (λ bytes. and_then (codes bytes) (behind_codes (servers h)))

-- the first section, and what the hall that it names calls for behind it
abbrev pub hall_then : (Hall → Format) → Format
hall_then behind =
    and_then first_count (λ first. and_then number_n (λ n. and_then (number_k n) (λ k. and_then (number_b k) (λ b.
    and_then (fitted first n k) (λ count. behind (hall_of n k b count))))))

-- each section after a 4-byte big-endian count
unfoldable pub night_sheet : Format
night_sheet = hall_then tables_of
