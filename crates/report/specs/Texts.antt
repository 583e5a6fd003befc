-- The lines that the trace prints, as ASCII bytes; every line ends in a newline.
-- Section "The night sheet".
use Rattle.std.specs.Prelude.{List, [], ◌∷◌, ◌++◌, ℕ, zero, suc, min, ◌+◌, ◌/◌, ◌%◌, eqb, ltb, take}
use Rattle.combine.specs.Tests.{pick}
use Rattle.hall.specs.declared.Hall.{Hall}
use Rattle.forward.specs.Packets.{delivered}
use Rattle.report.specs.declared.PacketReport.{PacketReport}

abbrev pub digit_zero : ℕ
digit_zero = 48

abbrev pub space : ℕ
space = 32

abbrev pub newline : ℕ
newline = 10

abbrev pub colon : ℕ
colon = 58

-- the decimal digits of a number, by their last: at most so many
unfoldable pub digits_within : ℕ → ℕ → List ℕ
digits_within zero v = []
digits_within (suc most) v =
    pick (ltb v 10) ((digit_zero + v) ∷ []) (digits_within most (v / 10) ++ ((digit_zero + v % 10) ∷ []))

-- a number in decimal
unfoldable pub decimal : ℕ → List ℕ
decimal v = digits_within (suc v) v

-- a number with a byte behind it
unfoldable pub number_with : ℕ → ℕ → List ℕ
number_with behind v = decimal v ++ (behind ∷ [])

-- HALL and a space
abbrev pub word_hall : List ℕ
word_hall = 72 ∷ 65 ∷ 76 ∷ 76 ∷ 32 ∷ []

-- REFUSED and a space
abbrev pub word_refused : List ℕ
word_refused = 82 ∷ 69 ∷ 70 ∷ 85 ∷ 83 ∷ 69 ∷ 68 ∷ 32 ∷ []

-- END and a space
abbrev pub word_end : List ℕ
word_end = 69 ∷ 78 ∷ 68 ∷ 32 ∷ []

-- DELIVERED and a space
abbrev pub word_delivered : List ℕ
word_delivered = 68 ∷ 69 ∷ 76 ∷ 73 ∷ 86 ∷ 69 ∷ 82 ∷ 69 ∷ 68 ∷ 32 ∷ []

-- DROP
abbrev pub word_drop : List ℕ
word_drop = 68 ∷ 82 ∷ 79 ∷ 80 ∷ []

-- HALL: n, k, b
unfoldable pub hall_line : Hall → List ℕ
hall_line h = word_hall ++ number_with space h.n ++ number_with space h.k ++ number_with newline h.b

-- REFUSED number place
unfoldable pub refused_line : ℕ → ℕ → List ℕ
refused_line number place = word_refused ++ number_with space number ++ number_with newline place

-- END: packets
unfoldable pub end_line : ℕ → List ℕ
end_line packets = word_end ++ number_with newline packets

-- DELIVERED, or DROP and its number, and a space
unfoldable pub ending_text : ℕ → List ℕ
ending_text ending = pick (eqb ending delivered) word_delivered (word_drop ++ number_with space ending)

-- a space and a uid, for each
unfoldable pub uids_text : List ℕ → List ℕ
uids_text [] = []
uids_text (uid ∷ uids) = (space ∷ decimal uid) ++ uids_text uids

-- packet: source, dst, ending, links, reroutes, and a colon
unfoldable pub packet_head : PacketReport → List ℕ
packet_head p =
    number_with space p.source ++ number_with space p.dst ++ ending_text p.ending ++ number_with space p.links
    ++ number_with space p.reroutes ++ (colon ∷ [])

-- and the uids passed: links + 1 of them, at most 256
unfoldable pub packet_line : PacketReport → List ℕ → List ℕ
packet_line p uids = packet_head p ++ uids_text (take (min (p.links + 1) 256) uids) ++ (newline ∷ [])
