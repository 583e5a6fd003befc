-- Worked values: the three lines of the night sheet's example, the edges of a decimal number, and of a room.
-- Sections "The night sheet" and "Refusal numbers".
use Rattle.std.specs.Prelude.{◌≡◌, refl, true, false, [], ◌∷◌, replicate}
use Rattle.hall.specs.Halls.{full_hall}
use Rattle.forward.specs.Packets.{delivered}
use Rattle.report.specs.Texts.{digits_within, decimal, number_with, hall_line, refused_line, end_line, ending_text, uids_text, packet_head, packet_line}
use Rattle.words.specs.Rooms.{roomy}

zero_digit : decimal 0 ≡ 48 ∷ []
unfolding decimal digits_within
zero_digit = refl

ten : decimal 10 ≡ 49 ∷ 48 ∷ []
unfolding decimal digits_within
ten = refl

with_a_zero : decimal 420 ≡ 52 ∷ 50 ∷ 48 ∷ []
unfolding decimal digits_within
with_a_zero = refl

-- HALL 4 1 0
hall : hall_line (full_hall 4 1 0) ≡ 72 ∷ 65 ∷ 76 ∷ 76 ∷ 32 ∷ 52 ∷ 32 ∷ 49 ∷ 32 ∷ 48 ∷ 10 ∷ []
unfolding hall_line number_with decimal digits_within
hall = refl

-- 0 19 DELIVERED 4 1 : 0 4 7 17 19
packet : packet_line (record { source = 0; dst = 19; ending = delivered; links = 4; reroutes = 1 }) (0 ∷ 4 ∷ 7 ∷ 17 ∷ 19 ∷ 0 ∷ 0 ∷ [])
    ≡ 48 ∷ 32 ∷ 49 ∷ 57 ∷ 32 ∷ 68 ∷ 69 ∷ 76 ∷ 73 ∷ 86 ∷ 69 ∷ 82 ∷ 69 ∷ 68 ∷ 32 ∷ 52 ∷ 32 ∷ 49 ∷ 32 ∷ 58
    ∷ 32 ∷ 48 ∷ 32 ∷ 52 ∷ 32 ∷ 55 ∷ 32 ∷ 49 ∷ 55 ∷ 32 ∷ 49 ∷ 57 ∷ 10 ∷ []
unfolding packet_line packet_head ending_text uids_text number_with decimal digits_within
packet = refl

-- END 1
end : end_line 1 ≡ 69 ∷ 78 ∷ 68 ∷ 32 ∷ 49 ∷ 10 ∷ []
unfolding end_line number_with decimal digits_within
end = refl

-- REFUSED 5 18
refused : refused_line 5 18 ≡ 82 ∷ 69 ∷ 70 ∷ 85 ∷ 83 ∷ 69 ∷ 68 ∷ 32 ∷ 53 ∷ 32 ∷ 49 ∷ 56 ∷ 10 ∷ []
unfolding refused_line number_with decimal digits_within
refused = refl

-- DROP3
drop_three : ending_text 3 ≡ 68 ∷ 82 ∷ 79 ∷ 80 ∷ 51 ∷ 32 ∷ []
unfolding ending_text number_with decimal digits_within
drop_three = refl

-- END 1 has six bytes: a room of seven has them from place 1 on, and none from place 2 on
exact_fit : roomy (replicate 7 0) 1 (end_line 1) ≡ true
unfolding roomy end_line number_with decimal digits_within
exact_fit = refl

one_byte_short : roomy (replicate 7 0) 2 (end_line 1) ≡ false
unfolding roomy end_line number_with decimal digits_within
one_byte_short = refl
