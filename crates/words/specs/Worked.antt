-- Worked values: the first and third word of the bench header, and a room that just has a word, and one that has not.
-- Section "Bench cases".
use Rattle.std.specs.Prelude.{◌≡◌, refl, [], ◌∷◌}
use Rattle.words.specs.Words.{bytes_of, big_endian, words_bytes, value, word_at}
use Rattle.words.specs.Rooms.{put, roomy, room_of}

-- 1506 0000 and 500F 9AD6
word_first : big_endian 352714752 ≡ 21 ∷ 6 ∷ 0 ∷ 0 ∷ []
word_first = refl

in_four_bytes : bytes_of 4 1343199958 ≡ 80 ∷ 15 ∷ 154 ∷ 214 ∷ []
unfolding bytes_of
in_four_bytes = refl

read_back : word_at (0 ∷ 80 ∷ 15 ∷ 154 ∷ 214 ∷ []) 1 ≡ 1343199958
unfolding word_at value
read_back = refl

cut : word_at (0 ∷ 80 ∷ 15 ∷ 154 ∷ 214 ∷ []) 2 ≡ 0
unfolding word_at value
cut = refl

exact_fit : room_of (9 ∷ 9 ∷ 9 ∷ 9 ∷ 9 ∷ []) 1 (words_bytes (258 ∷ [])) ≡ 9 ∷ 0 ∷ 0 ∷ 1 ∷ 2 ∷ []
unfolding roomy put words_bytes
exact_fit = refl

one_byte_short : room_of (9 ∷ 9 ∷ 9 ∷ 9 ∷ 9 ∷ []) 2 (words_bytes (258 ∷ [])) ≡ 9 ∷ 9 ∷ 9 ∷ 9 ∷ 9 ∷ []
unfolding roomy put words_bytes
one_byte_short = refl
