-- Laws of numbers as big-endian bytes: as many bytes as are said, a number is what its bytes make, and bytes are those of their number.
use mathlib.Core.Path.{◌≡◌, refl, sym, ◌∙◌, ap}
use mathlib.Core.List.{List, [], ◌∷◌, ◌++◌}
use Prim.Native.Nat.{ℕ, zero, suc, ◌+◌, ◌*◌, ◌/◌, ◌≤◌, ◌<◌}
use native.Mathlib.Numerals.{add-one}
use native.Mathlib.Omega.{arith}
use lib.Arith.{digits_div, digits_mod}
use lib.ListN.{length, get_or, take, drop, length-drop, take-append-drop}
use lib.Seq.{take-suc, get_or-drop, drop-drop, length-take-le}
use borrow.Author.Tests.{le-leb, lt-leb}
use Rattle.words.specs.Words.{Bytes, bytes_of, big_endian, words_bytes, value, word_at}
use Rattle.words.specs.Rooms.{put}
use Rattle.words.proofs.Rooms.{put_put}

-- the number in one byte, and in four
pub value_one : (s : List ℕ) (at : ℕ) → value s at 1 ≡ get_or s at 0
unfolding value
value_one s at =
    let e : at + 0 ≡ at = omega arith in
    omega (arith, ap (λ (i : ℕ). get_or s i 0) e)

pub value_four : (s : List ℕ) (at : ℕ)
    → value s at 4 ≡ ((get_or s at 0 * 256 + get_or s (at + 1) 0) * 256 + get_or s (at + 2) 0) * 256 + get_or s (at + 3) 0
unfolding value
value_four s at =
    let e : at + 0 ≡ at = omega arith in
    omega (arith, ap (λ (i : ℕ). get_or s i 0) e)

-- four bytes that are there, and that are not
pub word_there : (s : List ℕ) (at : ℕ) → at + 4 ≤ length s → word_at s at ≡ value s at 4
unfolding word_at
word_there s at h = rw (le-leb (at + 4) (length s) h)

pub word_cut : (s : List ℕ) (at : ℕ) → length s < at + 4 → word_at s at ≡ 0
unfolding word_at
word_cut s at h = rw (lt-leb (at + 4) (length s) h)

-- a word's bytes are those of a number in four
pub four_bytes : (word : ℕ) → bytes_of 4 word ≡ big_endian word
unfolding bytes_of
four_bytes word =
    let a : word / 256 / 256 ≡ word / 65536 = omega arith in
    let b : word / 256 / 256 / 256 ≡ word / 16777216 = omega arith in
    rw (b, a)

module _ (s : List ℕ) (b : Bytes s) where
  -- bytes are those of their number
  pub bytes_there : (width at : ℕ) → at + width ≤ length s → take width (drop at s) ≡ bytes_of width (value s at width)
  unfolding bytes_of value
  bytes_there zero at h = refl
  bytes_there (suc width) at h =
      let l = b.below (at + width) in
      take-suc (drop at s) width 0 (omega (arith, length-drop at s))
      ∙ rw (get_or-drop at s width 0, digits_div (value s at width) l, digits_mod (value s at width) l, bytes_there width at (omega arith))

  pub drop_bytes : (width at : ℕ) → at + width ≤ length s → drop at s ≡ bytes_of width (value s at width) ++ drop (at + width) s
  drop_bytes width at h =
      sym (take-append-drop width (drop at s)) ∙ rw (bytes_there width at h, drop-drop width at s)

pub words_length : (ws : List ℕ) → length (words_bytes ws) ≡ length ws * 4
unfolding words_bytes
words_length [] = refl
words_length (w ∷ ws) = omega (arith, words_length ws)

pub words_last : (ws : List ℕ) (w : ℕ) → words_bytes (ws ++ (w ∷ [])) ≡ words_bytes ws ++ big_endian w
unfolding words_bytes
words_last [] w = refl
words_last (x ∷ ws) w = ap (λ (l : List ℕ). big_endian x ++ l) (words_last ws w)

-- word i written behind those before it
pub words_more : (room : List ℕ) (at : ℕ) (ws : List ℕ) (i : ℕ) → i < length ws → at + length ws * 4 ≤ length room
    → put (put room at (words_bytes (take i ws))) (at + i * 4) (big_endian (get_or ws i 0)) ≡ put room at (words_bytes (take (i + 1) ws))
words_more room at ws i h k =
    let l : length (words_bytes (take i ws)) ≡ i * 4 = words_length (take i ws) ∙ ap (λ (n : ℕ). n * 4) (length-take-le i ws (omega arith)) in
    rw (add-one i, take-suc ws i 0 h, words_last (take i ws) (get_or ws i 0), ← l)
    (put_put room at (words_bytes (take i ws)) (big_endian (get_or ws i 0)) (omega arith))
