-- Laws of words as big-endian bytes: four bytes make a word and a word four bytes, so a header's words and its bytes are one thing.
use Rattle.std.proofs.Common.{◌≡◌, ℕ, zero, suc, Fits, w8, ◌+◌, ◌*◌, ◌<◌, ◌≤◌, eqb, List, ◌++◌, length, get_or, take, drop, sym, refl, ap, ◌∙◌, append_assoc, arith, length-append, take-suc, take-add, drop_at, eqb-true}
use lib.ListN.{get_or-append}
use borrow.Author.Tests.{eqb-false}
use Rattle.combine.proofs.Tests.{cases}
use Rattle.words.specs.Words.{Bytes, value, big_endian, words_bytes}
use Rattle.words.proofs.Words.{value_four, four_bytes, bytes_there, words_last}
use Rattle.words.proofs.Bytes.{value_laid}
use Rattle.frame.specs.Layout.{word_at, bytes_of}

-- a slice of bytes is a byte string
pub bytes_known : (s : List ℕ) → ((i : ℕ) → Fits w8 (get_or s i 0)) → Bytes s
bytes_known s fit = record { below = λ i. omega (arith, fit i) }

-- a word is the number in its four bytes
word_value : (bytes : List ℕ) (i : ℕ) → word_at bytes i ≡ value bytes (4 * i) 4
unfolding word_at
word_value bytes i = omega (arith, value_four bytes (4 * i))

-- a word of bytes fits 32 bits
pub word_fits : (frame : List ℕ) → Bytes frame → (i : ℕ) → word_at frame i < 4294967296
unfolding word_at
word_fits frame fit i = omega (arith, fit.below (4 * i), fit.below (4 * i + 1), fit.below (4 * i + 2), fit.below (4 * i + 3))

pub bytes_length : (words : ℕ → ℕ) (n : ℕ) → length (bytes_of words n) ≡ 4 * n
unfolding bytes_of
bytes_length words zero = refl
bytes_length words (suc n) = omega (arith, length-append (bytes_of words n) (big_endian (words n)), bytes_length words n)

pub bytes_cong : (words other : ℕ → ℕ) (n : ℕ) → ((i : ℕ) → i < n → words i ≡ other i) → bytes_of words n ≡ bytes_of other n
unfolding bytes_of
bytes_cong words other zero e = refl
bytes_cong words other (suc n) e = rw (bytes_cong words other n (λ i h. e i (omega arith)), e n (omega arith))

-- the word behind n words
word_behind : (words : ℕ → ℕ) (n word : ℕ) (rest : List ℕ) → word < 4294967296 → word_at (bytes_of words n ++ (big_endian word ++ rest)) n ≡ word
word_behind words n word rest fit =
    let s : List ℕ = bytes_of words n ++ (big_endian word ++ rest) in
    let d : drop (4 * n) s ≡ big_endian word ++ rest = drop_at (bytes_of words n) (big_endian word ++ rest) (4 * n) (bytes_length words n) in
    word_value s n ∙ value_laid s (4 * n) 4 word rest fit (d ∙ ap (λ (bytes : List ℕ). bytes ++ rest) (sym (four_bytes word)))

-- word i read off the bytes of n words is word i
pub word_written : (words : ℕ → ℕ) (n i : ℕ) (rest : List ℕ) → i < n → words i < 4294967296 → word_at (bytes_of words n ++ rest) i ≡ words i
unfolding bytes_of
word_written words zero i rest h fit = absurd (omega arith)
word_written words (suc n) i rest h fit =
    cases (eqb i n)
    (λ q.
    let e : n ≡ i = sym (eqb-true i n q) in
    let f : words n < 4294967296 = rw e fit in
    ap (word_at (bytes_of words (suc n) ++ rest)) (sym e)
    ∙ rw (append_assoc (bytes_of words n) (big_endian (words n)) rest) (word_behind words n (words n) rest f)
    ∙ ap words e)
    (λ q.
    let d = eqb-false i n q in
    rw (append_assoc (bytes_of words n) (big_endian (words n)) rest) (word_written words n i (big_endian (words n) ++ rest) (omega arith) fit))

-- the bytes of a frame's words are the frame's
pub bytes_read : (frame : List ℕ) → Bytes frame → (n : ℕ) → 4 * n ≤ length frame → bytes_of (word_at frame) n ≡ take (4 * n) frame
unfolding bytes_of
bytes_read frame fit zero h = refl
bytes_read frame fit (suc n) h =
    let e : 4 * suc n ≡ 4 * n + 4 = omega arith in
    let w : take 4 (drop (4 * n) frame) ≡ big_endian (word_at frame n) =
    bytes_there frame fit 4 (4 * n) (omega arith) ∙ four_bytes (value frame (4 * n) 4) ∙ ap (λ (word : ℕ). big_endian word) (sym (word_value frame n)) in
    rw (e, take-add (4 * n) 4 frame, bytes_read frame fit n (omega arith), w)

-- the words that a frame has are not changed by what comes behind
pub word_before : (frame padding : List ℕ) (i : ℕ) → 4 * i + 4 ≤ length frame → word_at frame i ≡ word_at (frame ++ padding) i
unfolding word_at
word_before frame padding i h =
    rw (
      get_or-append frame padding 0 (4 * i) (omega arith),
      get_or-append frame padding 0 (4 * i + 1) (omega arith),
      get_or-append frame padding 0 (4 * i + 2) (omega arith),
      get_or-append frame padding 0 (4 * i + 3) (omega arith),
    )

-- the first n words of a list
pub bytes_taken : (words : List ℕ) (n : ℕ) → n ≤ length words → words_bytes (take n words) ≡ bytes_of (λ i. get_or words i 0) n
unfolding bytes_of words_bytes
bytes_taken words zero h = refl
bytes_taken words (suc n) h =
    rw (take-suc words n 0 (omega arith), words_last (take n words) (get_or words n 0), bytes_taken words n (omega arith))
