-- Laws of the words that are written: what stands in each, that the checksum goes by every field but its own, and what is refused.
use lib.Seq.{length-take-le}
use Rattle.words.specs.Words.{words_bytes}
use Rattle.words.specs.Rooms.{room_of}
use Rattle.words.proofs.Rooms.{room_start}
use Rattle.words.proofs.Words.{words_length}
use Rattle.frame.specs.Layout.{bytes_of}
use Rattle.frame.proofs.Words.{bytes_taken}
use mathlib.Core.Path.{◌≡◌, refl, ◌∙◌, ap, sym}
use mathlib.Core.Bool.{Bool, true, false}
use mathlib.Core.List.{List, [], ◌∷◌, ◌++◌}
use Prim.Native.Nat.{ℕ, zero, suc, ◌+◌, ◌*◌, ◌/◌, ◌≤◌, ◌<◌}
use native.Mathlib.Numerals.{add-one}
use native.Mathlib.Omega.{arith}
use lib.Dec.{eqb, leb}
use lib.ListN.{length, get_or, set, drop, take}
use lib.Seq.{get_or-set_same, get_or-set_other, length-take-le, take_all}
use borrow.Author.Tests.{eqb-true, eqb-false, ne_eqb, le-leb, lt-leb, leb-true, leb-false}
use Rattle.std.specs.Int.{from_bool}
use Rattle.std.specs.List.{sum}
use Rattle.std.proofs.lemmas.List.{get_or-take}
use Rattle.std.proofs.lemmas.List.Sums.{sum_by_more}
use Rattle.combine.specs.Tests.{pick}
use Rattle.combine.specs.Lists.{up_to}
use Rattle.combine.proofs.Tests.{cases}
use Rattle.combine.proofs.Lists.{get_or-up_to, length-up_to}
use Rattle.hall.specs.Refusals.{refusal, most_retry}
use Rattle.rows.specs.Rows.{bits, has, within, joined, laid}
use Rattle.rows.proofs.Rows.{laid_cong, laid_front, row_within}
use Rattle.frame.specs.Layout.{retry, flags, TTL, checksum, proxy, more_of, rows_of, words_with, bytes_of}
use Rattle.frame.specs.Checksum.{checksum_of, header_checksum, total}
use Rattle.frame.specs.Addresses.{addresses_fit}
use Rattle.frame.proofs.Rows.{words_fit, checksum_row}
use Rattle.frame.proofs.Sums.{checksum_cong, checksum_upper, total_none, total_more}
use Rattle.frame.proofs.Words.{bytes_cong, bytes_length}
use Rattle.header.specs.declared.Fields.{Fields}
use Rattle.header.specs.Writing.{rows_for, count_of, values_of, sum_of, sealed, header_words, header_bytes, write_refusal, room_written}

-- values that differ in the checksum alone
module _ (b : Bool) (values other : ℕ → ℕ) (same : (f : ℕ) → within f (rows_of b) ≡ true → (f ≡ checksum → ⊥) → values f ≡ other f)
    (small : values checksum ≤ 65535) (small' : other checksum ≤ 65535) where
  -- make words that differ in the third alone
  pub same_word : (i : ℕ) → (i ≡ 2 → ⊥) → laid (rows_of b) values i ≡ laid (rows_of b) other i
  same_word i d =
      laid_cong (rows_of b) values other i (λ f h. same f (row_within (rows_of b) i f h) (λ e. d (checksum_row b i (rw e at h))))

  -- and there in the lower half
  same_upper : laid (rows_of b) values 2 / 65536 ≡ laid (rows_of b) other 2 / 65536
  unfolding laid joined bits has within
  same_upper =
      omega (arith, same retry refl (λ e. omega arith), same flags refl (λ e. omega arith), same TTL refl (λ e. omega arith))

  -- so they have one checksum
  pub sum_same : (n : ℕ) → header_checksum (laid (rows_of b) values) n ≡ header_checksum (laid (rows_of b) other) n
  sum_same n = checksum_upper (laid (rows_of b) values) (laid (rows_of b) other) n (λ i h. same_word i) same_upper

-- the plain sum of the first words of a list, and of all
total_taken : (ws : List ℕ) (n : ℕ) → n ≤ length ws → total (λ i. get_or ws i 0) n ≡ sum (take n ws)
total_taken ws zero h = total_none (λ i. get_or ws i 0)
total_taken ws (suc n) h =
    rw (← add-one n)
    (omega (arith, total_more (λ i. get_or ws i 0) n, total_taken ws n (omega arith), sum_by_more (λ x. x) ws n 0 (omega arith)))

pub total_all : (ws : List ℕ) → sum ws ≡ total (λ i. get_or ws i 0) (length ws)
total_all ws = sym (total_taken ws (length ws) (omega arith) ∙ ap sum (take_all (length ws) ws (omega arith)))

pub sum_fits : (words : ℕ → ℕ) (n : ℕ) → header_checksum words n ≤ 65535
unfolding header_checksum checksum_of
sum_fits words n = omega arith

-- a flag as a number
pub flag_is : (b : Bool) → from_bool b ≡ pick b 1 0
flag_is true = refl
flag_is false = refl

pub flag_small : (b : Bool) → pick b 1 0 ≤ 1
flag_small true = omega arith
flag_small false = omega arith

-- the longest rows are the others, and the proxy's behind them
longest : rows_of true ≡ rows_of false ++ (((proxy, 32) ∷ []) ∷ [])
unfolding more_of
longest = refl

longest_many : words_with true ≡ 6
unfolding more_of
longest_many = refl

-- a header has the first words of the longest
pub longest_front : (b : Bool) (values : ℕ → ℕ) (i : ℕ) → i < words_with b → laid (rows_of true) values i ≡ laid (rows_of b) values i
longest_front true values i h = refl
longest_front false values i h = rw longest (laid_front (rows_of false) (((proxy, 32) ∷ []) ∷ []) values i h)

module _ (fields : Fields) where
  -- the values with their checksum
  pub sum_small : sum_of fields ≤ 65535
  unfolding sum_of
  sum_small = sum_fits (laid (rows_for fields) (values_of fields)) (count_of fields)

  pub sealed_sum : sealed fields checksum ≡ sum_of fields
  unfolding sealed
  sealed_sum = refl

  pub sealed_other : (f : ℕ) → (f ≡ checksum → ⊥) → sealed fields f ≡ values_of fields f
  unfolding sealed
  sealed_other f d = rw (ne_eqb f checksum d)

  values_clear : values_of fields checksum ≡ 0
  unfolding values_of
  values_clear = refl

  -- change the third word alone
  sealed_word : (i : ℕ) → (i ≡ 2 → ⊥) → laid (rows_for fields) (sealed fields) i ≡ laid (rows_for fields) (values_of fields) i
  sealed_word =
      same_word fields.has_proxy (sealed fields) (values_of fields) (λ f h. sealed_other f) (omega (arith, sealed_sum, sum_small))
      (omega (arith, values_clear))

  -- the checksum that is written is the one worked out of what is written
  pub sum-written : header_checksum (header_words fields) (count_of fields) ≡ sum_of fields
  unfolding header_words sum_of
  sum-written =
      sum_same fields.has_proxy (sealed fields) (values_of fields) (λ f h. sealed_other f) (omega (arith, sealed_sum, sum_small))
      (omega (arith, values_clear)) (count_of fields)

  -- the words of the longest header, with the checksum as zero
  abbrev words : ℕ → ℕ
  words = laid (rows_of true) (values_of fields)

  pub first_is : words 0 ≡ 1 * 268435456 + count_of fields * 16777216 + fields.protocol * 65536 + fields.payload_length
  unfolding laid joined bits values_of
  first_is = omega arith

  pub third_is : words 2 ≡ fields.retry * 268435456 + pick fields.has_proxy 1 0 * 16777216 + fields.ttl * 65536
  unfolding laid joined bits values_of
  third_is = omega arith

  -- those of one field are the field
  pub one_field : (words 1 ≡ fields.identification) × (words 3 ≡ fields.source) × (words 4 ≡ fields.destination) × (words 5 ≡ fields.proxy)
  unfolding laid joined bits values_of more_of
  one_field = (omega arith, omega arith, omega arith, omega arith)

  pub words_are : up_to words (words_with true) ≡ words 0 ∷ fields.identification ∷ words 2 ∷ fields.source ∷ fields.destination ∷ fields.proxy ∷ []
  unfolding up_to more_of
  words_are = let o = one_field in rw (o.0, o.1, o.2, o.3)

  -- an array of them
  module _ (list : List ℕ) (e : list ≡ up_to words (words_with true)) where
    word_of : (i : ℕ) → i < count_of fields → get_or list i 0 ≡ laid (rows_for fields) (values_of fields) i
    word_of i h =
        let n = words_fit fields.has_proxy in
        rw (e, get_or-up_to words (words_with true) i 0 (omega (arith, longest_many, n.1))) (longest_front fields.has_proxy (values_of fields) i h)

    -- has zero where the checksum goes, and the checksum that is written
    pub third_word : get_or list 2 0 ≡ words 2
    third_word = rw e (get_or-up_to words (words_with true) 2 0 (omega (arith, longest_many)))

    pub sum_is : header_checksum (λ i. get_or list i 0) (count_of fields) ≡ sum_of fields
    unfolding sum_of
    sum_is = checksum_cong (λ i. get_or list i 0) (laid (rows_for fields) (values_of fields)) (count_of fields) word_of

    -- as many of them as the header has words
    pub words_there : (count : ℕ) → count ≡ count_of fields → count ≤ length list
    words_there count n =
        let k = words_fit fields.has_proxy in
        omega (arith, ap length e, length-up_to words (words_with true), longest_many, k.1)

    pub taken_length : (count : ℕ) → count ≡ count_of fields → length (take count list) ≡ count
    taken_length count n = length-take-le count list (words_there count n)

    pub sum_taken : (count : ℕ) → count ≡ count_of fields
        → header_checksum (λ i. get_or (take count list) i 0) (length (take count list)) ≡ sum_of fields
    sum_taken count n =
        rw (taken_length count n)
        (checksum_cong (λ i. get_or (take count list) i 0) (λ i. get_or list i 0) count (λ i h. get_or-take count list i 0 h) ∙ rw n sum_is)

    third_sealed : header_words fields 2 ≡ words 2 + sum_of fields
    unfolding header_words laid joined bits values_of sealed
    third_sealed = omega arith

    word_sealed : (sum i : ℕ) → sum ≡ sum_of fields → i < count_of fields → get_or (set list 2 (get_or list 2 0 + sum)) i 0 ≡ header_words fields i
    unfolding header_words
    word_sealed sum i s h =
        let l : length list ≡ words_with true = ap length e ∙ length-up_to words (words_with true) in
        cases (eqb i 2)
        (λ q.
        let z : i ≡ 2 = eqb-true i 2 q in
        rw (z, get_or-set_same list 2 (get_or list 2 0 + sum) 0 (omega (arith, longest_many)), third_word, s) (sym third_sealed))
        (λ q.
        let d = eqb-false i 2 q in
        get_or-set_other list 2 i (get_or list 2 0 + sum) 0 d ∙ word_of i h ∙ sym (sealed_word i d))

    -- and with it are the header's bytes
    pub bytes_are : (sum count : ℕ) (room : List ℕ) → sum ≡ sum_of fields → count ≡ count_of fields
        → bytes_of (λ i. get_or (set list 2 (get_or list 2 0 + sum)) i 0) count ++ drop (4 * count) room ≡ header_bytes fields ++ drop (4 * count_of fields) room
    unfolding header_bytes
    bytes_are sum count room s n =
        rw (
          n,
          bytes_cong (λ i. get_or (set list 2 (get_or list 2 0 + sum)) i 0) (header_words fields) (count_of fields) (λ i h. word_sealed sum i s h),
        )

-- the words put at the start of a room that has place for them
pub taken : (words room : List ℕ) (count : ℕ) → count ≤ length words → 4 * count ≤ length room
    → room_of room 0 (words_bytes (take count words)) ≡ bytes_of (λ i. get_or words i 0) count ++ drop (4 * count) room
taken words room count h k =
    let l : length (words_bytes (take count words)) ≡ 4 * count = omega (arith, words_length (take count words), length-take-le count words h) in
    room_start room (words_bytes (take count words)) (omega arith) ∙ rw (l, bytes_taken words count h)

-- what writing answers, and the room, refusal by refusal
module _ (fields : Fields) (room : List ℕ) where
  refused_room : (number : ℕ) → number ≡ write_refusal fields room → (number ≡ 0 → ⊥) → (number ≡ write_refusal fields room) × (room ≡ room_written fields room)
  unfolding room_written
  refused_room number e d = (e, rw (← e, ne_eqb number 0 d))

  pub write_retry : most_retry < fields.retry → (8 ≡ write_refusal fields room) × (room ≡ room_written fields room)
  unfolding write_refusal refusal
  write_retry h = refused_room 8 (rw (lt-leb fields.retry most_retry h)) (λ z. omega arith)

  module _ (h : fields.retry ≤ most_retry) where
    pub write_address : addresses_fit fields.source fields.destination fields.has_proxy fields.proxy ≡ false
        → (11 ≡ write_refusal fields room) × (room ≡ room_written fields room)
    unfolding write_refusal refusal
    write_address q = refused_room 11 (rw (le-leb fields.retry most_retry h, q)) (λ z. omega arith)

    module _ (q : addresses_fit fields.source fields.destination fields.has_proxy fields.proxy ≡ true) where
      pub write_short : length room < 4 * count_of fields → (6 ≡ write_refusal fields room) × (room ≡ room_written fields room)
      unfolding write_refusal refusal
      write_short l = refused_room 6 (rw (le-leb fields.retry most_retry h, q, lt-leb (4 * count_of fields) (length room) l)) (λ z. omega arith)

      pub write_done : 4 * count_of fields ≤ length room
          → (0 ≡ write_refusal fields room) × (header_bytes fields ++ drop (4 * count_of fields) room ≡ room_written fields room)
      unfolding room_written write_refusal refusal
      write_done l =
          let e : 0 ≡ write_refusal fields room = rw (le-leb fields.retry most_retry h, q, le-leb (4 * count_of fields) (length room) l) in
          (e, rw (← e))

  -- what is not refused: a retry that the header can say, addresses of their kinds, and room
  pub write_accepted : write_refusal fields room ≡ 0
      → (fields.retry ≤ most_retry) × (addresses_fit fields.source fields.destination fields.has_proxy fields.proxy ≡ true) × (4 * count_of fields ≤ length room)
  write_accepted e =
      cases (leb fields.retry most_retry)
      (λ a.
      let h = leb-true fields.retry most_retry a in
      cases (addresses_fit fields.source fields.destination fields.has_proxy fields.proxy)
      (λ q.
      cases (leb (4 * count_of fields) (length room))
      (λ l. (h, q, leb-true (4 * count_of fields) (length room) l))
      (λ l. absurd (omega (arith, e, (write_short h q (leb-false (4 * count_of fields) (length room) l)).0))))
      (λ q. absurd (omega (arith, e, (write_address h q).0))))
      (λ a. absurd (omega (arith, e, (write_retry (leb-false fields.retry most_retry a)).0)))

  -- the room then begins with the header
  pub room_begins : write_refusal fields room ≡ 0 → room_written fields room ≡ header_bytes fields ++ drop (4 * count_of fields) room
  room_begins e = let a = write_accepted e in sym (write_done a.0 a.1 a.2).1

pub header_long : (fields : Fields) → length (header_bytes fields) ≡ 4 * count_of fields
unfolding header_bytes
header_long fields = bytes_length (header_words fields) (count_of fields)
