-- Laws of sums: the ones' complement sum of a run is its plain sum with the carries brought in, so 32-bit words may be summed for their halves.
use Rattle.std.proofs.Common.{◌≡◌, ℕ, zero, suc, ◌+◌, ◌-◌, ◌*◌, ◌/◌, ◌%◌, ◌<◌, ◌≤◌, eqb, ltb, sym, refl, ap, ◌∙◌, add-zero, add-one, arith, ltb-false, ltb-true, le-ltb, lt-ltb, eq-eqb, ne_eqb, eqb-true}
use borrow.Author.Tests.{eqb-false}
use Rattle.combine.specs.Tests.{pick}
use Rattle.combine.proofs.Tests.{cases}
use Rattle.rows.specs.Rows.{bits, has, before, offset_in}
use Rattle.frame.specs.Layout.{offset}
use Rattle.frame.specs.Checksum.{plus_ones, sum_ones, without, checksum_of, halves, checksum_place, header_checksum, total, folded}

pub total_none : (run : ℕ → ℕ) → total run 0 ≡ 0
unfolding total
total_none run = refl

pub total_more : (run : ℕ → ℕ) (n : ℕ) → total run (n + 1) ≡ total run n + run n
unfolding total
total_more run n = rw (add-one n)

pub total_cong : (run other : ℕ → ℕ) (n : ℕ) → ((i : ℕ) → i < n → run i ≡ other i) → total run n ≡ total other n
unfolding total
total_cong run other zero e = refl
total_cong run other (suc n) e = omega (arith, total_cong run other n (λ i h. e i (omega arith)), e n (omega arith))

-- a run without a place, at that place and elsewhere
pub without_here : (place : ℕ) (run : ℕ → ℕ) → without place run place ≡ 0
unfolding without
without_here place run = rw (eq-eqb place place refl)

pub without_there : (place : ℕ) (run : ℕ → ℕ) (i : ℕ) → (i ≡ place → ⊥) → without place run i ≡ run i
unfolding without
without_there place run i d = rw (ne_eqb i place d)

pub total_beyond : (place : ℕ) (run : ℕ → ℕ) (n : ℕ) → n ≤ place → total (without place run) n ≡ total run n
total_beyond place run n h = total_cong (without place run) run n (λ i l. without_there place run i (λ e. omega arith))

-- a sum is that without a place, and what stands there
pub total_without : (place : ℕ) (run : ℕ → ℕ) (n : ℕ) → place < n → total run n ≡ total (without place run) n + run place
unfolding total
total_without place run zero h = absurd (omega arith)
total_without place run (suc n) h =
    cases (eqb n place)
    (λ q.
    let e : n ≡ place = eqb-true n place q in
    let w : without place run n ≡ 0 = ap (without place run) e ∙ without_here place run in
    omega (arith, total_beyond place run n (omega arith), w, ap run e))
    (λ q.
    let d = eqb-false n place q in
    omega (arith, total_without place run n (omega arith), without_there place run n d))

-- what folding gives
pub folded_zero : folded 0 ≡ 0
unfolding folded
folded_zero = refl

pub folded_some : (s : ℕ) → 0 < s → folded s ≡ (s - 1) % 65535 + 1
unfolding folded
folded_some s h = let d : s ≡ 0 → ⊥ = omega arith in rw (ne_eqb s 0 d)

pub folded_fits : (s : ℕ) → folded s ≤ 65535
folded_fits s =
    cases (eqb s 0) (λ q. let e : s ≡ 0 = eqb-true s 0 q in rw (e, folded_zero) (omega arith))
    (λ q. let d = eqb-false s 0 q in omega (arith, folded_some s (omega arith)))

plus_carry : (a b : ℕ) → 65535 < a + b → plus_ones a b ≡ a + b - 65535
unfolding plus_ones
plus_carry a b h = rw (lt-ltb 65535 (a + b) h)

plus_plain : (a b : ℕ) → a + b ≤ 65535 → plus_ones a b ≡ a + b
unfolding plus_ones
plus_plain a b h = rw (le-ltb 65535 (a + b) h)

-- one word more
pub folded_plus : (s b : ℕ) → b ≤ 65535 → plus_ones (folded s) b ≡ folded (s + b)
folded_plus s zero h = let e : s + 0 ≡ s = omega arith in rw e (plus_plain (folded s) 0 (omega (arith, folded_fits s)) ∙ add-zero (folded s))
folded_plus zero (suc b) h = let e : 0 + suc b ≡ suc b = omega arith in rw e (omega (arith, folded_zero, plus_plain (folded 0) (suc b) (omega (arith, folded_zero)), folded_some (suc b) (omega arith)))
folded_plus (suc s) (suc b) h =
    let x = folded_some (suc s) (omega arith) in
    let y = folded_some (suc s + suc b) (omega arith) in
    cases (ltb 65535 (folded (suc s) + suc b))
    (λ q.
    let l = ltb-true 65535 (folded (suc s) + suc b) q in
    omega (arith, plus_carry (folded (suc s)) (suc b) l))
    (λ q.
    let l = ltb-false 65535 (folded (suc s) + suc b) q in
    omega (arith, plus_plain (folded (suc s)) (suc b) l))

-- the ones' complement sum of a run is its folded plain sum
pub sum_folded : (run : ℕ → ℕ) (n : ℕ) → ((i : ℕ) → run i ≤ 65535) → sum_ones run n ≡ folded (total run n)
unfolding sum_ones total
sum_folded run zero h = sym folded_zero
sum_folded run (suc n) h = ap (λ (s : ℕ). plus_ones s (run n)) (sum_folded run n h) ∙ folded_plus (total run n) (run n) (h n)

-- the upper and the lower 16 bits of words
abbrev pub upper : (ℕ → ℕ) → ℕ → ℕ
upper words i = words i / 65536

abbrev pub lower : (ℕ → ℕ) → ℕ → ℕ
lower words i = words i % 65536

pub halves_upper : (words : ℕ → ℕ) (n : ℕ) → halves words (2 * n) ≡ words n / 65536
unfolding halves
halves_upper words n =
    let e : 2 * n % 2 ≡ 0 = omega arith in
    let f : 2 * n / 2 ≡ n = omega arith in
    rw (e, f)

pub halves_lower : (words : ℕ → ℕ) (n : ℕ) → halves words (suc (2 * n)) ≡ words n % 65536
unfolding halves
halves_lower words n =
    let e : suc (2 * n) % 2 ≡ 1 = omega arith in
    let f : suc (2 * n) / 2 ≡ n = omega arith in
    rw (e, f)

pub total_halves : (words : ℕ → ℕ) (n : ℕ) → total (halves words) (2 * n) ≡ total (upper words) n + total (lower words) n
unfolding total
total_halves words zero = refl
total_halves words (suc n) =
    let e : 2 * suc n ≡ suc (suc (2 * n)) = omega arith in
    rw e (omega (arith, total_halves words n, halves_upper words n, halves_lower words n))

pub total_words : (words : ℕ → ℕ) (n : ℕ) → total words n ≡ 65536 * total (upper words) n + total (lower words) n
unfolding total
total_words words zero = refl
total_words words (suc n) = omega (arith, total_words words n)

pub folded_words : (h l : ℕ) → folded (h + l) ≡ folded (65536 * h + l)
folded_words zero l = refl
folded_words (suc h) l =
    omega (arith, folded_some (suc h + l) (omega arith), folded_some (65536 * suc h + l) (omega arith))

pub halves_fit : (words : ℕ → ℕ) (j : ℕ) → ((i : ℕ) → words i < 4294967296) → halves words j ≤ 65535
unfolding halves
halves_fit words j h = cases (eqb (j % 2) 0) (λ q. rw q (omega (arith, h (j / 2)))) (λ q. rw q (omega arith))

pub without_fits : (place : ℕ) (run : ℕ → ℕ) (i : ℕ) → run i ≤ 65535 → without place run i ≤ 65535
unfolding without
without_fits place run i h = cases (eqb i place) (λ q. rw q (omega arith)) (λ q. rw q h)

-- a word is at most the sum
pub total_has : (run : ℕ → ℕ) (place n : ℕ) → place < n → run place ≤ total run n
total_has run place n h = omega (arith, total_without place run n h)

pub sum_cong : (run other : ℕ → ℕ) (n : ℕ) → ((i : ℕ) → i < n → run i ≡ other i) → sum_ones run n ≡ sum_ones other n
unfolding sum_ones
sum_cong run other zero e = refl
sum_cong run other (suc n) e = rw (sum_cong run other n (λ i h. e i (omega arith)), e n (omega arith))

same_half : (words other : ℕ → ℕ) (i : ℕ) → words (i / 2) ≡ other (i / 2) → without checksum_place (halves words) i ≡ without checksum_place (halves other) i
unfolding without halves
same_half words other i q = rw q

-- the checksum goes by the header's own words
pub checksum_cong : (words other : ℕ → ℕ) (n : ℕ) → ((i : ℕ) → i < n → words i ≡ other i) → header_checksum words n ≡ header_checksum other n
unfolding header_checksum checksum_of
checksum_cong words other n e =
    ap (λ (s : ℕ). 65535 - s)
    (sum_cong (without checksum_place (halves words)) (without checksum_place (halves other)) (2 * n) (λ i h. same_half words other i (e (i / 2) (omega arith))))

-- the checksum from the plain sum of the words
pub checksum_words : (words : ℕ → ℕ) (n : ℕ) → ((i : ℕ) → words i < 4294967296) → 3 ≤ n
    → header_checksum words n ≡ 65535 - folded (total words n - words 2 % 65536)
unfolding header_checksum checksum_of checksum_place offset offset_in before has bits
checksum_words words n fit h =
    let f = sum_folded (without 5 (halves words)) (2 * n) (λ i. without_fits 5 (halves words) i (halves_fit words i fit)) in
    let w = total_without 5 (halves words) (2 * n) (omega arith) in
    let l = total_without 2 (lower words) n (omega arith) in
    let e : total (without 5 (halves words)) (2 * n) ≡ total (upper words) n + total (without 2 (lower words)) n =
    omega (arith, w, l, total_halves words n, halves_lower words 2) in
    let g : 65536 * total (upper words) n + total (without 2 (lower words)) n ≡ total words n - words 2 % 65536 =
    omega (arith, l, total_words words n) in
    rw (f, e, folded_words (total (upper words) n) (total (without 2 (lower words)) n), g)

-- words of 32 bits, those that count, whose checksum field is zero have the checksum of their plain sum
pub plain_sum : (words : ℕ → ℕ) (n : ℕ) → ((i : ℕ) → i < n → words i < 4294967296) → 3 ≤ n → words 2 % 65536 ≡ 0
    → 65535 - folded (total words n) ≡ header_checksum words n
plain_sum words n fit h z =
    let e : total counted n ≡ total words n = total_cong counted words n there in
    let t : words 2 ≡ counted 2 = sym (there 2 (omega arith)) in
    let m : total words n ≡ total counted n - counted 2 % 65536 = omega arith in
    ap (λ (s : ℕ). 65535 - folded s) m ∙ sym (checksum_words counted n fits h) ∙ checksum_cong counted words n there
  where
    counted : ℕ → ℕ
    counted i = pick (ltb i n) (words i) 0

    there : (i : ℕ) → i < n → counted i ≡ words i
    there i l = rw (lt-ltb i n l)

    fits : (i : ℕ) → counted i < 4294967296
    fits i = cases (ltb i n) (λ q. rw q (fit i (ltb-true i n q))) (λ q. rw q (omega arith))

-- the checksum does not go by what stands in its field: words that differ in the lower half of the third alone have one checksum
module _ (words other : ℕ → ℕ) (n : ℕ) (same : (i : ℕ) → i < n → (i ≡ 2 → ⊥) → words i ≡ other i) (upper : words 2 / 65536 ≡ other 2 / 65536) where
  other_half : (j : ℕ) → j < 2 * n → (j ≡ 5 → ⊥) → halves words j ≡ halves other j
  unfolding halves
  other_half j h d =
      cases (eqb (j / 2) 2)
      (λ q.
      let e : j / 2 ≡ 2 = eqb-true (j / 2) 2 q in
      let z : j ≡ 4 = omega arith in
      rw z upper)
      (λ q. rw (same (j / 2) (omega arith) (eqb-false (j / 2) 2 q)))

  pub checksum_upper : header_checksum words n ≡ header_checksum other n
  unfolding header_checksum checksum_of checksum_place offset offset_in before has bits
  checksum_upper =
      ap (λ (s : ℕ). 65535 - s)
      (sum_cong (without 5 (halves words)) (without 5 (halves other)) (2 * n)
      (λ j h.
      cases (eqb j 5)
      (λ q. let e : j ≡ 5 = eqb-true j 5 q in rw e (without_here 5 (halves words) ∙ sym (without_here 5 (halves other))))
      (λ q. let d = eqb-false j 5 q in without_there 5 (halves words) j d ∙ other_half j h d ∙ sym (without_there 5 (halves other) j d))))
