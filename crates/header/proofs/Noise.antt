-- What noise on the wire can't do: a checksum field of FFFF is never accepted, and one changed 16-bit word of an accepted header is refused,
-- unless it turned from 0000 to FFFF or back.
use mathlib.Core.Path.{◌≡◌, ◌∙◌, ap, sym}
use mathlib.Core.Bool.{false}
use mathlib.Core.List.{List, [], ◌∷◌}
use Prim.Native.Nat.{ℕ, zero, suc, ◌+◌, ◌*◌, ◌/◌, ◌%◌, ◌<◌}
use native.Mathlib.Omega.{arith}
use lib.Dec.{eqb}
use lib.ListN.{length, get_or, set, length-set}
use lib.Seq.{get_or-set_same, get_or-set_other}
use borrow.Author.Tests.{eqb-true, eqb-false}
use Rattle.combine.proofs.Tests.{cases}
use Rattle.rows.specs.Rows.{bits, has, before, offset_in}
use Rattle.frame.specs.Layout.{DHL, flags, checksum, words_with, is_pf, value_in, offset, word_at}
use Rattle.frame.specs.Checksum.{halves, checksum_of, checksum_place, header_checksum, unseen}
use Rattle.frame.specs.Asks.{frame_refusal}
use Rattle.frame.proofs.Sums.{halves_upper, halves_lower, halves_fit}
use Rattle.frame.proofs.Rows.{words_fit, version_in, DHL_in, flags_in, checksum_in}
use Rattle.words.specs.Words.{Bytes}
use Rattle.frame.proofs.Words.{word_fits}
use Rattle.frame.proofs.Frames.{SoundFrame, accepted_sound}
use Rattle.header.proofs.Changes.{checksum_not_ones, change_seen}

-- a sound header's checksum, over its 16-bit words
checked_halves : (frame : List ℕ) → SoundFrame frame → halves (word_at frame) 5 ≡ checksum_of 5 (halves (word_at frame)) (2 * value_in (word_at frame) DHL)
unfolding header_checksum checksum_place offset offset_in before has bits
checked_halves frame s = halves_lower (word_at frame) 2 ∙ sym (checksum_in (word_at frame)) ∙ s.checked

-- a header whose checksum field is FFFF is never accepted
pub ones_never : (frame : List ℕ) → Bytes frame → frame_refusal frame ≡ 0 → value_in (word_at frame) checksum ≡ 65535 → ⊥
unfolding header_checksum checksum_place offset offset_in before has bits
ones_never frame fit e q =
    let words : ℕ → ℕ = word_at frame in
    let s = accepted_sound frame e in
    let n = words_fit (is_pf (value_in words flags)) in
    checksum_not_ones 5 (halves words) (2 * value_in words DHL) 0 (λ i. halves_fit words i (word_fits frame fit)) (omega (arith, s.agrees, n.0)) (λ z. omega arith)
    (omega (arith, halves_upper words 0, version_in words, s.versioned)) (sym s.checked ∙ q)

-- two frames whose headers differ in one 16-bit word at most
module _ (frame other : List ℕ) (fit : Bytes frame) (fit' : Bytes other) (i : ℕ)
    (same : (j : ℕ) → (j ≡ i → ⊥) → halves (word_at frame) j ≡ halves (word_at other) j)
    (e : frame_refusal frame ≡ 0) (e' : frame_refusal other ≡ 0) where
  -- have headers of one length, since DHL and PF stand in different 16-bit words
  one_length : value_in (word_at frame) DHL ≡ value_in (word_at other) DHL
  one_length =
      let s = accepted_sound frame e in
      let t = accepted_sound other e' in
      cases (eqb i 0)
      (λ q.
      let z : i ≡ 0 = eqb-true i 0 q in
      let h : word_at frame 2 / 65536 ≡ word_at other 2 / 65536 =
      sym (halves_upper (word_at frame) 2) ∙ same 4 (λ w. omega arith) ∙ halves_upper (word_at other) 2 in
      let f : value_in (word_at frame) flags ≡ value_in (word_at other) flags =
      omega (arith, flags_in (word_at frame), flags_in (word_at other)) in
      s.agrees ∙ ap (λ (b : ℕ). words_with (is_pf b)) f ∙ sym t.agrees)
      (λ q.
      let d = eqb-false i 0 q in
      let h : word_at frame 0 / 65536 ≡ word_at other 0 / 65536 =
      sym (halves_upper (word_at frame) 0) ∙ same 0 (λ w. d (sym w)) ∙ halves_upper (word_at other) 0 in
      omega (arith, DHL_in (word_at frame), DHL_in (word_at other)))

  pub one_word : i < 2 * value_in (word_at frame) DHL → (halves (word_at frame) i ≡ halves (word_at other) i → ⊥)
      → unseen (halves (word_at frame) i) (halves (word_at other) i) ≡ false → ⊥
  one_word h d u =
      change_seen 5 i (2 * value_in (word_at frame) DHL) (halves (word_at frame)) (halves (word_at other)) (λ j. halves_fit (word_at frame) j (word_fits frame fit))
      (λ j. halves_fit (word_at other) j (word_fits other fit')) h same (checked_halves frame (accepted_sound frame e))
      (checked_halves other (accepted_sound other e')
      ∙ ap (λ (n : ℕ). checksum_of 5 (halves (word_at other)) (2 * n)) (sym one_length))
      d u

-- a 16-bit word by its two bytes
pub half_bytes : (frame : List ℕ) → Bytes frame → (j : ℕ) → halves (word_at frame) j ≡ get_or frame (2 * j) 0 * 256 + get_or frame (2 * j + 1) 0
unfolding halves word_at
half_bytes frame fit j =
    let k : ℕ = j / 2 in
    let b₀ = fit.below (4 * k) in
    let b₁ = fit.below (4 * k + 1) in
    let b₂ = fit.below (4 * k + 2) in
    let b₃ = fit.below (4 * k + 3) in
    cases (eqb (j % 2) 0)
    (λ q.
    let z : j % 2 ≡ 0 = eqb-true (j % 2) 0 q in
    let p₀ : 2 * j ≡ 4 * (j / 2) = omega arith in
    let p₁ : 2 * j + 1 ≡ 4 * (j / 2) + 1 = omega arith in
    rw (q, p₁, p₀) (omega arith))
    (λ q.
    let d = eqb-false (j % 2) 0 q in
    let p₀ : 2 * j ≡ 4 * (j / 2) + 2 = omega arith in
    let p₁ : 2 * j + 1 ≡ 4 * (j / 2) + 3 = omega arith in
    rw (q, p₁, p₀) (omega arith))

-- a frame with the 16-bit word i changed
unfoldable pub changed : List ℕ → ℕ → ℕ → ℕ → List ℕ
changed frame i high low = set (set frame (2 * i) high) (2 * i + 1) low

-- a byte set in a run of bytes
set_below : (frame : List ℕ) (i byte : ℕ) → ((j : ℕ) → get_or frame j 0 < 256) → byte < 256 → (j : ℕ) → get_or (set frame i byte) j 0 < 256
set_below [] i byte fit h j = omega arith
set_below (x ∷ frame) zero byte fit h zero = h
set_below (x ∷ frame) zero byte fit h (suc j) = fit (suc j)
set_below (x ∷ frame) (suc i) byte fit h zero = fit zero
set_below (x ∷ frame) (suc i) byte fit h (suc j) = set_below frame i byte (λ k. fit (suc k)) h j

set_bytes : (frame : List ℕ) (i byte : ℕ) → Bytes frame → byte < 256 → Bytes (set frame i byte)
set_bytes frame i byte fit h = record { below = set_below frame i byte fit.below h }

module _ (frame : List ℕ) (fit : Bytes frame) (i high low : ℕ) (h : high < 256) (l : low < 256) where
  changed_bytes : Bytes (changed frame i high low)
  unfolding changed
  changed_bytes = set_bytes (set frame (2 * i) high) (2 * i + 1) low (set_bytes frame (2 * i) high fit h) l

  changed_there : (j : ℕ) → (j ≡ i → ⊥) → halves (word_at frame) j ≡ halves (word_at (changed frame i high low)) j
  unfolding changed
  changed_there j d =
      let a : 2 * j ≡ 2 * i + 1 → ⊥ = λ z. omega arith in
      let b : 2 * j ≡ 2 * i → ⊥ = λ z. d (omega arith) in
      let c : 2 * j + 1 ≡ 2 * i + 1 → ⊥ = λ z. d (omega arith) in
      let e : 2 * j + 1 ≡ 2 * i → ⊥ = λ z. omega arith in
      half_bytes frame fit j
      ∙ sym
      (half_bytes (changed frame i high low) changed_bytes j
      ∙ rw (
        get_or-set_other (set frame (2 * i) high) (2 * i + 1) (2 * j) low 0 a,
        get_or-set_other frame (2 * i) (2 * j) high 0 b,
        get_or-set_other (set frame (2 * i) high) (2 * i + 1) (2 * j + 1) low 0 c,
        get_or-set_other frame (2 * i) (2 * j + 1) high 0 e,
      ))

  changed_here : 2 * i + 1 < length frame → halves (word_at (changed frame i high low)) i ≡ high * 256 + low
  unfolding changed
  changed_here k =
      let a : 2 * i ≡ 2 * i + 1 → ⊥ = λ z. omega arith in
      half_bytes (changed frame i high low) changed_bytes i
      ∙ rw (
        get_or-set_other (set frame (2 * i) high) (2 * i + 1) (2 * i) low 0 a,
        get_or-set_same frame (2 * i) high 0 (omega arith),
        get_or-set_same (set frame (2 * i) high) (2 * i + 1) low 0 (omega (arith, length-set frame (2 * i) high)),
      )

  -- an accepted header with one 16-bit word changed is refused, unless the change is one that the sum can't see
  pub change_refused : frame_refusal frame ≡ 0 → i < 2 * value_in (word_at frame) DHL → (halves (word_at frame) i ≡ high * 256 + low → ⊥)
      → unseen (halves (word_at frame) i) (high * 256 + low) ≡ false → frame_refusal (changed frame i high low) ≡ 0 → ⊥
  change_refused e k d u e' =
      let s = accepted_sound frame e in
      let c = changed_here (omega (arith, s.whole)) in
      one_word frame (changed frame i high low) fit changed_bytes i changed_there e e' k (λ z. d (z ∙ c))
      (ap (unseen (halves (word_at frame) i)) c ∙ u)
