-- Laws of sizes: t is positive and grows with n and with the level, so the largest hall bounds every other; what a valid hall is, and the sizes
-- that a call works out once.
use mathlib.Core.Path.{◌≡◌, ◌∙◌, ap}
use mathlib.Core.Bool.{Bool, true, false}
use mathlib.Core.List.{List}
use Prim.Native.Nat.{ℕ, zero, suc, min, ◌+◌, ◌-◌, ◌*◌, ◌<◌, ◌≤◌}
use native.Mathlib.Nat.{le_trans, mul-le-mul}
use native.Mathlib.Numerals.{add-one}
use native.Mathlib.Omega.{arith}
use lib.Dec.{leb}
use lib.ListN.{get_or, replicate}
use lib.Arith.{le-zero}
use borrow.Author.Tests.{leb-true, leb-false, le-leb, lt-leb}
use Rattle.combine.specs.Tests.{pick, both}
use Rattle.combine.specs.Lists.{up_to}
use Rattle.combine.proofs.Tests.{cases, both_left, both_right}
use Rattle.combine.proofs.Lists.{get_or-up_to}
use Rattle.hall.specs.declared.Hall.{Hall}
use Rattle.hall.specs.Refusals.{refusal}
use Rattle.hall.specs.Cells.{t, g}
use Rattle.hall.specs.Halls.{places, top, most_n, Sized, n_fits, k_fits, b_fits, count_fits, valid, servers, largest}
use Rattle.hall.specs.Answers.{SizesAnswer, size_at, size_of, sizes_of}
use Rattle.hall.proofs.Cells.{t_pos}

pub t_more : (n m i : ℕ) → n ≤ m → t n i ≤ t m i
unfolding t
t_more n m zero h = h
t_more n m (suc i) h = let k = t_more n m i h in omega (arith, mul-le-mul k k)

pub t_up : (n i j : ℕ) → i ≤ j → t n i ≤ t n j
unfolding t
t_up n i zero h = rw (le-zero h) (omega arith)
t_up n i (suc j) h = cases (leb i j)
    (λ q. omega (arith, t_up n i j (leb-true i j q)))
    (λ q. let z : i ≡ suc j = omega (arith, leb-false i j q) in rw z (omega arith))

-- a cell has more servers than a sub-cell
pub t_grows : (n i : ℕ) → 0 < n → t n i < t n (suc i)
unfolding t
t_grows n i pos = let h = t_pos n pos i in omega (arith, mul-le-mul h h)

-- no hall is larger than that of the most servers on a switch and the highest level
pub t_fits : (n k i : ℕ) → Sized n k → i ≤ k → t n i ≤ largest
unfolding t
t_fits n k i s l = le_trans (t_more n most_n i s.n_high) (t_up most_n i top (omega (arith, s.k_high)))

-- a DCell of a lower level has sizes that fit too
pub sized_below : (n k i : ℕ) → Sized n k → i ≤ k → Sized n i
sized_below n k i s l = record { n_high = s.n_high; k_high = omega (arith, s.k_high) }

-- a size as the code works it out from the one before
pub t_next : (n j s : ℕ) → s ≡ t n j → (s + 1) * s ≡ t n (j + 1)
unfolding t
t_next n j s e = rw (add-one j, e)

pub next_fits : (n k j s : ℕ) → Sized n k → j < k → s ≡ t n j → (s + 1) * s ≤ largest
next_fits n k j s z l e = rw (t_next n j s e) (t_fits n k (j + 1) z (omega arith))

pub g_next : (n j : ℕ) → g n (j + 1) ≡ t n j + 1
unfolding g
g_next n j = rw (add-one j)

pub g_at : (n i : ℕ) → 0 < i → g n i ≡ t n (i - 1) + 1
unfolding g
g_at n zero h = absurd (omega arith)
g_at n (suc j) h = let e : suc j - 1 ≡ j = omega arith in rw e

-- what is known of a valid hall
pub record Valid (h : Hall) : Type 0 where
  pub n_low : 2 ≤ h.n
  pub sized : Sized h.n h.k
  pub n_high : h.n ≤ most_n
  pub k_high : h.k ≤ top
  pub b_high : h.b ≤ 1
  pub b_low : h.b ≤ h.k
  pub count_fits : count_fits h.n h.k h.count ≡ true

pub valid_known : (h : Hall) → valid h ≡ true → Valid h
unfolding valid n_fits k_fits b_fits
valid_known h e =
    let C : Bool = count_fits h.n h.k h.count in
    let B : Bool = both (b_fits h.k h.b) C in
    let n = both_left (n_fits h.n) (both (k_fits h.n h.k) B) e in
    let kb = both_right (n_fits h.n) (both (k_fits h.n h.k) B) e in
    let bc = both_right (k_fits h.n h.k) B kb in
    let n_high = leb-true h.n most_n (both_right (leb 2 h.n) (leb h.n most_n) n) in
    let k_high = leb-true h.k top (both_left (k_fits h.n h.k) B kb) in
    let b = leb-true h.b (min 1 h.k) (both_left (b_fits h.k h.b) C bc) in
    record {
      n_low = leb-true 2 h.n (both_left (leb 2 h.n) (leb h.n most_n) n);
      sized = record { n_high = n_high; k_high = k_high };
      n_high = n_high;
      k_high = k_high;
      b_high = omega arith;
      b_low = omega arith;
      count_fits = both_right (b_fits h.k h.b) C bc;
    }

-- every size of a valid hall is positive and bounded
pub valid_pos : (h : Hall) → Valid h → (i : ℕ) → 0 < t h.n i
valid_pos h v i = t_pos h.n (omega arith) i

pub valid_size : (h : Hall) → Valid h → (i : ℕ) → i ≤ h.k → t h.n i ≤ largest
valid_size h v i l = t_fits h.n h.k i v.sized l

-- a valid hall has servers, and one that is not has none to show
module _ (h : Hall) (r : ℕ) (e : r ≡ pick (valid h) (servers h) 0) where
  pub valid_servers : valid h ≡ true → r ≡ servers h
  valid_servers v = e ∙ rw v

  pub some_servers : (r ≡ 0 → ⊥) → valid h ≡ true
  some_servers ne = cases (valid h) (λ v. v) (λ v. absurd (ne (e ∙ rw v)))

  pub no_servers : r ≡ 0 → valid h ≡ false
  unfolding servers
  no_servers z = cases (valid h) (λ v. absurd (omega (arith, valid_servers v, valid_pos h (valid_known h v) h.k))) (λ v. v)

-- every uid of a valid hall is below the servers of the largest
pub uid_fits : (h : Hall) → Valid h → (u : ℕ) → u < servers h → u < largest
unfolding servers
uid_fits h v u l = omega (arith, valid_size h v h.k (omega arith))

-- a size of a hall up to k, and above
pub size_at_lem : (n k i : ℕ) → i ≤ k → size_at n k i ≡ t n i
unfolding size_at
size_at_lem n k i h = rw (le-leb i k h)

pub size_above : (n k i : ℕ) → k < i → size_at n k i ≡ 0
unfolding size_at
size_above n k i h = rw (lt-leb i k h)

-- one size of a valid hall
pub size_of_lem : (h : Hall) (i s : ℕ) → valid h ≡ true → i ≤ h.k → s ≡ size_of h i → s ≡ t h.n i
unfolding size_of
size_of_lem h i s v l e = e ∙ rw v (size_at_lem h.n h.k i l)

-- a size up to level k, read off the sizes
pub size_read : (n k i : ℕ) (sizes : List ℕ) → k ≤ top → i ≤ k → sizes ≡ up_to (size_at n k) places → get_or sizes i 0 ≡ t n i
size_read n k i sizes h l e =
    ap (λ (r : List ℕ). get_or r i 0) e ∙ get_or-up_to (size_at n k) places i 0 (omega arith) ∙ size_at_lem n k i l

-- the sizes of a hall, by whether there is such a hall
module _ (h : Hall) (s : SizesAnswer) (e : s ≡ sizes_of h) where
  sizes_valid : valid h ≡ true → s ≡ record { refusal = 0; t = up_to (size_at h.n h.k) places }
  unfolding refusal
  sizes_valid v = e ∙ rw v

  sizes_invalid : valid h ≡ false → s ≡ record { refusal = 1; t = replicate places 0 }
  unfolding refusal
  sizes_invalid v = e ∙ rw v

  pub sizes_refused : (s.refusal ≡ 0 → ⊥) → (valid h ≡ false) × (s.refusal ≡ 1)
  sizes_refused d = cases (valid h)
      (λ v. absurd (d (ap (λ (z : SizesAnswer). z.refusal) (sizes_valid v))))
      (λ v. (v, ap (λ (z : SizesAnswer). z.refusal) (sizes_invalid v)))

  pub sizes_given : s.refusal ≡ 0 → valid h ≡ true
  sizes_given q = cases (valid h)
      (λ v. v)
      (λ v. let o : s.refusal ≡ 1 = ap (λ (z : SizesAnswer). z.refusal) (sizes_invalid v) in absurd (omega arith))

  pub sizes_listed : valid h ≡ true → s.t ≡ up_to (size_at h.n h.k) places
  sizes_listed v = ap (λ (z : SizesAnswer). z.t) (sizes_valid v)

  pub sizes_at : valid h ≡ true → (i : ℕ) → i ≤ h.k → get_or s.t i 0 ≡ t h.n i
  sizes_at v i l = size_read h.n h.k i s.t (valid_known h v).k_high l (sizes_listed v)
