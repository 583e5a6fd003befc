-- Laws of tuples: entries are the digits of a uid, so uid and tuple are inverse both ways, and a cell is what the entries above its level
-- agree on.
use mathlib.Core.Path.{◌≡◌, refl, sym, ◌∙◌, ap}
use mathlib.Core.Bool.{true}
use mathlib.Core.List.{List}
use mathlib.Core.Logic.{◌↔◌, ⊎_elim}
use Prim.Native.Nat.{ℕ, zero, suc, ◌+◌, ◌-◌, ◌*◌, ◌%◌, ◌<◌, ◌≤◌}
use native.Mathlib.Nat.{mod-lt, mod-eq_of_lt, div-add-mod', mul-le-mul_right, eq-or-lt_of_le}
use native.Mathlib.Omega.{arith}
use lib.Dec.{leb}
use lib.ListN.{get_or}
use lib.Arith.{digits_mod}
use borrow.Author.Tests.{ltb-true, lt-ltb, le-leb, lt-leb, leb-true, leb-false, eqb-true}
use Rattle.combine.proofs.Tests.{cases, all_each, each_all}
use Rattle.combine.proofs.Lists.{get_or-up_to}
use Rattle.hall.specs.Cells.{t, g, same, sub}
use Rattle.hall.specs.Halls.{places}
use Rattle.hall.specs.Tuples.{entry, limit, uid_up_to, entry_fits, tuple_fits, entry_at, tuple}
use Rattle.hall.proofs.Place.{inside_of, place_sub}
use Rattle.hall.proofs.Cells.{t_pos, sub_fits, same_mono, same_sub, sub_same}
use Rattle.hall.proofs.Links.{hall_same}

module _ (n : ℕ) where
  pub limit_up : (j : ℕ) → limit n (suc j) ≡ t n j + 1
  unfolding limit g
  limit_up j = refl

  -- entries within their limits up to i
  abbrev pub Within : List ℕ → ℕ → Type 0
  Within a i = (j : ℕ) → j ≤ i → get_or a j 0 < limit n j

  within_less : (a : List ℕ) (j : ℕ) → Within a (suc j) → Within a j
  within_less a j w i h = w i (omega arith)

  -- a uid from entries within their limits is in the cell
  pub uid_below : (a : List ℕ) (i : ℕ) → Within a i → uid_up_to n i a < t n i
  unfolding uid_up_to t limit
  uid_below a zero w = w 0 (omega arith)
  uid_below a (suc j) w =
      let u = uid_below a j (within_less a j w) in
      let e : get_or a (suc j) 0 < t n j + 1 = rw limit_up at (w (suc j) (omega arith)) in
      let m : get_or a (suc j) 0 ≤ t n j = omega arith in
      omega (arith, mul-le-mul_right (t n j) m)

  -- the uid of a server's entries is the server
  pub uid_of_entries : 0 < n → (a : List ℕ) (u i : ℕ) → ((j : ℕ) → j ≤ i → get_or a j 0 ≡ entry n j u) → uid_up_to n i a ≡ u % t n i
  unfolding uid_up_to t entry sub
  uid_of_entries pos a u zero e = e 0 (omega arith)
  uid_of_entries pos a u (suc j) e =
      let ih = uid_of_entries pos a u j (λ i h. e i (omega arith)) in
      let d = div-add-mod' (u % ((t n j + 1) * t n j)) (t n j) in
      let m = inside_of (t n j) u (t_pos n pos j) in
      let s = e (suc j) (omega arith) in
      rw (ih, s) (omega arith)

  -- the entries of the uid of entries are those: in any cell c of level i
  pub entries_of_uid : (a : List ℕ) (i c : ℕ) → Within a i → (j : ℕ) → j ≤ i → entry n j (c * t n i + uid_up_to n i a) ≡ get_or a j 0
  unfolding uid_up_to entry limit t sub
  entries_of_uid a zero c w j h =
      let z : j ≡ 0 = omega arith in
      rw z (digits_mod c (w 0 (omega arith)))
  entries_of_uid a (suc i) c w j h =
      let e : get_or a (suc i) 0 < t n i + 1 = rw limit_up at (w (suc i) (omega arith)) in
      let b = uid_below a i (within_less a i w) in
      ⊎_elim
      (λ (q : j ≡ suc i). rw q (last e b))
      (λ (l : j < suc i).
      let p : c * ((t n i + 1) * t n i) + (uid_up_to n i a + get_or a (suc i) 0 * t n i) ≡ (c * (t n i + 1) + get_or a (suc i) 0) * t n i + uid_up_to n i a = omega arith in
      ap (entry n j) p ∙ entries_of_uid a i (c * (t n i + 1) + get_or a (suc i) 0) (within_less a i w) j (omega arith))
      (eq-or-lt_of_le h)
    where
      last : get_or a (suc i) 0 < t n i + 1 → uid_up_to n i a < t n i → sub n i (c * ((t n i + 1) * t n i) + (uid_up_to n i a + get_or a (suc i) 0 * t n i)) ≡ get_or a (suc i) 0
      last e b =
          let p : c * ((t n i + 1) * t n i) + (uid_up_to n i a + get_or a (suc i) 0 * t n i) ≡ c * ((t n i + 1) * t n i) + (get_or a (suc i) 0 * t n i + uid_up_to n i a) = omega arith in
          rw p (place_sub (t n i) c (get_or a (suc i) 0) (uid_up_to n i a) b e)

  -- an entry of a server is within its limit
  pub entry_below : 0 < n → (u i : ℕ) → entry n i u < limit n i
  unfolding entry limit g
  entry_below pos u zero = mod-lt u pos
  entry_below pos u (suc j) = sub_fits n j u

  -- two servers of a hall are in one DCell(i) exactly when their tuples agree above i
  pub same_entries : 0 < n → (i k x y : ℕ) → i ≤ k → x < t n k → y < t n k
      → (same n i x y ≡ true) ↔ ((j : ℕ) → i < j → j ≤ k → entry n j x ≡ entry n j y)
  unfolding entry
  same_entries pos i k x y h hx hy = (down, up)
    where
      down : same n i x y ≡ true → (j : ℕ) → i < j → j ≤ k → entry n j x ≡ entry n j y
      down s zero l m = absurd (omega arith)
      down s (suc j) l m = same_sub n j x y (same_mono n {i = i} {j = j} x y (omega arith) s)

      from : (d : ℕ) → i + d ≤ k → ((j : ℕ) → i < j → j ≤ k → entry n j x ≡ entry n j y) → (m : ℕ) → m + d ≡ k → i ≤ m → same n m x y ≡ true
      from zero l e m q r = let z : m ≡ k = omega arith in rw z (hall_same n pos k x y hx hy)
      from (suc d) l e m q r = sub_same n m x y (from d (omega arith) e (suc m) (omega arith) (omega arith)) (e (suc m) (omega arith) (omega arith))

      up : ((j : ℕ) → i < j → j ≤ k → entry n j x ≡ entry n j y) → same n i x y ≡ true
      up e = from (k - i) (omega arith) e i (omega arith) (omega arith)

-- tuples of the fixed number of places
pub tuple_at : (n k u i : ℕ) → i < places → i ≤ k → get_or (tuple n k u) i 0 ≡ entry n i u
unfolding entry_at
tuple_at n k u i h l = get_or-up_to (entry_at n k u) places i 0 h ∙ rw (le-leb i k l)

pub tuple_above : (n k u i : ℕ) → i < places → k < i → get_or (tuple n k u) i 0 ≡ 0
unfolding entry_at
tuple_above n k u i h l = get_or-up_to (entry_at n k u) places i 0 h ∙ rw (lt-leb i k l)

-- what a tuple that fits has
pub fits_within : (n k : ℕ) (a : List ℕ) → k < places → tuple_fits n k a ≡ true → Within n a k
unfolding tuple_fits entry_fits
fits_within n k a h e j l =
    let f = all_each (entry_fits n k a) places e j (omega arith) in
    ltb-true (get_or a j 0) (limit n j) (rw (le-leb j k l) at f)

pub fits_above : (n k : ℕ) (a : List ℕ) → tuple_fits n k a ≡ true → (i : ℕ) → i < places → k < i → get_or a i 0 ≡ 0
unfolding tuple_fits entry_fits
fits_above n k a e i h l =
    let f = all_each (entry_fits n k a) places e i h in
    eqb-true (get_or a i 0) 0 (rw (lt-leb i k l) at f)

-- the tuple of a server fits
pub tuple_fits_lem : (n k u : ℕ) → 0 < n → tuple_fits n k (tuple n k u) ≡ true
unfolding tuple_fits entry_fits
tuple_fits_lem n k u pos = each_all (entry_fits n k (tuple n k u)) places (λ i h. cases (leb i k)
    (λ q. let l = leb-true i k q in rw (q, tuple_at n k u i h l) (lt-ltb (entry n i u) (limit n i) (entry_below n pos u i)))
    (λ q. let l = leb-false i k q in rw (q, tuple_above n k u i h l)))

-- the uid of a server's tuple is the server
pub uid_tuple : (n k u : ℕ) → 0 < n → k < places → u < t n k → uid_up_to n k (tuple n k u) ≡ u
uid_tuple n k u pos h l = uid_of_entries n pos (tuple n k u) u k (λ j m. tuple_at n k u j (omega arith) m) ∙ mod-eq_of_lt l

-- the tuple of a tuple's uid is the tuple, place by place
pub tuple_uid : (n k : ℕ) (a : List ℕ) → k < places → tuple_fits n k a ≡ true → (i : ℕ) → i < places → get_or (tuple n k (uid_up_to n k a)) i 0 ≡ get_or a i 0
tuple_uid n k a h e i l = cases (leb i k)
    (λ q. let m = leb-true i k q in
    let z : 0 * t n k + uid_up_to n k a ≡ uid_up_to n k a = omega arith in
    tuple_at n k (uid_up_to n k a) i l m ∙ (rw z at (entries_of_uid n a k 0 (fits_within n k a h e) i m)))
    (λ q. let m = leb-false i k q in tuple_above n k (uid_up_to n k a) i l m ∙ sym (fits_above n k a e i l m))
