-- In a DCell2 the fitted DCell1s are the first ones: within a sub-cell the rank grows with the index, so a server before a fitted one is fitted.
use mathlib.Core.Path.{◌≡◌, refl, sym, ◌∙◌, ap}
use mathlib.Core.Bool.{Bool, true, false}
use Prim.Native.Nat.{ℕ, zero, suc, ◌+◌, ◌-◌, ◌*◌, ◌/◌, ◌%◌, ◌<◌, ◌≤◌}
use native.Mathlib.Nat.{mod-lt, div-add-mod', div-lt_iff_lt-mul, mul-le-mul_right}
use native.Mathlib.Numerals.{add-one}
use native.Mathlib.Omega.{arith}
use mir.Val.{bool_byte}
use lib.Dec.{eqb, ltb}
use lib.Arith.{digits_div}
use borrow.Author.Tests.{ltb-true, ltb-false, lt-ltb, le-ltb, le-leb, eqb-true, eqb-false}
use Rattle.combine.specs.Tests.{pick}
use Rattle.combine.proofs.Tests.{cases, both_ways}
use Rattle.hall.specs.declared.Hall.{Hall}
use Rattle.hall.specs.Cells.{t, cell, same, sub}
use Rattle.hall.specs.Halls.{most_n, largest, valid, servers}
use Rattle.hall.proofs.Growth.{Valid, valid_known, uid_fits, t_fits}
use Rattle.hall.proofs.Links.{in_hall_lem}
use Rattle.hall.proofs.Place.{place_cell, place_up, place_sub}
use Rattle.hall.proofs.Cells.{t_pos, eq_same, same_mono, same_sub}
use Rattle.hall.specs.Halls.{racks}
use Rattle.plan.specs.Plan.{before, rank, prefix_of}
use Rattle.plan.specs.Answers.{fitted, is_fitted, front, fitted_servers, Racks}
use Rattle.plan.proofs.Adding.{before_two}
use Rattle.hall.proofs.Racks.{one_fits}
use Rattle.plan.proofs.Asks.{server_valid}
use Rattle.plan.proofs.Halls.{fitted_same}

before_grows : (G C q i j : ℕ) → i ≤ j → before G C q i ≤ before G C q j
unfolding before
before_grows G C q i j l = cases (ltb q G)
    (λ e. let b = ltb-true q G e in
    cases (eqb i 0)
    (λ z. cases (eqb j 0) (λ y. rw (e, z, y) (omega arith)) (λ y. rw (e, z, y) (omega arith)))
    (λ z. let d = eqb-false i 0 z in cases (eqb j 0) (λ y. let w = eqb-true j 0 y in absurd (d (omega arith))) (λ y. rw (e, z, y) (omega arith))))
    (λ e. rw e (omega arith))

module _ (n : ℕ) where
  -- two servers of one DCell2: the rank goes by the index of their DCell1s
  rank_grows : (m x y : ℕ) → same n 2 x y ≡ true → sub n 1 x ≤ sub n 1 y → rank n m (prefix_of n m x) ≤ rank n m (prefix_of n m y)
  unfolding rank prefix_of
  rank_grows zero x y s l = omega arith
  rank_grows (suc zero) x y s l = unfold racks in (rw (before_two n (t n 1 + 1) (sub n 1 x), before_two n (t n 1 + 1) (sub n 1 y)) l)
  rank_grows (suc (suc m)) x y s l =
      let q = same_sub n (suc (suc m)) x y (same_mono n {i = 2} {j = suc (suc m)} x y (omega arith) s) in
      rw q (before_grows (t n 1 + 1) (racks n (suc m)) (sub n (suc (suc m)) y) (rank n (suc m) (prefix_of n (suc m) x)) (rank n (suc m) (prefix_of n (suc m) y)) (rank_grows (suc m) x y s l))

module _ (h : Hall) where
  -- a DCell1 before a fitted one of its DCell2 is fitted
  pub fitted_before : (x y : ℕ) → same h.n 2 x y ≡ true → sub h.n 1 x ≤ sub h.n 1 y → fitted h y ≡ true → fitted h x ≡ true
  unfolding fitted
  fitted_before x y s l e =
      let r = rank_grows h.n (h.k - 1) x y s l in
      let b = ltb-true (rank h.n (h.k - 1) (prefix_of h.n (h.k - 1) y)) h.count e in
      lt-ltb (rank h.n (h.k - 1) (prefix_of h.n (h.k - 1) x)) h.count (omega arith)

  module _ (pos : 0 < h.n) (c : ℕ) where
    -- server r of DCell1 q of DCell2 c
    module _ (q r : ℕ) (hq : q < t h.n 1 + 1) (hr : r < t h.n 1) where
      at_cell : cell h.n 2 (c * t h.n 2 + (q * t h.n 1 + r)) ≡ c
      unfolding cell t
      at_cell = place_up (t h.n 1) c q r hr hq

      at_rack : cell h.n 1 (c * t h.n 2 + (q * t h.n 1 + r)) ≡ c * (t h.n 1 + 1) + q
      unfolding cell t
      at_rack = place_cell (t h.n 1) c q r hr

      at_sub : sub h.n 1 (c * t h.n 2 + (q * t h.n 1 + r)) ≡ q
      unfolding sub t
      at_sub = place_sub (t h.n 1) c q r hr hq

    -- the first server of DCell1 q
    first_at : (q : ℕ) → c * t h.n 2 + q * t h.n 1 ≡ c * t h.n 2 + (q * t h.n 1 + 0)
    first_at q = omega arith

    before_first : (p q : ℕ) → p ≤ q → q < t h.n 1 + 1 → fitted h (c * t h.n 2 + q * t h.n 1) ≡ true → fitted h (c * t h.n 2 + p * t h.n 1) ≡ true
    before_first p q l b e =
        let z = t_pos h.n pos 1 in
        let lp : p < t h.n 1 + 1 = omega arith in
        let x : ℕ = c * t h.n 2 + (p * t h.n 1 + 0) in
        let y : ℕ = c * t h.n 2 + (q * t h.n 1 + 0) in
        let s : same h.n 2 x y ≡ true = eq_same h.n 2 x y (at_cell p 0 lp z ∙ sym (at_cell q 0 b z)) in
        let w : sub h.n 1 x ≤ sub h.n 1 y = rw (at_sub p 0 lp z, at_sub q 0 b z) l in
        rw (first_at p) (fitted_before x y s w (rw (first_at q) at e))

    -- THE FITTED DCELL1S OF A DCELL2 ARE THE FIRST ONES
    abbrev Front : ℕ → Type 0
    Front most = (front h (c * t h.n 2) most ≤ most) × ((q : ℕ) → q < most → fitted h (c * t h.n 2 + q * t h.n 1) ≡ ltb q (front h (c * t h.n 2) most))

    pub front_racks : (most : ℕ) → most ≤ t h.n 1 + 1 → Front most
    unfolding front
    front_racks zero l = (omega arith, λ q b. absurd (omega arith))
    front_racks (suc most) l =
        let T : ℕ = t h.n 1 in
        let A : ℕ = c * t h.n 2 in
        let f : ℕ = front h A most in
        let ih = front_racks most (omega arith) in
        cases (fitted h (A + most * T))
        (λ e.
        let each : (q : ℕ) → q < most → q < f = λ q b. ltb-true q f (sym (ih.1 q b) ∙ before_first q most (omega arith) (omega arith) e) in
        let all : f ≡ most = whole most f ih.0 each in
        rw (e, all) (omega arith, λ q b. before_first q most (omega arith) (omega arith) e ∙ sym (lt-ltb q (most + 1) (omega arith))))
        (λ e.
        let z : f + 0 ≡ f = omega arith in
        rw (e, z) (
          omega (arith, ih.0),
          λ q b. cases (ltb q most)
              (λ k. ih.1 q (ltb-true q most k))
              (λ k. let y : q ≡ most = omega (arith, ltb-false q most k) in rw (y, e) (sym (le-ltb most f ih.0))),
        ))
      where
        whole : (m f : ℕ) → f ≤ m → ((q : ℕ) → q < m → q < f) → f ≡ m
        whole zero f l each = omega arith
        whole (suc m) f l each = let k = each m (omega arith) in omega arith

    -- and so are its servers
    pub front_servers : (x : ℕ) → x < t h.n 2 → fitted h (c * t h.n 2 + x) ≡ ltb x (front h (c * t h.n 2) (t h.n 1 + 1) * t h.n 1)
    front_servers x l =
        let T : ℕ = t h.n 1 in
        let A : ℕ = c * t h.n 2 in
        let f : ℕ = front h A (T + 1) in
        let z = t_pos h.n pos 1 in
        let d : x < (T + 1) * T = unfold t in l in
        let b : x / T < T + 1 = (div-lt_iff_lt-mul z).1 d in
        let r = mod-lt x z in
        let e : A + x ≡ A + (x / T * T + x % T) = ap (λ (v : ℕ). A + v) (sym (div-add-mod' x T)) in
        let s : same h.n 1 (A + (x / T * T + x % T)) (A + (x / T * T + 0)) ≡ true =
        eq_same h.n 1 (A + (x / T * T + x % T)) (A + (x / T * T + 0)) (at_rack (x / T) (x % T) b r ∙ sym (at_rack (x / T) 0 b z)) in
        ap (fitted h) e
        ∙ fitted_same h (A + (x / T * T + x % T)) (A + (x / T * T + 0)) s
        ∙ ap (fitted h) (sym (first_at (x / T)))
        ∙ (front_racks (T + 1) (omega arith)).1 (x / T) b
        ∙ both_ways (ltb (x / T) f) (ltb x (f * T))
        (λ k. lt-ltb x (f * T) ((div-lt_iff_lt-mul z).0 (ltb-true (x / T) f k)))
        (λ k. lt-ltb (x / T) f ((div-lt_iff_lt-mul z).1 (ltb-true x (f * T) k)))

-- a test as a number: 1 where it holds, else 0
byte_pick : (b : Bool) → bool_byte b ≡ pick b 1 0
byte_pick true = refl
byte_pick false = refl

-- one more DCell1 of the hall, as the code counts it
module _ (h : Hall) (first most q : ℕ) (s : Racks h first most) (l : q < most) where
  rack_pos : 0 < t h.n 1
  rack_pos = let v = valid_known h s.sound in t_pos h.n (omega (arith, v.n_low)) 1

  pub rack_below : first + q * t h.n 1 < servers h
  rack_below = omega (arith, s.fit, mul-le-mul_right (t h.n 1) l, rack_pos)

  pub rack_fits : first + q * t h.n 1 < largest
  rack_fits = uid_fits h (valid_known h s.sound) (first + q * t h.n 1) rack_below

  pub rack_counts : (b : Bool) (r d size : ℕ) → size ≡ t h.n 1 → b ≡ is_fitted h (first + q * size) → d ≡ bool_byte b → r ≡ front h first q → r + d ≡ front h first (q + 1)
  unfolding front
  rack_counts b r d size ez eb ed er =
      let f : b ≡ fitted h (first + q * t h.n 1) = eb ∙ rw (ez, s.sound, lt-ltb (first + q * t h.n 1) (servers h) rack_below) in
      rw (add-one q, er, ed, byte_pick b, f)

-- no more than there are
pub front_most : (h : Hall) (first most : ℕ) → front h first most ≤ most
unfolding front
front_most h first zero = omega arith
front_most h first (suc most) =
    let ih = front_most h first most in
    cases (fitted h (first + most * t h.n 1)) (λ e. rw e (omega arith)) (λ e. rw e (omega arith))

-- the numbers of the DCell2 around a server, as the code works them out
pub record Two (h : Hall) (u size : ℕ) : Type 0 where
  pub sound : valid h ≡ true
  pub n_fits_lem : h.n ≤ most_n
  pub cell_pos : 0 < (size + 1) * size
  pub size_fits : size ≤ 72
  pub cell_fits : (size + 1) * size ≤ largest
  pub first_fits : u / ((size + 1) * size) * ((size + 1) * size) ≤ u
  pub racks : Racks h (u / ((size + 1) * size) * ((size + 1) * size)) (size + 1)

module _ (h : Hall) (u r size : ℕ) (e : r ≡ pick (valid h) (servers h) 0) (l : u < r) (k : 2 ≤ h.k) (ez : size ≡ t h.n 1) where
  two_known : Valid h
  two_known = valid_known h (server_valid h u r e l)

  two_below : u < t h.n h.k
  unfolding servers
  two_below = let q : r ≡ t h.n h.k = e ∙ rw (server_valid h u r e l) in omega arith

  -- the last server of the DCell2 is of the hall
  cell_in : u / t h.n 2 * t h.n 2 + t h.n 2 ≤ t h.n h.k
  cell_in =
      let T : ℕ = t h.n 2 in
      let pos : 0 < h.n = omega (arith, two_known.n_low) in
      let z = t_pos h.n pos 2 in
      let w : T - 1 < T = omega arith in
      let v : ℕ = u / T * T + (T - 1) in
      let s : same h.n 2 u v ≡ true = eq_same h.n 2 u v (unfold cell in (sym (digits_div (u / T) w))) in
      let b = in_hall_lem h.n pos h.k u v two_below (same_mono h.n {i = 2} {j = h.k} u v k s) in
      omega arith

  pub two : Two h u size
  unfolding t servers
  two =
      let v = two_known in
      let pos : 0 < h.n = omega (arith, v.n_low) in
      let c : (t h.n 1 + 1) * t h.n 1 ≤ largest = t_fits h.n h.k 2 v.sized (omega arith) in
      rw ez (record {
        sound = server_valid h u r e l;
        n_fits_lem = v.n_high;
        cell_pos = t_pos h.n pos 2;
        size_fits = one_fits h.n v.n_high;
        cell_fits = c;
        first_fits = omega (arith, div-add-mod' u ((t h.n 1 + 1) * t h.n 1));
        racks = record { sound = server_valid h u r e l; fit = cell_in };
      })

  pub two_is : (d : ℕ) → d ≡ front h (u / ((size + 1) * size) * ((size + 1) * size)) (size + 1) → d * size ≡ fitted_servers h u
  unfolding t cell servers
  two_is d ed = rw (ed, ez, server_valid h u r e l, le-leb 2 h.k k, lt-ltb u (t h.n h.k) two_below)
