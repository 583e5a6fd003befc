-- A route is filled in as it recurses: its second part is stored behind its first, and stores in a row join as the lists do.
use mathlib.Core.Path.{◌≡◌, refl, sym, ◌∙◌, ap, ap₂}
use mathlib.Core.Bool.{true, not}
use mathlib.Core.List.{List, [], ◌∷◌, ◌++◌}
use Prim.Native.Nat.{ℕ, suc, ◌+◌, ◌-◌, ◌*◌, ◌/◌, ◌%◌, ◌^◌, ◌<◌, ◌≤◌}
use native.Mathlib.Nat.{add-zero, add-suc, suc-add, mul-zero, mul-one}
use native.Mathlib.Numerals.{add-one}
use native.Mathlib.Omega.{arith}
use lib.Dec.{eqb}
use mir.Val.{bool_byte}
use lib.ListN.{length, get_or, set, length-append}
use lib.Seq.{sets, set-get_or, get_or-set_other}
use Rattle.combine.proofs.Tests.{cases}
use Rattle.hall.specs.Cells.{same, port}
use Rattle.route.specs.Routes.{route}
use Rattle.route.specs.Filling.{in_switch, per_switch, Inside, Room}
use Rattle.route.proofs.Routes.{route_same, route_apart, route_length}
use Rattle.route.proofs.Inside.{inside_same, down, Parts, parts_below, inside_below, port_in}

-- stores in a row
pub sets_append : (l : List ℕ) (i : ℕ) (r s : List ℕ) → sets (sets l i r) (i + length r) s ≡ sets l i (r ++ s)
sets_append l i [] s = rw add-zero
sets_append l i (a ∷ r) s = rw (add-suc, ← suc-add) (sets_append (set l i a) (suc i) r s)

-- behind them nothing changes
pub get_d_sets : (l : List ℕ) (i : ℕ) (r : List ℕ) (k : ℕ) → i + length r ≤ k → get_or (sets l i r) k 0 ≡ get_or l k 0
get_d_sets l i [] k h = refl
get_d_sets l i (a ∷ r) k h = get_d_sets (set l i a) (suc i) r k (omega arith) ∙ get_or-set_other l i k a 0 (λ e. omega arith)

pub stored_join : (u r s : List ℕ) (at : ℕ) {v w q : List ℕ} {m next : ℕ} → q ≡ r ++ s → m ≡ at + length r → v ≡ sets u at r
    → next ≡ m + length s → w ≡ sets v m s → (next ≡ at + length q) × (w ≡ sets u at q)
stored_join u r s at eq em ev en ew = (
  omega (arith, length-append r s, ap length eq),
  rw (eq, ew, ev, em) (sets_append u at r s),
)

-- the two ways in one DCell0: where x and y are one server the place behind it holds 0 as it did
pub put_links : (u : List ℕ) (x y at links : ℕ) → links ≡ bool_byte (not (eqb x y)) → get_or u (at + 1) 0 ≡ 0
    → (at + 1 + links ≡ at + length (in_switch x y)) × (set (set u at x) (at + 1) (y * links) ≡ sets u at (in_switch x y))
unfolding in_switch
put_links u x y at links e z = cases (eqb x y)
    (λ q.
    let l : links ≡ 0 = e ∙ rw q in
    let w : get_or (set u at x) (at + 1) 0 ≡ 0 = get_or-set_other u at (at + 1) x 0 (λ k. omega arith) ∙ z in
    let m : y * links ≡ get_or (set u at x) (at + 1) 0 = rw (l, w) (mul-zero y) in
    rw (q, l) (omega arith, rw (← l, m) (set-get_or (set u at x) (at + 1) 0)))
    (λ q.
    let l : links ≡ 1 = e ∙ rw q in
    rw (q, l) (omega arith, rw (mul-one y, add-one at)))

route_low : (n level x y : ℕ) → level ≡ 0 → route n level x y ≡ in_switch x y
unfolding route in_switch
route_low n level x y e = rw e

pub put_filled : (n x y at : ℕ) (u : List ℕ) {level m : ℕ} {v : List ℕ} → level ≡ 0 → (m ≡ at + length (in_switch x y)) × (v ≡ sets u at (in_switch x y))
    → (m ≡ at + length (route n level x y)) × (v ≡ sets u at (route n level x y))
put_filled n x y at u {level} e p = rw (route_low n level x y e) p

-- a route of the DCell is not longer than there is room for
pub inside_shared : {S : List ℕ} {level first from to : ℕ} → Inside S level first from to → same (per_switch S) level (first + from) (first + to) ≡ true
inside_shared {S} {level} {first} {from} {to} I = rw I.starts (inside_same (per_switch S) level I.number from to I.from_in I.to_in)

inside_length : {S : List ℕ} {level first from to : ℕ} → Inside S level first from to
    → length (route (per_switch S) level (first + from) (first + to)) ≤ 2 ^ suc level
inside_length {S} {level} {first} {from} {to} I = route_length (per_switch S) level (first + from) (first + to) (inside_shared I)

halves : (level : ℕ) → 0 < level → 2 ^ suc level ≡ 2 ^ suc (level - 1) + 2 ^ suc (level - 1)
halves level h = ap (λ (k : ℕ). 2 ^ suc k) (down level h) ∙ omega arith

pub room_low : {u : List ℕ} {level at : ℕ} → Room u level at → level ≡ 0 → Room u 0 at
room_low R e = rw e at R

pub room_below : {u : List ℕ} {level at : ℕ} → Room u level at → 0 < level → Room u (level - 1) at
room_below {level = level} R h = record { fits = omega (arith, R.fits, halves level h); clear = R.clear }

module _ {S u : List ℕ} {level first from to at : ℕ} (I : Inside S level first from to) (R : Room u level at) (h : 0 < level) where
  P : Parts (per_switch S) (level - 1) (get_or S (level - 1) 0) first from to
  P = parts_below I h

  -- both places are in one sub-cell
  pub one_inside : from / get_or S (level - 1) 0 ≡ to / get_or S (level - 1) 0
      → Inside S (level - 1) (first + from / get_or S (level - 1) 0 * get_or S (level - 1) 0) (from % get_or S (level - 1) 0) (to % get_or S (level - 1) 0)
  unfolding P
  one_inside e = inside_below I h (from / get_or S (level - 1) 0) (from % get_or S (level - 1) 0) (to % get_or S (level - 1) 0)
      P.from_fits P.from_in P.to_in

  pub one_route : from / get_or S (level - 1) 0 ≡ to / get_or S (level - 1) 0
      → route (per_switch S) level (first + from) (first + to)
      ≡ route (per_switch S) (level - 1) (first + from / get_or S (level - 1) 0 * get_or S (level - 1) 0 + from % get_or S (level - 1) 0)
      (first + from / get_or S (level - 1) 0 * get_or S (level - 1) 0 + to % get_or S (level - 1) 0)
  unfolding P
  one_route e =
      ap (λ (k : ℕ). route (per_switch S) k (first + from) (first + to)) (down level h)
      ∙ route_same (per_switch S) (level - 1) (first + from) (first + to) (P.one e)
      ∙ ap₂ (λ (x y : ℕ). route (per_switch S) (level - 1) x y) P.from_place
      (P.to_place ∙ ap (λ (k : ℕ). first + k * get_or S (level - 1) 0 + to % get_or S (level - 1) 0) (sym e))

  -- they are in two, with the ports out and in of the link between
  module _ (d : from / get_or S (level - 1) 0 ≡ to / get_or S (level - 1) 0 → ⊥) where
    pub here_inside : {out : ℕ} → out ≡ port (from / get_or S (level - 1) 0) (to / get_or S (level - 1) 0)
        → Inside S (level - 1) (first + from / get_or S (level - 1) 0 * get_or S (level - 1) 0) (from % get_or S (level - 1) 0) out
    unfolding P
    here_inside {out} e = inside_below I h (from / get_or S (level - 1) 0) (from % get_or S (level - 1) 0) out
        P.from_fits P.from_in
        (rw e (port_in I h (from / get_or S (level - 1) 0) (to / get_or S (level - 1) 0) P.from_sub P.to_sub d))

    pub there_inside : {in' : ℕ} → in' ≡ port (to / get_or S (level - 1) 0) (from / get_or S (level - 1) 0)
        → Inside S (level - 1) (first + to / get_or S (level - 1) 0 * get_or S (level - 1) 0) in' (to % get_or S (level - 1) 0)
    unfolding P
    there_inside {in'} e = inside_below I h (to / get_or S (level - 1) 0) in' (to % get_or S (level - 1) 0)
        P.to_fits
        (rw e (port_in I h (to / get_or S (level - 1) 0) (from / get_or S (level - 1) 0) P.to_sub P.from_sub (λ z. d (sym z))))
        P.to_in

    -- the room behind the first part
    pub room_behind : {out m : ℕ} {v : List ℕ} → out ≡ port (from / get_or S (level - 1) 0) (to / get_or S (level - 1) 0)
        → m ≡ at + length (route (per_switch S) (level - 1) (first + from / get_or S (level - 1) 0 * get_or S (level - 1) 0 + from % get_or S (level - 1) 0) (first + from / get_or S (level - 1) 0 * get_or S (level - 1) 0 + out))
        → v ≡ sets u at (route (per_switch S) (level - 1) (first + from / get_or S (level - 1) 0 * get_or S (level - 1) 0 + from % get_or S (level - 1) 0) (first + from / get_or S (level - 1) 0 * get_or S (level - 1) 0 + out))
        → Room v (level - 1) m
    room_behind {out} e em ev =
        let r : List ℕ = route (per_switch S) (level - 1) (first + from / get_or S (level - 1) 0 * get_or S (level - 1) 0 + from % get_or S (level - 1) 0) (first + from / get_or S (level - 1) 0 * get_or S (level - 1) 0 + out) in
        let l = inside_length (here_inside e) in
        record {
          fits = omega (arith, R.fits, halves level h);
          clear = λ i g. ap (λ (w : List ℕ). get_or w i 0) ev ∙ get_d_sets u at r i (omega arith) ∙ R.clear i (omega arith);
        }

    pub two_route : {out in' : ℕ} → out ≡ port (from / get_or S (level - 1) 0) (to / get_or S (level - 1) 0)
        → in' ≡ port (to / get_or S (level - 1) 0) (from / get_or S (level - 1) 0)
        → route (per_switch S) level (first + from) (first + to)
        ≡ route (per_switch S) (level - 1) (first + from / get_or S (level - 1) 0 * get_or S (level - 1) 0 + from % get_or S (level - 1) 0) (first + from / get_or S (level - 1) 0 * get_or S (level - 1) 0 + out)
        ++ route (per_switch S) (level - 1) (first + to / get_or S (level - 1) 0 * get_or S (level - 1) 0 + in') (first + to / get_or S (level - 1) 0 * get_or S (level - 1) 0 + to % get_or S (level - 1) 0)
    unfolding P
    two_route {out} {in'} eo ei =
        ap (λ (k : ℕ). route (per_switch S) k (first + from) (first + to)) (down level h)
        ∙ route_apart (per_switch S) (level - 1) (first + from) (first + to) (P.two d)
        ∙ ap₂ (λ (r s : List ℕ). r ++ s)
        (ap₂ (λ (x y : ℕ). route (per_switch S) (level - 1) x y) P.from_place (P.near_is ∙ ap (λ (k : ℕ). first + from / get_or S (level - 1) 0 * get_or S (level - 1) 0 + k) (sym eo)))
        (ap₂ (λ (x y : ℕ). route (per_switch S) (level - 1) x y) (P.far_is ∙ ap (λ (k : ℕ). first + to / get_or S (level - 1) 0 * get_or S (level - 1) 0 + k) (sym ei)) P.to_place)
