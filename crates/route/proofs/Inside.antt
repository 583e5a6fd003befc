-- A DCell by its first uid and the places inside it: a place over the size of a sub-cell is the sub-cell, its remainder the place in
-- there, and the link between two sub-cells is at their ports.
use mathlib.Core.Path.{◌≡◌, sym, ◌∙◌, ap}
use mathlib.Core.Bool.{true, false}
use mathlib.Core.List.{List}
use Prim.Native.Nat.{ℕ, suc, ◌+◌, ◌-◌, ◌*◌, ◌/◌, ◌%◌, ◌<◌, ◌≤◌}
use native.Mathlib.Nat.{mod-lt, div-add-mod', div-lt_iff_lt-mul, mul-le-mul_right}
use native.Mathlib.Omega.{arith}
use lib.Arith.{digits_div}
use lib.ListN.{get_or}
use Rattle.combine.proofs.Tests.{cases}
use Rattle.hall.specs.Cells.{t, cell, same, sub, port, near, far}
use Rattle.hall.proofs.Place.{place_cell, place_sub, port_fits}
use Rattle.hall.proofs.Cells.{same_eq, eq_same, end_cells, t_pos}
use Rattle.route.specs.Filling.{per_switch, Inside}

-- two places inside one DCell
pub inside_same : (n i number a c : ℕ) → a < t n i → c < t n i → same n i (number * t n i + a) (number * t n i + c) ≡ true
unfolding cell
inside_same n i number a c ha hc = eq_same n i (number * t n i + a) (number * t n i + c) (digits_div number ha ∙ sym (digits_div number hc))

-- what is known of two places of a DCell of level suc j, over the size s of its sub-cells
pub record Parts (n j s first from to : ℕ) : Type 0 where
  pub from_sub : from / s < s + 1
  pub to_sub : to / s < s + 1
  pub from_in : from % s < s
  pub to_in : to % s < s
  pub from_place : first + from ≡ first + from / s * s + from % s
  pub to_place : first + to ≡ first + to / s * s + to % s
  pub from_fits : from / s * s + s ≤ t n (suc j)
  pub to_fits : to / s * s + s ≤ t n (suc j)
  pub up : same n (suc j) (first + from) (first + to) ≡ true
  pub one : from / s ≡ to / s → same n j (first + from) (first + to) ≡ true
  pub two : (from / s ≡ to / s → ⊥) → same n j (first + from) (first + to) ≡ false
  pub near_is : near n j (first + from) (first + to) ≡ first + from / s * s + port (from / s) (to / s)
  pub far_is : far n j (first + from) (first + to) ≡ first + to / s * s + port (to / s) (from / s)

module _ (n j number : ℕ) (pos : 0 < t n j) where
  -- one place: its sub-cell, and its cells
  module _ (a : ℕ) (h : a < t n (suc j)) where
    sub_below : a / t n j < t n j + 1
    unfolding t
    sub_below = (div-lt_iff_lt-mul pos).1 h

    sub_fits : a / t n j * t n j + t n j ≤ t n (suc j)
    unfolding t
    sub_fits = let k : a / t n j + 1 ≤ t n j + 1 = omega (arith, sub_below) in omega (arith, mul-le-mul_right (t n j) k)

    whole : number * t n (suc j) + a ≡ number * ((t n j + 1) * t n j) + (a / t n j * t n j + a % t n j)
    unfolding t
    whole = ap (λ (k : ℕ). number * ((t n j + 1) * t n j) + k) (sym (div-add-mod' a (t n j)))

    is_cell : cell n j (number * t n (suc j) + a) ≡ number * (t n j + 1) + a / t n j
    unfolding cell
    is_cell = ap (λ (k : ℕ). k / t n j) whole ∙ place_cell (t n j) number (a / t n j) (a % t n j) (mod-lt a pos)

    is_up : cell n (suc j) (number * t n (suc j) + a) ≡ number
    unfolding cell
    is_up = digits_div number h

    is_sub : sub n j (number * t n (suc j) + a) ≡ a / t n j
    unfolding sub
    is_sub = ap (λ (k : ℕ). k % ((t n j + 1) * t n j) / t n j) whole ∙ place_sub (t n j) number (a / t n j) (a % t n j) (mod-lt a pos) sub_below

  -- two places
  module _ (a c : ℕ) (ha : a < t n (suc j)) (hc : c < t n (suc j)) where
    is_one : a / t n j ≡ c / t n j → same n j (number * t n (suc j) + a) (number * t n (suc j) + c) ≡ true
    is_one e = eq_same n j (number * t n (suc j) + a) (number * t n (suc j) + c)
        (is_cell a ha ∙ ap (λ (k : ℕ). number * (t n j + 1) + k) e ∙ sym (is_cell c hc))

    is_two : (a / t n j ≡ c / t n j → ⊥) → same n j (number * t n (suc j) + a) (number * t n (suc j) + c) ≡ false
    is_two d = cases (same n j (number * t n (suc j) + a) (number * t n (suc j) + c))
        (λ k. let e = sym (is_cell a ha) ∙ same_eq n j (number * t n (suc j) + a) (number * t n (suc j) + c) k ∙ is_cell c hc in absurd (d (omega arith)))
        (λ k. k)

    is_near : near n j (number * t n (suc j) + a) (number * t n (suc j) + c) ≡ number * t n (suc j) + a / t n j * t n j + port (a / t n j) (c / t n j)
    unfolding near
    is_near =
        end_cells n j (number * t n (suc j) + a) (sub n j (number * t n (suc j) + a)) (sub n j (number * t n (suc j) + c))
        ∙ rw (is_up a ha, is_sub a ha, is_sub c hc) (omega arith)

    is_far : far n j (number * t n (suc j) + a) (number * t n (suc j) + c) ≡ number * t n (suc j) + c / t n j * t n j + port (c / t n j) (a / t n j)
    unfolding far
    is_far =
        end_cells n j (number * t n (suc j) + a) (sub n j (number * t n (suc j) + c)) (sub n j (number * t n (suc j) + a))
        ∙ rw (is_up a ha, is_sub a ha, is_sub c hc) (omega arith)

    parts : Parts n j (t n j) (number * t n (suc j)) a c
    parts = record {
      from_sub = sub_below a ha;
      to_sub = sub_below c hc;
      from_in = mod-lt a pos;
      to_in = mod-lt c pos;
      from_place = omega (arith, div-add-mod' a (t n j));
      to_place = omega (arith, div-add-mod' c (t n j));
      from_fits = sub_fits a ha;
      to_fits = sub_fits c hc;
      up = inside_same n (suc j) number a c ha hc;
      one = is_one;
      two = is_two;
      near_is = is_near;
      far_is = is_far;
    }

-- a level above 0 is one above the level below it
pub down : (level : ℕ) → 0 < level → level ≡ suc (level - 1)
down level h = omega arith

-- the level below, as the code has it: s is the size of the sub-cells
module _ {S : List ℕ} {level first from to : ℕ} (I : Inside S level first from to) (h : 0 < level) where
  pub size_below : get_or S (level - 1) 0 ≡ t (per_switch S) (level - 1)
  size_below = I.hall.sized (level - 1) (omega (arith, I.low))

  pub size_pos : 0 < get_or S (level - 1) 0
  size_pos = rw size_below (t_pos (per_switch S) I.hall.positive (level - 1))

  t_level : t (per_switch S) level ≡ t (per_switch S) (suc (level - 1))
  t_level = ap (t (per_switch S)) (down level h)

  pub parts_below : Parts (per_switch S) (level - 1) (get_or S (level - 1) 0) first from to
  parts_below =
      let e : first ≡ I.number * t (per_switch S) (suc (level - 1)) = I.starts ∙ ap (λ (k : ℕ). I.number * k) t_level in
      rw (size_below, e)
      (parts (per_switch S) (level - 1) I.number (t_pos (per_switch S) I.hall.positive (level - 1)) from to
      (rw (← t_level) I.from_in) (rw (← t_level) I.to_in))

  -- the sub-cell p, and two places inside it
  pub inside_below : (p a c : ℕ) → p * get_or S (level - 1) 0 + get_or S (level - 1) 0 ≤ t (per_switch S) (suc (level - 1))
      → a < get_or S (level - 1) 0 → c < get_or S (level - 1) 0 → Inside S (level - 1) (first + p * get_or S (level - 1) 0) a c
  unfolding t
  inside_below p a c f ha hc = record {
    top = I.top;
    hall = I.hall;
    low = omega (arith, I.low);
    number = I.number * (t (per_switch S) (level - 1) + 1) + p;
    starts = rw size_below (ap (λ (k : ℕ). k + p * t (per_switch S) (level - 1)) (I.starts ∙ ap (λ (k : ℕ). I.number * k) t_level) ∙ grouped (t (per_switch S) (level - 1)));
    fits = omega (arith, I.fits, t_level, f, size_below);
    from_in = rw (← size_below) ha;
    to_in = rw (← size_below) hc;
  }
    where
      grouped : (T : ℕ) → I.number * ((T + 1) * T) + p * T ≡ (I.number * (T + 1) + p) * T
      grouped T = omega arith

  -- its ports are places inside it
  pub port_in : (p q : ℕ) → p < get_or S (level - 1) 0 + 1 → q < get_or S (level - 1) 0 + 1 → (p ≡ q → ⊥) → port p q < get_or S (level - 1) 0
  port_in p q hp hq d = port_fits p q (get_or S (level - 1) 0) hp hq d
