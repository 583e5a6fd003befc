-- Laws of a table that a step is lent, as its codes count: the cell's part of it is the part as it counts, its far codes stand as they are, and
-- a link above b is up at its near port where it was and both its servers are fitted.
use mathlib.Core.Path.{◌≡◌, sym, ◌∙◌, ap}
use mathlib.Core.Bool.{true}
use mathlib.Core.List.{List}
use Prim.Native.Nat.{ℕ, suc, ◌+◌, ◌-◌, ◌*◌, ◌≤◌, ◌<◌}
use native.Mathlib.Omega.{arith}
use lib.Arith.{digits_lt}
use lib.ListN.{length, take, drop, length-append, length-take, length-drop, get_or-append}
use lib.Seq.{get_or-append-add, get_or-take, get_or-drop, take_at}
use borrow.Author.Tests.{le-leb}
use Rattle.combine.specs.Tests.{both}
use Rattle.hall.specs.declared.Hall.{Hall}
use Rattle.hall.specs.Cells.{cell, same, neighbour}
use Rattle.hall.proofs.Growth.{Valid}
use Rattle.ports.specs.Codes.{is_up, code_of, up, cell_length, SameUps}
use Rattle.ports.proofs.Runs.{take_agrees, drop_agrees}
use Rattle.local.specs.Local.{cell_size, first_of, counting}
use Rattle.local.proofs.Uids.{first_shared}
use Rattle.plan.specs.Answers.{fitted}
use Rattle.counted.proofs.Counted.{counted_length, counted_ups, counted_usable}
use Rattle.ends.specs.Tables.{levels, step_length, cell_part, far_place, far_in, lent_counted}
use Rattle.ends.proofs.Tables.{append_agrees}

-- the servers of a cell see one table
pub lent_shared : (h : Hall) (lent : List ℕ) (x y : ℕ) → same h.n h.b x y ≡ true → lent_counted h x lent ≡ lent_counted h y lent
unfolding lent_counted
lent_shared h lent x y e = rw (first_shared h x y e)

-- tables with code 1 at the same places count so
pub lent_ups : (h : Hall) (me : ℕ) (a b : List ℕ) → length a ≡ length b → SameUps a b → SameUps (lent_counted h me a) (lent_counted h me b)
unfolding lent_counted cell_part
lent_ups h me a b e s =
    let m : ℕ = cell_length h h.b in
    append_agrees (counting h me (take m a)) (counting h me (take m b)) (drop m a) (drop m b)
    (counted_length h (first_of h me) (take m a) ∙ length-take m a ∙ rw e (sym (length-take m b)) ∙ sym (counted_length h (first_of h me) (take m b)))
    (counted_ups h (first_of h me) (take m a) (take m b) (take_agrees m a b s)) (drop_agrees m a b s)

module _ (h : Hall) (me : ℕ) (lent : List ℕ) (long : length lent ≡ step_length h) where
  near_long : length (cell_part h lent) ≡ cell_length h h.b
  unfolding cell_part step_length
  near_long = length-take (cell_length h h.b) lent ∙ omega arith

  counting_long : length (counting h me (cell_part h lent)) ≡ cell_length h h.b
  counting_long = counted_length h (first_of h me) (cell_part h lent) ∙ near_long

  pub lent_part : cell_part h (lent_counted h me lent) ≡ counting h me (cell_part h lent)
  unfolding cell_part lent_counted
  lent_part = take_at (counting h me (cell_part h lent)) (drop (cell_length h h.b) lent) (cell_length h h.b) counting_long

  pub lent_length : length (lent_counted h me lent) ≡ step_length h
  unfolding lent_counted step_length
  lent_length =
      length-append (counting h me (cell_part h lent)) (drop (cell_length h h.b) lent)
      ∙ omega (arith, counting_long, length-drop (cell_length h h.b) lent)

  module _ (place i : ℕ) (l : place < cell_size h) (low : h.b < i) (high : i ≤ h.k) where
    -- the far code stands as it is
    pub lent_far : far_in h (lent_counted h me lent) place i ≡ far_in h lent place i
    unfolding far_in far_place lent_counted
    lent_far =
        let x : ℕ = place * levels h + (i - suc h.b) in
        rw (← counting_long)
        (get_or-append-add {A = ℕ} (counting h me (cell_part h lent)) (drop (length (counting h me (cell_part h lent))) lent) x 0
        ∙ get_or-drop {A = ℕ} (length (counting h me (cell_part h lent))) lent x 0)

    near_place : place * (h.k + 1) + i < cell_length h h.b
    unfolding cell_length cell_size
    near_place = let q : i < h.k + 1 = omega arith in digits_lt l q

    -- a near code is read in the cell's part
    own_up : up h (cell_part h lent) place i ≡ up h lent place i
    unfolding up code_of cell_part
    own_up = rw (le-leb i h.k high) (ap is_up (get_or-take {A = ℕ} (cell_length h h.b) lent (place * (h.k + 1) + i) 0 near_place))

    counting_up : up h (lent_counted h me lent) place i ≡ up h (counting h me (cell_part h lent)) place i
    unfolding up code_of lent_counted
    counting_up =
        let c = counting_long in
        let w : place * (h.k + 1) + i < length (counting h me (cell_part h lent)) = omega (arith, near_place) in
        rw (le-leb i h.k high)
        (ap is_up (get_or-append {A = ℕ} (counting h me (cell_part h lent)) (drop (cell_length h h.b) lent) 0 (place * (h.k + 1) + i) w))

    -- and counts where both servers of its link are fitted
    pub lent_near : Valid h → up h (lent_counted h me lent) place i
        ≡ both (both (fitted h me) (fitted h (neighbour h.n (i - 1) (first_of h me + place)))) (up h lent place i)
    unfolding cell_size first_of cell
    lent_near v =
        let e : suc (i - 1) ≡ i = omega arith in
        counting_up
        ∙ ap (up h (counting h me (cell_part h lent)) place) (sym e)
        ∙ counted_usable h (omega (arith, v.n_low)) h.b me v.b_high (cell_part h lent) place (i - 1) l
        ∙ ap (λ (p : ℕ). both (both (fitted h me) (fitted h (neighbour h.n (i - 1) (first_of h me + place)))) (up h (cell_part h lent) place p)) e
        ∙ ap (both (both (fitted h me) (fitted h (neighbour h.n (i - 1) (first_of h me + place))))) own_up
