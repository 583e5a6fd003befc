-- The search from the top level down for the first link above b: what is found so far, or the first link above b to the goal so far, is
-- the answer at every turn.
use mathlib.Core.Path.{◌≡◌, sym, ◌∙◌, ap, subst}
use mathlib.Core.Bool.{true}
use mathlib.Core.List.{List}
use Prim.Native.Nat.{ℕ, suc, ◌+◌, ◌-◌, ◌*◌, ◌/◌, ◌%◌, ◌<◌, ◌≤◌}
use native.Mathlib.Nat.{zero-add}
use native.Mathlib.Numerals.{add-one}
use native.Mathlib.Omega.{arith}
use lib.ListN.{get_or}
use Rattle.std.specs.Prelude.{Option, None}
use Rattle.hall.specs.Cells.{t, same, port, near, far}
use Rattle.hall.specs.Halls.{largest}
use Rattle.route.specs.declared.Crossing.{Crossing}
use Rattle.route.specs.Routes.{above}
use Rattle.route.specs.Answers.{link_of, first_above}
use Rattle.route.specs.Filling.{per_switch, Inside}
use Rattle.route.proofs.First.{head_or, first_head, head_same, head_apart, head_low}
use Rattle.route.proofs.Inside.{down, Parts, size_pos, parts_below, inside_below, port_in}
use Rattle.route.proofs.Filling.{inside_shared}

-- the goal so far is the place `to` of the DCell of level j that starts at `first`, and x its place `from`
pub record Search (sizes : List ℕ) (b k x y : ℕ) (found : Option Crossing) (first from to j : ℕ) : Type 0 where
  pub inside : Inside sizes j first from to
  pub low : j ≤ k
  pub start : x ≡ first + from
  pub answers : head_or (per_switch sizes) k (above (per_switch sizes) b j (first + from) (first + to)) found ≡ first_above (per_switch sizes) b k x y

pub search_starts : (S : List ℕ) (b k x y : ℕ) → Inside S k 0 x y → Search S b k x y None 0 x y k
search_starts S b k x y I = let s : same (per_switch S) k x y ≡ true = rw (zero-add x, zero-add y) at (inside_shared I) in record {
  inside = I;
  low = omega arith;
  start = sym (zero-add x);
  answers = rw (zero-add x, zero-add y) (sym (first_head (per_switch S) b k x y s));
}

module _ {S : List ℕ} {b k x y : ℕ} {found : Option Crossing} {first from to j : ℕ} (W : Search S b k x y found first from to j) where
  pub search_ends : j ≤ b → found ≡ first_above (per_switch S) b k x y
  search_ends h = sym (head_low (per_switch S) k b j (first + from) (first + to) found h) ∙ W.answers

  module _ (h : b < j) where
    above_zero : 0 < j
    above_zero = omega arith

    -- a sub-cell has a server
    pub search_size : 0 < get_or S (j - 1) 0
    search_size = size_pos W.inside above_zero

    P : Parts (per_switch S) (j - 1) (get_or S (j - 1) 0) first from to
    P = parts_below W.inside above_zero

    answers_below : head_or (per_switch S) k (above (per_switch S) b (suc (j - 1)) (first + from) (first + to)) found ≡ first_above (per_switch S) b k x y
    answers_below = subst (λ (i : ℕ). head_or (per_switch S) k (above (per_switch S) b i (first + from) (first + to)) found ≡ first_above (per_switch S) b k x y) (down j above_zero) W.answers

    -- x and the goal are in one sub-cell
    pub search_same : from / get_or S (j - 1) 0 ≡ to / get_or S (j - 1) 0
        → Search S b k x y found (first + from / get_or S (j - 1) 0 * get_or S (j - 1) 0) (from % get_or S (j - 1) 0) (to % get_or S (j - 1) 0) (j - 1)
    unfolding P
    search_same e =
        let g : first + to ≡ first + from / get_or S (j - 1) 0 * get_or S (j - 1) 0 + to % get_or S (j - 1) 0
        = P.to_place ∙ ap (λ (i : ℕ). first + i * get_or S (j - 1) 0 + to % get_or S (j - 1) 0) (sym e) in
        record {
          inside = inside_below W.inside above_zero (from / get_or S (j - 1) 0) (from % get_or S (j - 1) 0) (to % get_or S (j - 1) 0)
              P.from_fits P.from_in P.to_in;
          low = omega (arith, W.low);
          start = W.start ∙ P.from_place;
          answers = rw (← P.from_place, ← g)
              (sym (head_same (per_switch S) k b (j - 1) (first + from) (first + to) found (P.one e)) ∙ answers_below);
        }

    module _ (d : from / get_or S (j - 1) 0 ≡ to / get_or S (j - 1) 0 → ⊥) where
      -- the uids of the link's ends fit
      pub ends_fit : (first + from / get_or S (j - 1) 0 * get_or S (j - 1) 0 + port (from / get_or S (j - 1) 0) (to / get_or S (j - 1) 0) < largest)
          × (first + to / get_or S (j - 1) 0 * get_or S (j - 1) 0 + port (to / get_or S (j - 1) 0) (from / get_or S (j - 1) 0) < largest)
      unfolding P
      ends_fit =
          let o = port_in W.inside above_zero (from / get_or S (j - 1) 0) (to / get_or S (j - 1) 0) P.from_sub P.to_sub d in
          let i = port_in W.inside above_zero (to / get_or S (j - 1) 0) (from / get_or S (j - 1) 0) P.to_sub P.from_sub (λ z. d (sym z)) in
          let e : t (per_switch S) j ≡ t (per_switch S) (suc (j - 1)) = ap (t (per_switch S)) (down j above_zero) in
          (omega (arith, W.inside.fits, P.from_fits), omega (arith, W.inside.fits, P.to_fits))

      -- they are in two: the link between them is found, and its near end is the goal
      pub search_apart : {out in' : ℕ} → out ≡ port (from / get_or S (j - 1) 0) (to / get_or S (j - 1) 0) → in' ≡ port (to / get_or S (j - 1) 0) (from / get_or S (j - 1) 0)
          → Search S b k x y
          (link_of (first + from / get_or S (j - 1) 0 * get_or S (j - 1) 0 + out) (first + to / get_or S (j - 1) 0 * get_or S (j - 1) 0 + in') (j - 1 + 1))
          (first + from / get_or S (j - 1) 0 * get_or S (j - 1) 0) (from % get_or S (j - 1) 0) out (j - 1)
      unfolding P
      search_apart {out} {in'} eo ei =
          let nw : near (per_switch S) (j - 1) (first + from) (first + to) ≡ first + from / get_or S (j - 1) 0 * get_or S (j - 1) 0 + out
          = P.near_is ∙ ap (λ (i : ℕ). first + from / get_or S (j - 1) 0 * get_or S (j - 1) 0 + i) (sym eo) in
          let fz : far (per_switch S) (j - 1) (first + from) (first + to) ≡ first + to / get_or S (j - 1) 0 * get_or S (j - 1) 0 + in'
          = P.far_is ∙ ap (λ (i : ℕ). first + to / get_or S (j - 1) 0 * get_or S (j - 1) 0 + i) (sym ei) in
          let g = head_apart (per_switch S) k b (j - 1) (first + from) (first + to) found (omega arith) (omega (arith, W.low)) P.up (P.two d) in
          record {
            inside = inside_below W.inside above_zero (from / get_or S (j - 1) 0) (from % get_or S (j - 1) 0) out
                P.from_fits P.from_in
                (rw eo (port_in W.inside above_zero (from / get_or S (j - 1) 0) (to / get_or S (j - 1) 0) P.from_sub P.to_sub d));
            low = omega (arith, W.low);
            start = W.start ∙ P.from_place;
            answers = rw (← P.from_place, ← nw, ← fz, add-one (j - 1)) (sym g ∙ answers_below);
          }
