-- Laws of cells, links and neighbours, over the level: a cell is the digits of a uid above its level, and a link's two ends
-- are one definition with the sub-cells exchanged.
use mathlib.Core.Path.{◌≡◌, refl, sym, ◌∙◌, ap}
use mathlib.Core.Bool.{true, false, true≢false}
use Prim.Native.Nat.{ℕ, zero, suc, ◌+◌, ◌-◌, ◌*◌, ◌/◌, ◌%◌, ◌<◌, ◌≤◌}
use native.Mathlib.Nat.{mod-lt, add-zero, add-suc}
use native.Mathlib.Omega.{arith}
use lib.Dec.{eqb, leb}
use lib.Arith.{digits_div, digits_mod}
use borrow.Author.Tests.{eqb-true, eq-eqb}
use Rattle.hall.specs.Cells.{t, cell, same, sub, port, end, near, far, neighbour}
use Rattle.combine.specs.Tests.{pick}
use Rattle.combine.proofs.Tests.{cases}
use Rattle.hall.proofs.Place.{sub_below, made, cell_of, inside_of, place_cell, place_inside, place_up, place_sub, port_fits, turn, leads}

-- the two ends of the link between the sub-cells of x and y, where x and y are in one DCell of level suc j and in two of level j
pub record Crossing (n j x y : ℕ) : Type 0 where
  pub up : same n (suc j) x y ≡ true
  pub apart : same n j x y ≡ false
  pub here : same n j x (near n j x y) ≡ true
  pub there : same n j (far n j x y) y ≡ true
  pub across : neighbour n j (near n j x y) ≡ far n j x y
  pub back : neighbour n j (far n j x y) ≡ near n j x y
  pub link_up : same n (suc j) (near n j x y) (far n j x y) ≡ true
  pub link_apart : same n j (near n j x y) (far n j x y) ≡ false
  pub far_up : same n (suc j) x (far n j x y) ≡ true

module _ (n : ℕ) where
  -- same is an equation of cells
  pub same_eq : (i x y : ℕ) → same n i x y ≡ true → cell n i x ≡ cell n i y
  unfolding same
  same_eq i x y e = eqb-true (cell n i x) (cell n i y) e

  pub eq_same : (i x y : ℕ) → cell n i x ≡ cell n i y → same n i x y ≡ true
  unfolding same
  eq_same i x y e = eq-eqb (cell n i x) (cell n i y) e

  pub same_refl : (i x : ℕ) → same n i x x ≡ true
  same_refl i x = eq_same i x x refl

  pub same_sym : (i x y : ℕ) → same n i x y ≡ true → same n i y x ≡ true
  same_sym i x y e = eq_same i y x (sym (same_eq i x y e))

  pub same_trans : (i x y z : ℕ) → same n i x y ≡ true → same n i y z ≡ true → same n i x z ≡ true
  same_trans i x y z e f = eq_same i x z (same_eq i x y e ∙ same_eq i y z f)

  -- whoever is in the DCell of x sees y as x does
  pub same_left : (i x z y : ℕ) → same n i x z ≡ true → same n i z y ≡ same n i x y
  unfolding same
  same_left i x z y e = ap (λ (k : ℕ). eqb k (cell n i y)) (sym (same_eq i x z e))

  -- a cell, from the cell above and the sub-cell
  pub sub_fits : (j u : ℕ) → sub n j u < t n j + 1
  unfolding sub t
  sub_fits j u = sub_below (t n j) u

  pub cell_down : (j u : ℕ) → cell n j u ≡ cell n (suc j) u * (t n j + 1) + sub n j u
  unfolding cell sub t
  cell_down j u = cell_of (t n j) u

  pub cell_up : (j u : ℕ) → cell n j u / (t n j + 1) ≡ cell n (suc j) u
  cell_up j u = ap (λ (k : ℕ). k / (t n j + 1)) (cell_down j u) ∙ digits_div (cell n (suc j) u) (sub_fits j u)

  pub cell_sub : (j u : ℕ) → cell n j u % (t n j + 1) ≡ sub n j u
  cell_sub j u = ap (λ (k : ℕ). k % (t n j + 1)) (cell_down j u) ∙ digits_mod (cell n (suc j) u) (sub_fits j u)

  -- sharing a cell is sharing every higher one
  pub same_up : (j x y : ℕ) → same n j x y ≡ true → same n (suc j) x y ≡ true
  same_up j x y e = eq_same (suc j) x y (sym (cell_up j x) ∙ ap (λ (k : ℕ). k / (t n j + 1)) (same_eq j x y e) ∙ cell_up j y)

  pub same_sub : (j x y : ℕ) → same n j x y ≡ true → sub n j x ≡ sub n j y
  same_sub j x y e = sym (cell_sub j x) ∙ ap (λ (k : ℕ). k % (t n j + 1)) (same_eq j x y e) ∙ cell_sub j y

  pub sub_same : (j x y : ℕ) → same n (suc j) x y ≡ true → sub n j x ≡ sub n j y → same n j x y ≡ true
  sub_same j x y e s = let c = same_eq (suc j) x y e in eq_same j x y (cc (cell_down j x, cell_down j y))

  pub same_mono : {i j : ℕ} (x y : ℕ) → i ≤ j → same n i x y ≡ true → same n j x y ≡ true
  same_mono {i} {j} x y h e = go (j - i) j (omega arith)
    where
      go : (d j : ℕ) → j ≡ i + d → same n j x y ≡ true
      go zero j q = rw (q, add-zero) e
      go (suc d) j q = rw (q, add-suc) (same_up (i + d) x y (go d (i + d) refl))

  pub apart_mono : {i j : ℕ} (x y : ℕ) → i ≤ j → same n j x y ≡ false → same n i x y ≡ false
  apart_mono {i} {j} x y h e = cases (same n i x y) (λ s. absurd (true≢false (sym (same_mono x y h s) ∙ e))) (λ s. s)

  -- an end sees of u its DCell of level suc j alone
  pub end_cells : (j u p q : ℕ) → end n j u p q ≡ cell n (suc j) u * t n (suc j) + (p * t n j + port p q)
  unfolding end cell t
  end_cells j u p q = refl

  pub neighbour_cells : (j u : ℕ) → neighbour n j u
      ≡ pick (leb (sub n j u) (u % t n j)) (cell n (suc j) u * t n (suc j) + ((u % t n j + 1) * t n j + sub n j u)) (cell n (suc j) u * t n (suc j) + (u % t n j * t n j + (sub n j u - 1)))
  unfolding neighbour sub cell t
  neighbour_cells j u = refl

  -- near and far see of x its DCell of level j alone
  pub near_left : (j x z y : ℕ) → same n j x z ≡ true → near n j z y ≡ near n j x y
  unfolding near
  near_left j x z y e =
      let s = same_sub j x z e in
      let c = same_eq (suc j) x z (same_up j x z e) in
      cc (end_cells j z (sub n j z) (sub n j y), end_cells j x (sub n j x) (sub n j y))

  pub far_left : (j x z y : ℕ) → same n j x z ≡ true → far n j z y ≡ far n j x y
  unfolding far
  far_left j x z y e =
      let s = same_sub j x z e in
      let c = same_eq (suc j) x z (same_up j x z e) in
      cc (end_cells j z (sub n j y) (sub n j z), end_cells j x (sub n j y) (sub n j x))

  -- an end of a link between two sub-cells: its cells, its place, its neighbour
  module _ (j u p q : ℕ) (hp : p < t n j + 1) (hq : q < t n j + 1) (ne : p ≡ q → ⊥) where
    pub end_cell : cell n j (end n j u p q) ≡ cell n (suc j) u * (t n j + 1) + p
    unfolding cell end t
    end_cell = place_cell (t n j) (cell n (suc j) u) p (port p q) (port_fits p q (t n j) hp hq ne)

    pub end_inside : end n j u p q % t n j ≡ port p q
    unfolding end cell t port
    end_inside = place_inside (t n j) (cell n (suc j) u) p (port p q) (port_fits p q (t n j) hp hq ne)

    pub end_up : cell n (suc j) (end n j u p q) ≡ cell n (suc j) u
    unfolding cell end t
    end_up = place_up (t n j) (cell n (suc j) u) p (port p q) (port_fits p q (t n j) hp hq ne) hp

    pub end_sub : sub n j (end n j u p q) ≡ p
    unfolding sub end cell t port
    end_sub = place_sub (t n j) (cell n (suc j) u) p (port p q) (port_fits p q (t n j) hp hq ne) hp

    pub end_neighbour : neighbour n j (end n j u p q) ≡ end n j u q p
    end_neighbour =
        neighbour_cells j (end n j u p q)
        ∙ rw (end_sub, end_inside, end_up) (turn (cell n (suc j) u * t n (suc j)) (t n j) p q ne)
        ∙ sym (end_cells j u q p)

  pub crossing : (j x y : ℕ) → same n (suc j) x y ≡ true → same n j x y ≡ false → Crossing n j x y
  unfolding near far
  crossing j x y up apart =
      let ne : sub n j x ≡ sub n j y → ⊥ = λ s. true≢false (sym (sub_same j x y up s) ∙ apart) in
      let en : sub n j y ≡ sub n j x → ⊥ = λ s. ne (sym s) in
      let hx = sub_fits j x in
      let hy = sub_fits j y in
      let c = same_eq (suc j) x y up in
      let nx : same n j x (near n j x y) ≡ true = eq_same j x (near n j x y) (cell_down j x ∙ sym (end_cell j x (sub n j x) (sub n j y) hx hy ne)) in
      let fy : same n j (far n j x y) y ≡ true = eq_same j (far n j x y) y (cc (end_cell j x (sub n j y) (sub n j x) hy hx en, cell_down j y)) in
      let fx : same n (suc j) x (far n j x y) ≡ true = eq_same (suc j) x (far n j x y) (sym (end_up j x (sub n j y) (sub n j x) hy hx en)) in
      record {
        up = up;
        apart = apart;
        here = nx;
        there = fy;
        across = end_neighbour j x (sub n j x) (sub n j y) hx hy ne;
        back = end_neighbour j x (sub n j y) (sub n j x) hy hx en;
        link_up = same_trans (suc j) (near n j x y) x (far n j x y) (same_sym (suc j) x (near n j x y) (same_up j x (near n j x y) nx)) fx;
        link_apart = cases (same n j (near n j x y) (far n j x y))
            (λ k. absurd (true≢false (sym (same_trans j x (near n j x y) y nx (same_trans j (near n j x y) (far n j x y) y k fy)) ∙ apart)))
            (λ k. k);
        far_up = fx;
      }

  -- each server is an end of one link of level suc j, and its neighbour is the other end
  module _ (pos : 0 < n) where
    pub t_pos : (i : ℕ) → 0 < t n i
    unfolding t
    t_pos zero = pos
    t_pos (suc i) = let h = t_pos i in omega arith

    pub is_end : (j u : ℕ) → (q : ℕ) × (q < t n j + 1) × (sub n j u ≡ q → ⊥) × (u ≡ end n j u (sub n j u) q)
    unfolding end cell sub t
    is_end j u =
        let l = leads (sub n j u) (u % t n j) (t n j) (mod-lt u (t_pos j)) (sub_fits j u) in
        (l.0, l.1, l.2, made (t n j) u ∙ ap (λ (k : ℕ). cell n (suc j) u * t n (suc j) + (sub n j u * t n j + k)) (inside_of (t n j) u (t_pos j) ∙ sym l.3))

    pub neighbour_end : (j u : ℕ) → neighbour n j u ≡ end n j u (is_end j u).0 (sub n j u)
    neighbour_end j u = let e = is_end j u in
        ap (neighbour n j) e.3 ∙ end_neighbour j u (sub n j u) e.0 (sub_fits j u) e.1 e.2

    pub neighbour_neighbour : (j u : ℕ) → neighbour n j (neighbour n j u) ≡ u
    neighbour_neighbour j u = let e = is_end j u in
        ap (neighbour n j) (neighbour_end j u) ∙ end_neighbour j u e.0 (sub n j u) e.1 (sub_fits j u) (λ z. e.2 (sym z)) ∙ sym e.3

    neighbour_sub : (j u : ℕ) → sub n j (neighbour n j u) ≡ (is_end j u).0
    neighbour_sub j u = let e = is_end j u in
        ap (sub n j) (neighbour_end j u) ∙ end_sub j u e.0 (sub n j u) e.1 (sub_fits j u) (λ z. e.2 (sym z))

    pub neighbour_stays : (j u : ℕ) → same n (suc j) u (neighbour n j u) ≡ true
    neighbour_stays j u = let e = is_end j u in
        eq_same (suc j) u (neighbour n j u) (sym (ap (cell n (suc j)) (neighbour_end j u) ∙ end_up j u e.0 (sub n j u) e.1 (sub_fits j u) (λ z. e.2 (sym z))))

    pub neighbour_leaves : (j u : ℕ) → same n j u (neighbour n j u) ≡ false
    neighbour_leaves j u = let e = is_end j u in
        cases (same n j u (neighbour n j u))
        (λ s. absurd (e.2 (same_sub j u (neighbour n j u) s ∙ neighbour_sub j u)))
        (λ s. s)
