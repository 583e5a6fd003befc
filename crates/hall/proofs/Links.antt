-- Laws of links in a hall: who shares its top cell is in it, and the rule of links, word for word, is the neighbour's definition.
use mathlib.Core.Path.{◌≡◌, refl, sym, ◌∙◌, ap}
use mathlib.Core.Logic.{◌↔◌}
use mathlib.Core.Bool.{true}
use Prim.Native.Nat.{ℕ, suc, ◌+◌, ◌-◌, ◌*◌, ◌/◌, ◌%◌, ◌<◌}
use native.Mathlib.Nat.{div-eq_of_lt, div-lt_iff_lt-mul}
use native.Mathlib.Omega.{arith}
use lib.Dec.{ltb}
use borrow.Author.Tests.{ltb-true, ltb-false}
use Rattle.combine.proofs.Tests.{cases, never}
use Rattle.hall.specs.Cells.{t, cell, same, sub, port, end, neighbour, Linked, up, down}
use Rattle.hall.proofs.Place.{port_lt, port_ge, made, inside_of}
use Rattle.hall.proofs.Cells.{same_eq, eq_same, same_refl, same_sym, same_mono, sub_same, sub_fits, end_cells, end_up, end_inside, end_sub, end_neighbour, t_pos, is_end, neighbour_end, neighbour_stays, neighbour_leaves, neighbour_neighbour}

module _ (n : ℕ) (pos : 0 < n) where
  pub in_hall_lem : (k x z : ℕ) → x < t n k → same n k x z ≡ true → z < t n k
  unfolding cell
  in_hall_lem k x z h s =
      let e : z / t n k ≡ 0 = sym (same_eq n k x z s) ∙ div-eq_of_lt h in
      let g : z / t n k < 1 = omega arith in
      omega (arith, (div-lt_iff_lt-mul (t_pos n pos k)).0 g)

  pub hall_same : (k x y : ℕ) → x < t n k → y < t n k → same n k x y ≡ true
  unfolding cell
  hall_same k x y hx hy = eq_same n k x y (div-eq_of_lt hx ∙ sym (div-eq_of_lt hy))

  -- who stands at the port of p = sub n j u towards q is that end of the link, in the DCell around any w of it
  pub as_end : (j w u q : ℕ) → same n (suc j) w u ≡ true → u % t n j ≡ port (sub n j u) q → u ≡ end n j w (sub n j u) q
  unfolding end cell sub t
  as_end j w u q s e =
      made (t n j) u
      ∙ ap (λ (k : ℕ). cell n (suc j) u * t n (suc j) + (sub n j u * t n j + k)) (inside_of (t n j) u (t_pos n pos j) ∙ e)
      ∙ ap (λ (k : ℕ). k * t n (suc j) + (sub n j u * t n j + port (sub n j u) q)) (sym (same_eq n (suc j) w u s))

  -- the rule of the links, word for word
  pub rule : (j u v : ℕ) → same n (suc j) u v ≡ true → sub n j u < sub n j v
      → (neighbour n j u ≡ v) ↔ ((u % t n j ≡ sub n j v - 1) × (v % t n j ≡ sub n j u))
  rule j u v s h =
      let hu = sub_fits n j u in
      let hv = sub_fits n j v in
      let ne : sub n j u ≡ sub n j v → ⊥ = λ z. omega arith in
      let a = port_lt (sub n j u) (sub n j v) h in
      let z = port_ge (sub n j v) (sub n j u) (omega arith) in (
        (λ e.
            let k = is_end n pos j u in
            let f : v ≡ end n j u k.0 (sub n j u) = sym e ∙ neighbour_end n pos j u in
            let q : sub n j v ≡ k.0 = ap (sub n j) f ∙ end_sub n j u k.0 (sub n j u) k.1 hu (λ z. k.2 (sym z)) in (
              ap (λ (w : ℕ). w % t n j) k.3 ∙ end_inside n j u (sub n j u) k.0 hu k.1 k.2 ∙ rw (← q) a,
              ap (λ (w : ℕ). w % t n j) f ∙ end_inside n j u k.0 (sub n j u) k.1 hu (λ z. k.2 (sym z)) ∙ rw (← q) z,
            )),
        (λ e.
            ap (neighbour n j) (as_end j u u (sub n j v) (same_refl n (suc j) u) (e.0 ∙ sym a))
            ∙ end_neighbour n j u (sub n j u) (sub n j v) hu hv ne
            ∙ sym (as_end j u v (sub n j u) s (e.1 ∙ sym z))),
      )

  -- a neighbour of a level up to k is in the hall
  pub neighbour_in : (j k u : ℕ) → j < k → u < t n k → neighbour n j u < t n k
  neighbour_in j k u h l = in_hall_lem k u (neighbour n j u) l (same_mono n u (neighbour n j u) h (neighbour_stays n pos j u))

  -- an end of a link of a level up to k is in the hall
  pub end_in : (j k u p q : ℕ) → j < k → u < t n k → p < t n j + 1 → q < t n j + 1 → (p ≡ q → ⊥) → end n j u p q < t n k
  end_in j k u p q h l hp hq ne =
      let s : same n (suc j) u (end n j u p q) ≡ true = eq_same n (suc j) u (end n j u p q) (sym (end_up n j u p q hp hq ne)) in
      in_hall_lem k u (end n j u p q) l (same_mono n u (end n j u p q) h s)

  -- the rule of links joins each server to its neighbour and to no other
  pub linked_neighbour : (j u v : ℕ) → Linked n j u v → neighbour n j u ≡ v
  linked_neighbour j u v (up s r) = (rule j u v s r.order).1 (r.here, r.there)
  linked_neighbour j u v (down s r) =
      let e : neighbour n j v ≡ u = (rule j v u (same_sym n (suc j) u v s) r.order).1 (r.here, r.there) in
      ap (neighbour n j) (sym e) ∙ neighbour_neighbour n pos j v

  pub neighbour_linked : (j u : ℕ) → Linked n j u (neighbour n j u)
  neighbour_linked j u =
      let v : ℕ = neighbour n j u in
      let s = neighbour_stays n pos j u in
      cases (ltb (sub n j u) (sub n j v))
      (λ q. let h = ltb-true (sub n j u) (sub n j v) q in
      let r = (rule j u v s h).0 refl in
      up s (record { order = h; here = r.0; there = r.1 }))
      (λ q.
      let d : sub n j u ≡ sub n j v → ⊥ = λ e. never (sub_same n j u v s e) (neighbour_leaves n pos j u) in
      let h : sub n j v < sub n j u = omega (arith, ltb-false (sub n j u) (sub n j v) q) in
      let r = (rule j v u (same_sym n (suc j) u v s) h).0 (neighbour_neighbour n pos j u) in
      down s (record { order = h; here = r.0; there = r.1 }))

  -- between two sub-cells there is one link, and its ends are each other's neighbours; asked the other way round it is turned round
  pub one_link : (j w u v : ℕ) → same n (suc j) w u ≡ true → same n (suc j) w v ≡ true → (sub n j u ≡ sub n j v → ⊥) → neighbour n j u ≡ v
      → (u ≡ end n j w (sub n j u) (sub n j v)) × (v ≡ end n j w (sub n j v) (sub n j u))
  one_link j w u v su sv d e =
      let k = is_end n pos j u in
      let f : v ≡ end n j u k.0 (sub n j u) = sym e ∙ neighbour_end n pos j u in
      let q : k.0 ≡ sub n j v = sym (ap (sub n j) f ∙ end_sub n j u k.0 (sub n j u) k.1 (sub_fits n j u) (λ z. k.2 (sym z))) in
      let c = same_eq n (suc j) w u su in (
        k.3 ∙ rw q (end_cells n j u (sub n j u) (sub n j v) ∙ rw (← c) (sym (end_cells n j w (sub n j u) (sub n j v)))),
        f ∙ rw q (end_cells n j u (sub n j v) (sub n j u) ∙ rw (← c) (sym (end_cells n j w (sub n j v) (sub n j u)))),
      )
