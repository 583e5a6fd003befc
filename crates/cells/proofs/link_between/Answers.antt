-- `cells::link_between` meets its contract: the ends are those of the link between the first servers of the two sub-cells, and both are in
-- the hall, since they share a cell with the server asked.
use mathlib.Core.Path.{◌≡◌, sym, ◌∙◌, ap}
use Prim.Native.Nat.{ℕ, ◌+◌, ◌-◌, ◌*◌, ◌/◌, ◌<◌, ◌≤◌}
use native.Mathlib.Nat.{div-mul-le_self, mul-le-mul_right}
use native.Mathlib.Omega.{arith}
use Rattle.hall.specs.declared.Hall.{Hall}
use Rattle.cells.specs.declared.joined.Ends.{Ends}
use Rattle.hall.specs.Cells.{t, g, sub_over, first_over, end_over, end}
use Rattle.hall.specs.Halls.{servers, largest}
use Rattle.cells.specs.Answers.{ends_over}
use Rattle.hall.proofs.Growth.{g_at, t_next, valid_pos, valid_size, uid_fits, size_of_lem}
use Rattle.hall.proofs.Place.{place_up, place_sub}
use Rattle.hall.proofs.Links.{end_in}
use Rattle.cells.proofs.Asks.{SoundLink, link_known}
use Rattle.cells.proofs.link_between.Goals.{After-ends_over-ends, After-size_of-size, In_ok-refused_link}
use Rattle.cells.proofs.link_between.Goals as goal

-- the first server of sub-cell p is in the cell around u, and in sub-cell p
module _ (T u : ℕ) (pos : 0 < T) where
  starts : (p : ℕ) → p < T + 1 → (first_over T (first_over T u + p * T) ≡ first_over T u) × (sub_over T (first_over T u + p * T) ≡ p)
  starts p l =
      let z : first_over T u + p * T ≡ u / ((T + 1) * T) * ((T + 1) * T) + (p * T + 0) = omega arith in
      (rw z (ap (λ (k : ℕ). k * ((T + 1) * T)) (place_up T (u / ((T + 1) * T)) p 0 pos l)), rw z (place_sub T (u / ((T + 1) * T)) p 0 pos l))

  ends_are : (p q : ℕ) → p < T + 1 → q < T + 1
      → ends_over T (first_over T u + p * T) (first_over T u + q * T) ≡ record { near = end_over T u p q; far = end_over T u q p }
  ends_are p q hp hq = rw ((starts p hp).0, (starts p hp).1, (starts q hq).1)

-- what is known of the size s = t(i - 1)
pub record Size (h : Hall) (u i p q s : ℕ) : Type 0 where
  pub below : s ≡ t h.n (i - 1)
  pub whole : (s + 1) * s ≤ largest
  pub positive : 0 < s
  pub p_fits : p < s + 1
  pub q_fits : q < s + 1
  pub first : u / ((s + 1) * s) * ((s + 1) * s) < largest
  pub p_first : p * s ≤ largest
  pub q_first : q * s ≤ largest

size_known : (h : Hall) (u i p q s : ℕ) → SoundLink h u i p q → s ≡ t h.n (i - 1) → Size h u i p q s
size_known h u i p q s k e =
    let v = k.level.known in
    let g = g_at h.n i k.level.low in
    let z : i - 1 + 1 ≡ i = omega (arith, k.level.low) in
    let o : (s + 1) * s ≡ t h.n i = rw z at (t_next h.n (i - 1) s e) in
    let b = valid_size h v i k.level.high in
    let pl : p ≤ s + 1 = omega (arith, k.p_below) in
    let ql : q ≤ s + 1 = omega (arith, k.q_below) in
    record {
      below = e;
      whole = omega (arith, b);
      positive = omega (arith, valid_pos h v (i - 1));
      p_fits = omega (arith, k.p_below);
      q_fits = omega (arith, k.q_below);
      first = omega (arith, div-mul-le_self u ((s + 1) * s), uid_fits h v u k.level.below);
      p_first = omega (arith, mul-le-mul_right s pl);
      q_first = omega (arith, mul-le-mul_right s ql);
    }

-- what the code works out is the link
is_link_lem : (h : Hall) (u i p q s : ℕ) → Size h u i p q s → (e : Ends) → e ≡ ends_over s (first_over s u + p * s) (first_over s u + q * s)
    → (e.near ≡ end h.n (i - 1) u p q) × (e.far ≡ end h.n (i - 1) u q p)
unfolding end
is_link_lem h u i p q s z e f =
    let a : e ≡ record { near = end_over s u p q; far = end_over s u q p } = f ∙ ends_are s u z.positive p q z.p_fits z.q_fits in
    (ap (λ (r : Ends). r.near) a ∙ rw z.below, ap (λ (r : Ends). r.far) a ∙ rw z.below)

end_fits : (h : Hall) (u i p q x y r : ℕ) → SoundLink h u i p q → x < g h.n i → y < g h.n i → (x ≡ y → ⊥) → r ≡ end h.n (i - 1) u x y → r < 4294967296
unfolding servers
end_fits h u i p q x y r k hx hy d e =
    let v = k.level.known in
    let w = g_at h.n i k.level.low in
    let b = end_in h.n (omega (arith, v.n_low)) (i - 1) h.k u x y (omega (arith, k.level.low, k.level.high)) k.level.below (omega arith) (omega arith) d in
    omega (arith, valid_size h v h.k (omega arith))

known : (c : In_ok-refused_link) → let a = c.args in SoundLink a.h a.uid a.level a.p a.q
known c = link_known _ _ _ _ _ (sym c.in_ok-refused_link.ensures)

sized : (c : After-size_of-size) → let a = c.args in Size a.h a.uid a.level a.p a.q c.size_of-size.result
sized c =
    let k = known c.before in
    size_known _ _ _ _ _ _ k (size_of_lem _ _ _ k.level.sound (omega (arith, k.level.high)) c.size_of-size.ensures)

ends : (c : After-ends_over-ends) → let a = c.args in
    (c.ends_over-ends.result.near ≡ end a.h.n (a.level - 1) a.uid a.p a.q) × (c.ends_over-ends.result.far ≡ end a.h.n (a.level - 1) a.uid a.q a.p)
ends c = let a = c.args in
    is_link_lem a.h a.uid a.level a.p a.q _ (sized c.before) c.ends_over-ends.result c.ends_over-ends.ensures

pub overflow_sub-level : goal.overflow_sub-level
overflow_sub-level c = omega (arith, (known (goal.at.overflow_sub-level c).In_ok-refused_link).level.low)

pub overflow_add-count : goal.overflow_add-count
overflow_add-count c = omega (arith, (sized (goal.at.overflow_add-count c).After-size_of-size).whole)

pub overflow_mul-count : goal.overflow_mul-count
overflow_mul-count c = omega (arith, (sized (goal.at.overflow_mul-count c).After-size_of-size).whole)

pub nonzero_div-first : goal.nonzero_div-first
nonzero_div-first c = omega (arith, (sized (goal.at.nonzero_div-first c).After-size_of-size).positive)

pub overflow_mul-p : goal.overflow_mul-p
overflow_mul-p c = omega (arith, (sized (goal.at.overflow_mul-p c).After-size_of-size).p_first)

pub overflow_add-first : goal.overflow_add-first
overflow_add-first c = let z = sized (goal.at.overflow_add-first c).After-size_of-size in omega (arith, z.first, z.p_first)

pub overflow_mul-q : goal.overflow_mul-q
overflow_mul-q c = omega (arith, (sized (goal.at.overflow_mul-q c).After-size_of-size).q_first)

pub overflow_add-first-2 : goal.overflow_add-first-2
overflow_add-first-2 c = let z = sized (goal.at.overflow_add-first-2 c).After-size_of-size in omega (arith, z.first, z.q_first)

pub overflow_cast-result : goal.overflow_cast-result
overflow_cast-result c =
    let a = c.args in
    let k = known (goal.at.overflow_cast-result c).In_ok-refused_link in
    let f = end_fits a.h a.uid a.level a.p a.q a.p a.q _ k k.p_below k.q_below k.apart (ends (goal.at.overflow_cast-result c).After-ends_over-ends).0 in
    omega arith

pub overflow_cast-result-2 : goal.overflow_cast-result-2
overflow_cast-result-2 c =
    let a = c.args in
    let k = known (goal.at.overflow_cast-result-2 c).In_ok-refused_link in
    let f = end_fits a.h a.uid a.level a.p a.q a.q a.p _ k k.q_below k.p_below (λ z. k.apart (sym z)) (ends (goal.at.overflow_cast-result-2 c).After-ends_over-ends).1 in
    omega arith

pub returns : goal.returns
returns c =
    rw (← c.in_ok-refused_link.ensures, (ends (goal.at.returns c).After-ends_over-ends).0, (ends (goal.at.returns c).After-ends_over-ends).1)
