-- The figures among themselves: from level to level, all ports together, and each load below the paper's upper figure, since 2g - 1 is less
-- than 2g.
use mathlib.Core.Path.{◌≡◌, refl, sym, ◌∙◌, ap}
use Prim.Native.Nat.{ℕ, zero, suc, ◌+◌, ◌-◌, ◌*◌, ◌^◌, ◌<◌, ◌≤◌}
use native.Mathlib.Nat.{add-zero, add-suc, mul_assoc, mul_comm, mul_left_comm, mul-le-mul, mul-pos}
use native.Mathlib.Omega.{arith}
use lib.Pow.{pow_pos}
use Rattle.sums.specs.Sums.{sum, product}
use Rattle.sums.proofs.Sums.{sum_ext, sum-times, sum_first}
use Rattle.hall.specs.Cells.{t, g}
use Rattle.hall.proofs.Cells.{t_pos}
use Rattle.load.specs.Figures.{share, paper_rest, ways, load, cable, loads, upper}

twice : (x p q : ℕ) → x * p * (2 * q) ≡ 2 * x * (p * q)
twice x p q = mul_left_comm (x * p) 2 q ∙ ap (λ (m : ℕ). 2 * m) (mul_assoc x p q) ∙ sym (mul_assoc 2 x (p * q))

module _ (n : ℕ) where
  -- one level more: g times as many at each port, and t at the new one
  share_up : (i j : ℕ) → i ≤ j → share n (suc j) i ≡ share n j i * (t n j + 1)
  unfolding share product g
  share_up zero j h = let e : 0 + suc j ≡ suc j = omega arith in rw e (omega arith)
  share_up (suc a) j h =
      let e : suc j - suc a ≡ suc (j - suc a) = omega arith in
      let f : suc a + suc (j - suc a) ≡ suc j = omega arith in
      rw (e, f) (omega arith)

  pub share_top : (j : ℕ) → share n (suc j) (suc j) ≡ t n j
  unfolding share product
  share_top j = let e : suc j - suc j ≡ 0 = omega arith in rw e (omega arith)

  -- all ports together begin the routes to all but one
  pub all_shares : (k : ℕ) → 0 < n → sum (share n k) (suc k) + 1 ≡ t n k
  unfolding sum t
  all_shares zero pos = unfold share product in (omega arith)
  all_shares (suc j) pos =
      let s : sum (share n (suc j)) (suc j) ≡ (t n j + 1) * sum (share n j) (suc j) =
      sum_ext (share n (suc j)) (λ i. (t n j + 1) * share n j i) (suc j) (λ i h. share_up i j (omega arith) ∙ omega arith)
      ∙ sum-times (t n j + 1) (share n j) (suc j) in
      let p : (t n j + 1) * (sum (share n j) (suc j) + 1) ≡ (t n j + 1) * t n j = ap (λ (m : ℕ). (t n j + 1) * m) (all_shares j pos) in
      omega (arith, share_top j)

  pub rest_share : (k : ℕ) → 0 < n → share n k 0 + 1 ≡ paper_rest n k
  unfolding paper_rest
  rest_share k pos = omega (arith, all_shares k pos, sum_first (share n k) k)

  pub ways_next : (j : ℕ) → ways n (suc j) ≡ 2 * t n j + 1
  unfolding ways g
  ways_next j = omega arith

  -- one level more: 2t + 1 times as much over each link, and t² over the new one
  load_up : (i j : ℕ) → i ≤ j → load n (suc j) i ≡ (2 * t n j + 1) * load n j i
  unfolding load product
  load_up zero j h = let e : 0 + suc j ≡ suc j = omega arith in rw (e, ways_next j) (omega arith)
  load_up (suc a) j h =
      let e : suc j - suc a ≡ suc (j - suc a) = omega arith in
      let f : suc a + suc (j - suc a) ≡ suc j = omega arith in
      rw (e, f, ways_next j) (omega arith)

  pub load_top : (j : ℕ) → load n (suc j) (suc j) ≡ t n j * t n j
  unfolding load product
  load_top j = let e : suc j - suc j ≡ 0 = omega arith in rw e (omega arith)

  pub loads_up : (j : ℕ) → loads n (suc j) ≡ (2 * t n j + 1) * loads n j + t n j * t n j
  unfolding loads sum
  loads_up j =
      let s : sum (λ a. load n (suc j) (suc a)) j ≡ (2 * t n j + 1) * sum (λ a. load n j (suc a)) j =
      sum_ext (λ a. load n (suc j) (suc a)) (λ a. (2 * t n j + 1) * load n j (suc a)) j (λ a h. load_up (suc a) j h)
      ∙ sum-times (2 * t n j + 1) (λ a. load n j (suc a)) j in
      let c : cable n (suc j) ≡ (2 * t n j + 1) * cable n j = unfold cable in (rw (load_up 0 j (omega arith)) (omega arith)) in
      omega (arith, load_top j)

  -- t(a + d) = t(a) × g(a + 1) × .. × g(a + d)
  t_product : (a d : ℕ) → t n (a + d) ≡ t n a * product (g n) a d
  unfolding product
  t_product a zero = rw (add-zero a) (omega arith)
  t_product a (suc d) =
      let e : t n (suc (a + d)) ≡ (t n (a + d) + 1) * t n (a + d) = unfold t in refl in
      let f : g n (suc (a + d)) ≡ t n (a + d) + 1 = unfold g in refl in
      rw (add-suc a d, e, f) (ap (λ (m : ℕ). (t n (a + d) + 1) * m) (t_product a d) ∙ omega arith)

  g_pos : (j : ℕ) → 0 < g n j
  unfolding g
  g_pos zero = omega arith
  g_pos (suc j) = omega arith

  product_pos : (a d : ℕ) → 0 < product (g n) a d
  unfolding product
  product_pos a zero = omega arith
  product_pos a (suc d) = mul-pos (product_pos a d) (g_pos (a + suc d))

  double_below : (a d : ℕ) → product (ways n) a d ≤ 2 ^ d * product (g n) a d
  unfolding product
  double_below a zero = omega arith
  double_below a (suc d) =
      let l : ways n (a + suc d) ≤ 2 * g n (a + suc d) = unfold ways in (omega arith) in
      let e : 2 ^ suc d ≡ 2 * 2 ^ d = omega arith in
      rw (e, ← twice (2 ^ d) (product (g n) a d) (g n (a + suc d))) (mul-le-mul (double_below a d) l)

-- a product of which one factor is less
under : (a b p q : ℕ) → a < b → p ≤ q → 0 < q → a * p < b * q
under a b p q h l pos =
    let m : a * p ≤ a * q = mul-le-mul (omega arith) l in
    let w : suc a * q ≤ b * q = mul-le-mul h (omega arith) in
    omega arith

module _ (n : ℕ) where
  -- the paper's upper figure, from level i on
  upper_is : (k i d : ℕ) → i + d ≡ k → t n k * 2 ^ d ≡ t n i * (2 ^ d * product (g n) i d)
  upper_is k i d e =
      ap (λ (m : ℕ). t n m * 2 ^ d) (sym e)
      ∙ ap (λ (m : ℕ). m * 2 ^ d) (t_product n i d)
      ∙ mul_assoc (t n i) (product (g n) i d) (2 ^ d)
      ∙ ap (λ (m : ℕ). t n i * m) (mul_comm (product (g n) i d) (2 ^ d))

  -- so many times the product from level i on are below it, where they are fewer than t(i)
  below_upper : (k i d a : ℕ) → i + d ≡ k → a < t n i → a * product (ways n) i d < t n k * 2 ^ d
  below_upper k i d a e h = rw (upper_is k i d e)
      (under a (t n i) (product (ways n) i d) (2 ^ d * product (g n) i d) h (double_below n i d) (mul-pos (pow_pos d) (product_pos n i d)))

  pub load_under : (k a : ℕ) → 0 < n → suc a ≤ k → load n k (suc a) < upper n k (suc a)
  unfolding load upper
  load_under k a pos l =
      let h : t n a * t n a < t n (suc a) = unfold t in (omega (arith, t_pos n pos a)) in
      below_upper k (suc a) (k - suc a) (t n a * t n a) (omega arith) h

  pub switch_under : (k : ℕ) → 1 < n → load n k 0 < upper n k 0
  unfolding load upper
  switch_under k h =
      let e : k - 0 ≡ k = omega arith in
      let f : 1 < t n 0 = unfold t in h in
      rw e (omega (arith, below_upper k 0 k 1 (omega arith) f))

  pub cable_under : (k : ℕ) → 0 < n → cable n k < upper n k 0
  unfolding cable load upper
  cable_under k pos =
      let e : k - 0 ≡ k = omega arith in
      let f : n - 1 < t n 0 = unfold t in (omega arith) in
      rw e (below_upper k 0 k (n - 1) (omega arith) f)
