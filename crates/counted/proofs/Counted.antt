-- Laws of a table as its codes count: it is read byte by byte, so that it is the same table in a full hall, is cut into parts like any other, has
-- code 1 where the table has and both servers are fitted, and is as it stands, or all 0, for the links inside a DCell1.
use mathlib.Core.Path.{◌≡◌, refl, sym, ◌∙◌, ap}
use mathlib.Core.Bool.{true, false}
use mathlib.Core.List.{List}
use Prim.Native.Nat.{ℕ, zero, suc, ◌+◌, ◌*◌, ◌/◌, ◌%◌, ◌<◌, ◌≤◌}
use native.Mathlib.Nat.{mul-add-div_right, mul-add-mod_self_right}
use native.Mathlib.Omega.{arith}
use lib.Dec.{eqb, leb, ltb}
use lib.Arith.{digits_div, digits_mod}
use lib.ListN.{length, get_or, get_or-eq_default}
use lib.Seq.{ext_get_or}
use borrow.Author.Tests.{leb-true, ltb-true, ltb-false}
use Rattle.combine.specs.Tests.{pick, both}
use Rattle.combine.specs.Lists.{up_to}
use Rattle.combine.proofs.Tests.{cases, pick_same}
use Rattle.combine.proofs.Lists.{length-up_to, get_or-up_to}
use Rattle.hall.specs.declared.Hall.{Hall}
use Rattle.hall.specs.Cells.{t, cell, same, neighbour}
use Rattle.hall.proofs.Cells.{eq_same, same_mono, neighbour_stays}
use Rattle.ports.specs.Codes.{not_fitted, code_up, code_of, up, cell_length, run, SameUps}
use Rattle.ports.proofs.Parts.{Sound}
use Rattle.ports.proofs.Runs.{length_run, run_at}
use Rattle.hall.specs.Halls.{is_full}
use Rattle.plan.specs.Answers.{fitted}
use Rattle.plan.proofs.Halls.{fitted_same, fitted_full}
use Rattle.counted.specs.Counted.{far_fitted, port_fitted, counted_at, counted}

module _ (h : Hall) where
  -- the equations of the ports
  pub port_switch : (u : ℕ) → port_fitted h u 0 ≡ fitted h u
  unfolding port_fitted far_fitted
  port_switch u = cases (fitted h u) (λ e. rw e) (λ e. rw e)

  pub port_link : (u j : ℕ) → port_fitted h u (suc j) ≡ both (fitted h u) (fitted h (neighbour h.n j u))
  unfolding port_fitted far_fitted
  port_link u j = refl

  pub port_none : (u port : ℕ) → fitted h u ≡ false → port_fitted h u port ≡ false
  unfolding port_fitted
  port_none u port e = rw e

  module _ (first : ℕ) (table : List ℕ) where
    pub counted_length : length (counted h first table) ≡ length table
    unfolding counted
    counted_length = length-up_to (counted_at h first table) (length table)

    -- byte by byte, behind the end too
    pub counted_at_lem : (i : ℕ) → get_or (counted h first table) i 0 ≡ counted_at h first table i
    unfolding counted counted_at
    counted_at_lem i = cases (ltb i (length table))
        (λ e. get_or-up_to (counted_at h first table) (length table) i 0 (ltb-true i (length table) e))
        (λ e.
        let l = ltb-false i (length table) e in
        let w = length-up_to (counted_at h first table) (length table) in
        let z : get_or table i 0 ≡ 0 = get_or-eq_default {A = ℕ} table 0 {n = i} l in
        get_or-eq_default {A = ℕ} (up_to (counted_at h first table) (length table)) 0 {n = i} (omega arith)
        ∙ rw z (sym (pick_same (port_fitted h (first + i / (h.k + 1)) (i % (h.k + 1))) 0)))

    -- the code of a port as it counts
    pub counted_code : (x port : ℕ) → code_of h (counted h first table) x port ≡ pick (port_fitted h (first + x) port) (code_of h table x port) not_fitted
    unfolding code_of counted_at
    counted_code x port = cases (leb port h.k)
        (λ e.
        let l = leb-true port h.k e in
        let b : port < h.k + 1 = omega arith in
        rw e (counted_at_lem (x * (h.k + 1) + port) ∙ rw (digits_div x b, digits_mod x b)))
        (λ e. rw e (sym (pick_same (port_fitted h (first + x) port) not_fitted)))

    -- only code 1 counts as up, where both servers are fitted
    pub counted_up : (x port : ℕ) → up h (counted h first table) x port ≡ both (port_fitted h (first + x) port) (up h table x port)
    unfolding up
    counted_up x port =
        ap (λ (code : ℕ). eqb code code_up) (counted_code x port)
        ∙ cases (port_fitted h (first + x) port) (λ e. rw e) (λ e. rw e)

  -- a code that counts goes on counting so
  pub counted_twice : (first : ℕ) (table : List ℕ) → counted h first (counted h first table) ≡ counted h first table
  unfolding counted_at
  counted_twice first table =
      let l = counted_length first (counted h first table) in
      ext_get_or 0 (counted h first (counted h first table)) (counted h first table) l
      (λ i b. counted_at_lem first (counted h first table) i ∙ again i ∙ sym (counted_at_lem first table i))
    where
      again : (i : ℕ) → counted_at h first (counted h first table) i ≡ counted_at h first table i
      again i = cases (port_fitted h (first + i / (h.k + 1)) (i % (h.k + 1))) (λ e. rw e (counted_at_lem first table i ∙ rw e)) (λ e. rw e)

  -- in a full hall it is the same table
  pub counted_full : (first : ℕ) (table : List ℕ) → is_full h ≡ true → counted h first table ≡ table
  unfolding counted_at
  counted_full first table full = ext_get_or 0 (counted h first table) table (counted_length first table) (λ i l. counted_at_lem first table i ∙ whole i)
    where
      port_full : (u port : ℕ) → port_fitted h u port ≡ true
      port_full u zero = port_switch u ∙ fitted_full h u full
      port_full u (suc j) = port_link u j ∙ rw (fitted_full h u full, fitted_full h (neighbour h.n j u) full)

      whole : (i : ℕ) → counted_at h first table i ≡ get_or table i 0
      whole i = rw (port_full (first + i / (h.k + 1)) (i % (h.k + 1)))

  -- the part of a counted hall table is the counted part
  pub counted_part : (table : List ℕ) (u i : ℕ) → Sound h table u → i ≤ h.k → run h (counted h 0 table) i u ≡ counted h (cell h.n i u * t h.n i) (run h table i u)
  unfolding counted_at cell_length
  counted_part table u i s l =
      let long : length (counted h 0 table) ≡ length table = counted_length 0 table in
      let sound : Sound h (counted h 0 table) u = record { is_valid = s.is_valid; long = long ∙ s.long; below = s.below } in
      let a = length_run h (counted h 0 table) u i sound l in
      let b = length_run h table u i s l in
      let c = counted_length (cell h.n i u * t h.n i) (run h table i u) in
      ext_get_or 0 (run h (counted h 0 table) i u) (counted h (cell h.n i u * t h.n i) (run h table i u)) (omega arith)
      (λ v w. run_at h (counted h 0 table) i u v (omega arith) ∙ counted_at_lem 0 table (cell h.n i u * cell_length h i + v) ∙ byte v (omega arith) ∙ sym (counted_at_lem (cell h.n i u * t h.n i) (run h table i u) v))
    where
      byte : (v : ℕ) → v < cell_length h i → counted_at h 0 table (cell h.n i u * cell_length h i + v) ≡ counted_at h (cell h.n i u * t h.n i) (run h table i u) v
      byte v w =
          let K : ℕ = h.k + 1 in
          let C : ℕ = cell h.n i u * t h.n i in
          let pos : 0 < K = omega arith in
          let e : cell h.n i u * cell_length h i + v ≡ C * K + v = omega arith in
          let d : (C * K + v) / K ≡ C + v / K = mul-add-div_right pos C v in
          let m : (C * K + v) % K ≡ v % K = mul-add-mod_self_right C K v in
          let r : get_or (run h table i u) v 0 ≡ get_or table (C * K + v) 0 = run_at h table i u v w ∙ ap (λ (x : ℕ). get_or table x 0) e in
          let z : 0 + (C + v / K) ≡ C + v / K = omega arith in
          rw (e, d, m, z, r)

  -- tables with code 1 at the same places count as such
  pub counted_ups : (first : ℕ) (a b : List ℕ) → SameUps a b → SameUps (counted h first a) (counted h first b)
  unfolding SameUps counted_at
  counted_ups first a b s i =
      ap (λ (code : ℕ). eqb code code_up) (counted_at_lem first a i)
      ∙ byte
      ∙ sym (ap (λ (code : ℕ). eqb code code_up) (counted_at_lem first b i))
    where
      byte : eqb (counted_at h first a i) code_up ≡ eqb (counted_at h first b i) code_up
      byte = cases (port_fitted h (first + i / (h.k + 1)) (i % (h.k + 1))) (λ e. rw e (s i)) (λ e. rw e)

  -- a hall table as its codes count is as sound
  pub counted_sound : (table : List ℕ) (u : ℕ) → Sound h table u → Sound h (counted h 0 table) u
  counted_sound table u s = record { is_valid = s.is_valid; long = counted_length 0 table ∙ s.long; below = s.below }

  -- a port of level 0 or 1 leads to no other DCell1, so it counts where its server is fitted
  pub port_near : 0 < h.n → (u port : ℕ) → port < 2 → fitted h u ≡ true → port_fitted h u port ≡ true
  unfolding port_fitted far_fitted
  port_near pos u zero l e = rw e
  port_near pos u (suc zero) l e = rw (← fitted_same h u (neighbour h.n 0 u) (neighbour_stays h.n pos 0 u), e)
  port_near pos u (suc (suc j)) l e = absurd (omega arith)

  -- A DCELL(b) IS FITTED AS A WHOLE, b being at most 1
  module _ (pos : 0 < h.n) (i u : ℕ) (low : i ≤ 1) where
    pub cell_same : (x : ℕ) → x < t h.n i → same h.n 1 u (cell h.n i u * t h.n i + x) ≡ true
    cell_same x b = same_mono h.n {i = i} {j = 1} u (cell h.n i u * t h.n i + x) low (eq_same h.n i u (cell h.n i u * t h.n i + x) (sym (unfold cell in (digits_div (u / t h.n i) b))))

    pub cell_fitted : (x : ℕ) → x < t h.n i → fitted h (cell h.n i u * t h.n i + x) ≡ fitted h u
    cell_fitted x b = sym (fitted_same h u (cell h.n i u * t h.n i + x) (cell_same x b))

    module _ (table : List ℕ) where
      -- for a fitted server the codes of its cell of level up to 1 are as they stand
      pub counted_local : fitted h u ≡ true → (x port : ℕ) → x < t h.n i → port ≤ 1
          → code_of h (counted h (cell h.n i u * t h.n i) table) x port ≡ code_of h table x port
      counted_local e x port b l =
          let v : ℕ = cell h.n i u * t h.n i + x in
          counted_code (cell h.n i u * t h.n i) table x port ∙ rw (port_near pos v port (omega arith) (cell_fitted x b ∙ e))

      -- for one that is not fitted every code of its cell counts 0
      pub counted_none : fitted h u ≡ false → (x port : ℕ) → x < t h.n i
          → code_of h (counted h (cell h.n i u * t h.n i) table) x port ≡ not_fitted
      counted_none e x port b =
          let v : ℕ = cell h.n i u * t h.n i + x in
          counted_code (cell h.n i u * t h.n i) table x port ∙ rw (port_none v port (cell_fitted x b ∙ e))

      -- a link of level j + 1 above b counts as up where the near code is 1, and the server and its neighbour are fitted
      pub counted_usable : (x j : ℕ) → x < t h.n i
          → up h (counted h (cell h.n i u * t h.n i) table) x (suc j)
          ≡ both (both (fitted h u) (fitted h (neighbour h.n j (cell h.n i u * t h.n i + x)))) (up h table x (suc j))
      counted_usable x j b =
          let v : ℕ = cell h.n i u * t h.n i + x in
          counted_up (cell h.n i u * t h.n i) table x (suc j) ∙ rw (port_link v j, cell_fitted x b)
