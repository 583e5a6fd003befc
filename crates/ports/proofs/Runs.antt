-- Laws of runs: the run of a hall table for a DCell has the hall table's byte at each port of the DCell, and numbers shift by whole
-- DCells, so its links are usable by the run exactly where they are by the hall table.
use mathlib.Core.Path.{◌≡◌, refl, ◌∙◌, ap}
use mathlib.Core.Bool.{Bool, true, false}
use mathlib.Core.List.{List}
use Prim.Native.Nat.{ℕ, zero, suc, ◌+◌, ◌-◌, ◌*◌, ◌/◌, ◌%◌, ◌≤◌, ◌<◌}
use native.Mathlib.Nat.{mod-lt, div-add-mod', mul-add-div_right, mul-add-mod_self_right}
use native.Mathlib.Omega.{arith}
use lib.Dec.{eqb, leb, ltb}
use lib.Arith.{digits_lt}
use lib.ListN.{length, get_or, take, drop, length-take, length-drop, get_or-eq_default}
use lib.Seq.{get_or-take, get_or-drop}
use borrow.Author.Tests.{eqb-true, eq-eqb, ltb-true, ltb-false, le-leb}
use Rattle.combine.specs.Tests.{pick}
use Rattle.combine.proofs.Tests.{cases, both_ways, both_alone}
use Rattle.hall.specs.declared.Hall.{Hall}
use Rattle.hall.specs.Cells.{t, cell, same, neighbour, neighbour_over}
use Rattle.hall.proofs.Cells.{t_pos}
use Rattle.ports.specs.Codes.{code_of, up, cell_length, run, SameUps, EveryUp}
use Rattle.ports.specs.Links.{on_switch, both_up, wired, joined}
use Rattle.ports.proofs.Parts.{Sound, run_within, t_whole}

-- a run is as long as its DCell asks, where the hall table is sound
pub length_run : (h : Hall) (table : List ℕ) (u i : ℕ) → Sound h table u → i ≤ h.k → length (run h table i u) ≡ cell_length h i
unfolding run
length_run h table u i s l =
    let w = run_within h table u i s l in
    omega (arith, length-take (cell_length h i) (drop (cell h.n i u * cell_length h i) table), length-drop (cell h.n i u * cell_length h i) table)

-- the run's byte for a place and port is the hall table's for the server there
pub run_up : (h : Hall) (table : List ℕ) (i u x p : ℕ) → x < t h.n i → p ≤ h.k → up h (run h table i u) x p ≡ up h table (cell h.n i u * t h.n i + x) p
unfolding up code_of run cell_length
run_up h table i u x p b l =
    let q : p < h.k + 1 = omega arith in
    let c : ℕ = cell h.n i u in
    let T : ℕ = t h.n i in
    let e : c * (T * (h.k + 1)) + (x * (h.k + 1) + p) ≡ (c * T + x) * (h.k + 1) + p = omega arith in
    rw (le-leb p h.k l) (ap (λ (code : ℕ). eqb code 1)
    (get_or-take {A = ℕ} (T * (h.k + 1)) (drop (c * (T * (h.k + 1))) table) (x * (h.k + 1) + p) 0 (digits_lt b q)
    ∙ get_or-drop {A = ℕ} (c * (T * (h.k + 1))) table (x * (h.k + 1) + p) 0
    ∙ ap (λ (at : ℕ). get_or table at 0) e))

-- the part's byte for a server is the hall table's
pub part_up : (h : Hall) (table : List ℕ) (i u p : ℕ) → 0 < h.n → p ≤ h.k → up h (run h table i u) (u % t h.n i) p ≡ up h table u p
unfolding cell
part_up h table i u p pos l =
    run_up h table i u (u % t h.n i) p (mod-lt u (t_pos h.n pos i)) l
    ∙ ap (λ (v : ℕ). up h table v p) (div-add-mod' u (t h.n i))

-- what is taken of tables with code 1 at the same places, and what is left of them, has it at the same places; and so have their runs
pub take_agrees : (m : ℕ) (a b : List ℕ) → SameUps a b → SameUps (take m a) (take m b)
unfolding SameUps
take_agrees m a b s v =
    cases (ltb v m)
    (λ e. let l = ltb-true v m e in rw (get_or-take {A = ℕ} m a v 0 l, get_or-take {A = ℕ} m b v 0 l) (s v))
    (λ e.
    let l = ltb-false v m e in
    rw (get_or-eq_default {A = ℕ} (take m a) 0 {n = v} (omega (arith, length-take m a)), get_or-eq_default {A = ℕ} (take m b) 0 {n = v} (omega (arith, length-take m b))))

pub drop_agrees : (m : ℕ) (a b : List ℕ) → SameUps a b → SameUps (drop m a) (drop m b)
unfolding SameUps
drop_agrees m a b s v = rw (get_or-drop {A = ℕ} m a v 0, get_or-drop {A = ℕ} m b v 0) (s (m + v))

pub run_agrees : (h : Hall) (a b : List ℕ) (i u : ℕ) → SameUps a b → SameUps (run h a i u) (run h b i u)
unfolding run
run_agrees h a b i u s =
    let m : ℕ = cell_length h i in
    let d : ℕ = cell h.n i u * m in
    take_agrees m (drop d a) (drop d b) (drop_agrees d a b s)

-- numbers shifted by a whole number of DCells
pub eqb_shift : (a x y : ℕ) → eqb (a + x) (a + y) ≡ eqb x y
eqb_shift a x y =
    both_ways (eqb (a + x) (a + y)) (eqb x y)
    (λ e. let w = eqb-true (a + x) (a + y) e in eq-eqb x y (omega arith))
    (λ e. let w = eqb-true x y e in eq-eqb (a + x) (a + y) (omega arith))

pick_shift : (b : Bool) (a x y : ℕ) → pick b (a + x) (a + y) ≡ a + pick b x y
pick_shift true a x y = refl
pick_shift false a x y = refl

-- over one variable: T servers in a sub-cell, a shift by a cells of (T + 1) * T
shift_over : (T a x : ℕ) → 0 < T → neighbour_over T (a * ((T + 1) * T) + x) ≡ a * ((T + 1) * T) + neighbour_over T x
shift_over T a x pos =
    let S : ℕ = (T + 1) * T in
    let big : 0 < S = omega arith in
    let d : (a * S + x) / S ≡ a + x / S = mul-add-div_right big a x in
    let m : (a * S + x) % S ≡ x % S = mul-add-mod_self_right a S x in
    let r : (a * S + x) % T ≡ x % T = ap (λ (v : ℕ). v % T) (omega arith) ∙ mul-add-mod_self_right (a * (T + 1)) T x in
    let s : ℕ = x % S / T in
    let f : (y : ℕ) → (a + x / S) * S + y ≡ a * S + (x / S * S + y) = λ y. omega arith in
    rw (d, m, r, f ((x % T + 1) * T + s), f (x % T * T + (s - 1)))
    (pick_shift (leb s (x % T)) (a * S) (x / S * S + ((x % T + 1) * T + s)) (x / S * S + (x % T * T + (s - 1))))

pub neighbour_shift : (n : ℕ) → 0 < n → (i j c x : ℕ) → j < i → neighbour n j (c * t n i + x) ≡ c * t n i + neighbour n j x
unfolding neighbour t
neighbour_shift n pos i j c x h =
    let w = t_whole n (suc j) i h in
    let e : c * t n i ≡ c * w.0 * ((t n j + 1) * t n j) = ap (λ (v : ℕ). c * v) w.1 ∙ omega arith in
    rw e (shift_over (t n j) (c * w.0) x (t_pos n pos j))

switch_shift : (n : ℕ) → 0 < n → (i c x y : ℕ) → on_switch n (c * t n i + x) (c * t n i + y) ≡ on_switch n x y
unfolding on_switch same cell t
switch_shift n pos i c x y =
    let w = t_whole n 0 i (omega arith) in
    let e : c * t n i ≡ c * w.0 * n = ap (λ (v : ℕ). c * v) w.1 ∙ omega arith in
    rw (eqb_shift (c * t n i) x y, e, mul-add-div_right pos (c * w.0) x, mul-add-div_right pos (c * w.0) y, eqb_shift (c * w.0) (x / n) (y / n))

-- a link inside a DCell is usable by its run exactly where it is by the hall table
pub joined_run : (h : Hall) (table : List ℕ) → 0 < h.n → (i u l x y : ℕ) → l ≤ i → l ≤ h.k → x < t h.n i → y < t h.n i
    → joined h (run h table i u) l x y ≡ joined h table l (cell h.n i u * t h.n i + x) (cell h.n i u * t h.n i + y)
unfolding joined both_up
joined_run h table pos i u zero x y li lk bx by =
    rw (switch_shift h.n pos i (cell h.n i u) x y, run_up h table i u x 0 bx (omega arith), run_up h table i u y 0 by (omega arith))
joined_run h table pos i u (suc j) x y li lk bx by =
    let c : ℕ = cell h.n i u in
    rw (
      joined_run h table pos i u j x y (omega arith) (omega arith) bx by,
      neighbour_shift h.n pos i j c x li,
      eqb_shift (c * t h.n i) (neighbour h.n j x) y,
      run_up h table i u x (suc j) bx lk,
      run_up h table i u y (suc j) by lk,
    )

-- where every port is up, so is each port of each server
pub every_up : (h : Hall) (table : List ℕ) (count : ℕ) → EveryUp table → length table ≡ count * (h.k + 1) → (x p : ℕ) → x < count → p ≤ h.k → up h table x p ≡ true
unfolding EveryUp up code_of
every_up h table count a long x p b l =
    let q : p < h.k + 1 = omega arith in
    rw (le-leb p h.k l) (eq-eqb (get_or table (x * (h.k + 1) + p) 0) 1 (a (x * (h.k + 1) + p) (omega (arith, digits_lt b q))))

-- and every link of level at most l is usable
pub joined_every : (h : Hall) (table : List ℕ) (count : ℕ) → EveryUp table → length table ≡ count * (h.k + 1) → (l x y : ℕ) → l ≤ h.k → x < count → y < count
    → joined h table l x y ≡ wired h.n l x y
unfolding joined wired both_up
joined_every h table count a long zero x y l bx by =
    rw (every_up h table count a long x 0 bx (omega arith), every_up h table count a long y 0 by (omega arith)) (both_alone (on_switch h.n x y))
joined_every h table count a long (suc j) x y l bx by =
    rw (joined_every h table count a long j x y (omega arith) bx by, every_up h table count a long x (suc j) bx l, every_up h table count a long y (suc j) by l, both_alone (eqb (neighbour h.n j x) y))

-- a run of a table whose every port is up
pub run_at : (h : Hall) (table : List ℕ) (i u v : ℕ) → v < cell_length h i → get_or (run h table i u) v 0 ≡ get_or table (cell h.n i u * cell_length h i + v) 0
unfolding run
run_at h table i u v b =
    get_or-take {A = ℕ} (cell_length h i) (drop (cell h.n i u * cell_length h i) table) v 0 b
    ∙ get_or-drop {A = ℕ} (cell h.n i u * cell_length h i) table v 0

pub run_every : (h : Hall) (table : List ℕ) (i u : ℕ) → EveryUp table → Sound h table u → i ≤ h.k → EveryUp (run h table i u)
unfolding EveryUp
run_every h table i u a s l v b =
    let w = run_within h table u i s l in
    let z = length_run h table u i s l in
    run_at h table i u v (omega arith) ∙ a (cell h.n i u * cell_length h i + v) (omega arith)
