-- Laws of the table that a step is lent: what a step reads in it is what the hall table has, for the cell and for the far ends; the servers
-- of a cell are lent one table; hall tables that agree on these bytes give one table, and with code 1 at the same places one with code 1 at
-- the same places.
use mathlib.Core.Path.{◌≡◌, sym, ◌∙◌, ap}
use mathlib.Core.Bool.{true}
use mathlib.Core.List.{List, ◌++◌}
use Prim.Native.Nat.{ℕ, suc, ◌+◌, ◌-◌, ◌*◌, ◌/◌, ◌%◌, ◌≤◌, ◌<◌}
use native.Mathlib.Nat.{mod-lt, div-lt_iff_lt-mul}
use native.Mathlib.Omega.{arith}
use lib.Dec.{eqb, ltb}
use lib.Arith.{digits_lt, digits_div, digits_mod}
use lib.ListN.{length, get_or, take, drop, length-take, length-drop, get_or-append, get_or-eq_default}
use lib.Seq.{get_or-append-add, take_at}
use borrow.Author.Tests.{ltb-true, ltb-false}
use Rattle.combine.specs.Lists.{up_to}
use Rattle.combine.proofs.Tests.{cases}
use Rattle.combine.proofs.Lists.{length-up_to, get_or-up_to, up_to_cong}
use Rattle.hall.specs.declared.Hall.{Hall}
use Rattle.hall.specs.Cells.{same, neighbour}
use Rattle.hall.proofs.Cells.{same_eq}
use Rattle.ports.specs.Codes.{up, cell_length, run, part, SameUps}
use Rattle.ports.proofs.Parts.{Sound}
use Rattle.ports.proofs.Runs.{run_agrees}
use Rattle.ports.proofs.Tables.{up_agrees}
use Rattle.local.specs.Local.{cell_size, first_of}
use Rattle.local.proofs.Uids.{first_shared}
use Rattle.ends.specs.Tables.{levels, far_count, step_length, far_code, far_at, step_table, cell_part, far_place, far_in}
use Rattle.ends.proofs.Codes.{some_level}
use Rattle.ends.proofs.Answers.{part_length}

-- where the far code for a place of the cell and a level above b stands among the far codes, and in a table of a step's length
module _ (h : Hall) (place i : ℕ) (l : place < cell_size h) (low : h.b < i) (high : i ≤ h.k) where
  digit : i - suc h.b < levels h
  digit = omega arith

  pub far_below : place * levels h + (i - suc h.b) < far_count h
  unfolding far_count
  far_below = digits_lt l digit

  pub far_within : (lent : List ℕ) → length lent ≡ step_length h → far_place h place i < length lent
  unfolding far_place step_length
  far_within lent e = omega (arith, far_below)

module _ (h : Hall) (table : List ℕ) (me : ℕ) (s : Sound h table me) where
  -- the present bytes are the part
  pub near_part : cell_part h (step_table h table me) ≡ part h table me
  unfolding cell_part step_table
  near_part = take_at (part h table me) (up_to (far_at h table me) (far_count h)) (cell_length h h.b) (part_length h table me s)

  -- the far code that is read is the hall table's code of the far port
  module _ (place i : ℕ) (l : place < cell_size h) (low : h.b < i) (high : i ≤ h.k) where
    at_place : far_at h table me (place * levels h + (i - suc h.b)) ≡ far_code h table (first_of h me + place) i
    unfolding far_at
    at_place =
        let e : suc h.b + (i - suc h.b) ≡ i = omega arith in
        rw (digits_mod place (digit h place i l low high), digits_div place (digit h place i l low high), e)

    pub far_in_lem : far_in h (step_table h table me) place i ≡ far_code h table (first_of h me + place) i
    unfolding far_in far_place step_table
    far_in_lem =
        rw (← part_length h table me s)
        (get_or-append-add {A = ℕ} (part h table me) (up_to (far_at h table me) (far_count h)) (place * levels h + (i - suc h.b)) 0
        ∙ get_or-up_to (far_at h table me) (far_count h) (place * levels h + (i - suc h.b)) 0 (far_below h place i l low high)
        ∙ at_place)

-- the servers of a cell are lent one table
pub step_shared : (h : Hall) (table : List ℕ) (x y : ℕ) → same h.n h.b x y ≡ true → step_table h table x ≡ step_table h table y
unfolding step_table run far_at
step_shared h table x y e =
    ap (λ (c : ℕ). take (cell_length h h.b) (drop (c * cell_length h h.b) table) ++ up_to (far_at h table x) (far_count h)) (same_eq h.n h.b x y e)
    ∙ ap (λ (f : ℕ). part h table y ++ up_to (λ q. far_code h table (f + q / levels h) (suc h.b + q % levels h)) (far_count h)) (first_shared h x y e)

-- hall tables that agree on the part and on the far codes give one table
pub same_bytes : (h : Hall) (a b : List ℕ) (me : ℕ) → part h a me ≡ part h b me
    → ((place i : ℕ) → place < cell_size h → h.b < i → i ≤ h.k → far_code h a (first_of h me + place) i ≡ far_code h b (first_of h me + place) i)
    → step_table h a me ≡ step_table h b me
unfolding step_table far_at far_count
same_bytes h a b me p q =
    rw p (ap (λ (l : List ℕ). part h b me ++ l) (up_to_cong (far_at h a me) (far_at h b me) (cell_size h * levels h) (λ i l.
    let w : 0 < levels h = some_level h i l in
    let r : i % levels h < levels h = mod-lt i w in
    q (i / levels h) (suc h.b + i % levels h) ((div-lt_iff_lt-mul w).1 l) (omega arith) (omega arith))))

-- tables with code 1 at the same places, one behind the other
pub append_agrees : (a b c d : List ℕ) → length a ≡ length b → SameUps a b → SameUps c d → SameUps (a ++ c) (b ++ d)
unfolding SameUps
append_agrees a b c d e s z v =
    cases (ltb v (length a))
    (λ q. let l = ltb-true v (length a) q in rw (get_or-append {A = ℕ} a c 0 v l, get_or-append {A = ℕ} b d 0 v (omega arith)) (s v))
    (λ q.
    let l = ltb-false v (length a) q in
    let f : v ≡ length a + (v - length a) = omega arith in
    let g : v ≡ length b + (v - length a) = omega arith in
    ap (λ (k : ℕ). eqb (get_or (a ++ c) k 0) 1) f
    ∙ ap (λ (k : ℕ). eqb k 1) (get_or-append-add {A = ℕ} a c (v - length a) 0)
    ∙ z (v - length a)
    ∙ sym (ap (λ (k : ℕ). eqb (get_or (b ++ d) k 0) 1) g ∙ ap (λ (k : ℕ). eqb k 1) (get_or-append-add {A = ℕ} b d (v - length a) 0)))

up_to_agrees : (f g : ℕ → ℕ) (n : ℕ) → ((q : ℕ) → eqb (f q) 1 ≡ eqb (g q) 1) → SameUps (up_to f n) (up_to g n)
unfolding SameUps
up_to_agrees f g n s v =
    cases (ltb v n)
    (λ e. let l = ltb-true v n e in rw (get_or-up_to f n v 0 l, get_or-up_to g n v 0 l) (s v))
    (λ e.
    let l = ltb-false v n e in
    rw (get_or-eq_default {A = ℕ} (up_to f n) 0 {n = v} (omega (arith, length-up_to f n)), get_or-eq_default {A = ℕ} (up_to g n) 0 {n = v} (omega (arith, length-up_to g n))))

-- hall tables of one length with code 1 at the same places give step tables with code 1 at the same places
module _ (h : Hall) (a b : List ℕ) (me : ℕ) where
  parts_long : length a ≡ length b → length (part h a me) ≡ length (part h b me)
  unfolding run
  parts_long e = simp (length-take, length-drop) (rw e)

  far_agree : SameUps a b → (q : ℕ) → eqb (far_at h a me q) 1 ≡ eqb (far_at h b me q) 1
  unfolding far_at far_code up
  far_agree s q = up_agrees h a b s (neighbour h.n (suc h.b + q % levels h - 1) (first_of h me + q / levels h)) (suc h.b + q % levels h)

  pub step_ups : length a ≡ length b → SameUps a b → SameUps (step_table h a me) (step_table h b me)
  unfolding step_table
  step_ups e s =
      append_agrees (part h a me) (part h b me) (up_to (far_at h a me) (far_count h)) (up_to (far_at h b me) (far_count h))
      (parts_long e) (run_agrees h a b h.b me s) (up_to_agrees (far_at h a me) (far_at h b me) (far_count h) (far_agree s))
