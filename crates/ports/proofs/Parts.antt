-- Laws of parts: the run of a hall table for a DCell lies within the table, and its byte for a place is the hall table's for the server
-- there; so a link inside the DCell is usable by the run where it is by the hall table.
use mathlib.Core.Path.{◌≡◌, refl, sym, ◌∙◌, ap}
use mathlib.Core.Bool.{true, false, true≢false}
use mathlib.Core.List.{List, [], ◌∷◌}
use Prim.Native.Nat.{ℕ, zero, suc, ◌+◌, ◌-◌, ◌*◌, ◌/◌, ◌≤◌, ◌<◌}
use native.Mathlib.Nat.{div-lt_iff_lt-mul, mul-le-mul_right, mul-le-mul}
use native.Mathlib.Omega.{arith}
use lib.Dec.{eqb, ltb, leb}
use lib.ListN.{length, take, drop}
use borrow.Author.Tests.{eqb-true, eq-eqb, ne_eqb, leb-true, leb-false, ltb-true, lt-ltb, le-ltb}
use Rattle.std.specs.Prelude.{Result, Ok, Err, is_err}
use Rattle.combine.specs.Tests.{pick}
use Rattle.combine.proofs.Tests.{cases}
use Rattle.hall.specs.declared.Hall.{Hall}
use Rattle.hall.specs.Cells.{t, cell}
use Rattle.hall.specs.Halls.{places, valid, servers, asks_hall, asks_uid}
use Rattle.hall.specs.declared.refusals.Refusal.{Refusal}
use Rattle.hall.specs.Refusals.{refusal, refusal_in, in_order, bad_hall, bad_length, bad_uid, bad_code}
use Rattle.hall.specs.Answers.{size_of}
use Rattle.hall.proofs.Asks.{refusal_in_order, unrefused_hold}
use Rattle.hall.proofs.Growth.{valid_known, valid_pos, valid_size, valid_servers, no_servers, some_servers, size_of_lem}
use Rattle.ports.specs.Codes.{largest_table, all_known, first_unknown, table_length, cell_length, run, part}
use Rattle.ports.specs.Answers.{CheckAnswer, asks_table, check_of, part_refusal, part_of}
use Rattle.ports.proofs.Tables.{all_known_lem, some_unknown}

-- a product of two 32-bit numbers, the second by one more, leaves room for a third below 2 ^ 64
pub product_fits : (a b : ℕ) → a < 4294967296 → b < 4294967296 → a * (b + 1) ≤ 18446744069414584320
product_fits a b h k =
    let p : a ≤ 4294967295 = omega arith in
    let q : b + 1 ≤ 4294967296 = omega arith in
    omega (arith, mul-le-mul p q)

-- what a call that is not refused knows of its input
pub record Sound (h : Hall) (table : List ℕ) (u : ℕ) : Type 0 where
  pub is_valid : valid h ≡ true
  pub long : length table ≡ table_length h
  pub below : u < servers h

pub sound : (h : Hall) (table : List ℕ) (u : ℕ) → part_refusal h table u ≡ 0 → Sound h table u
sound h table u e =
    let a = unrefused_hold (asks_hall h ∷ asks_table h table ∷ asks_uid h u ∷ []) refl e in
    record { is_valid = a.0; long = eqb-true (length table) (table_length h) a.1.0; below = ltb-true u (servers h) a.1.1.0 }

-- a DCell is a whole number of DCells of each level below its own
pub t_whole : (n i j : ℕ) → i ≤ j → (m : ℕ) × (t n j ≡ m * t n i)
unfolding t
t_whole n i zero h = let e : i ≡ 0 = omega arith in (1, rw e (omega arith))
t_whole n i (suc j) h =
    cases (leb i j)
    (λ q. let w = t_whole n i j (leb-true i j q) in ((t n j + 1) * w.0, ap (λ (k : ℕ). (t n j + 1) * k) w.1 ∙ omega arith))
    (λ q. let e : i ≡ suc j = omega (arith, leb-false i j q) in (1, rw e (omega arith)))

-- the DCell of level i around a server of a DCell of level j lies within it
pub cell_within : (n i j u : ℕ) → 0 < t n i → i ≤ j → u < t n j → (cell n i u + 1) * t n i ≤ t n j
unfolding cell
cell_within n i j u pos h l =
    let w = t_whole n i j h in
    let m : u < w.0 * t n i = rw w.1 at l in
    let d : u / t n i + 1 ≤ w.0 = omega (arith, (div-lt_iff_lt-mul pos).1 m) in
    rw w.1 (mul-le-mul_right (t n i) d)

-- the run for a DCell lies within the hall table
pub run_within : (h : Hall) (table : List ℕ) (u i : ℕ) → Sound h table u → i ≤ h.k → cell h.n i u * cell_length h i + cell_length h i ≤ length table
unfolding cell_length table_length servers
run_within h table u i s l =
    let v = valid_known h s.is_valid in
    let c = cell_within h.n i h.k u (valid_pos h v i) l s.below in
    rw s.long (omega (arith, mul-le-mul_right (h.k + 1) c))

-- and for a server's DCell(b) it is what stands between two places, as code works them out
module _ (h : Hall) (table : List ℕ) (u : ℕ) (s : Sound h table u) (count bytes : ℕ) (size : count ≡ t h.n h.b) (wide : bytes ≡ count * (h.k + 1)) where
  pub taken_within : u / count * bytes + bytes ≤ length table
  unfolding cell cell_length
  taken_within = rw (wide, size) (run_within h table u h.b s (valid_known h s.is_valid).b_low)

  pub taken_is : take (u / count * bytes + bytes - u / count * bytes) (drop (u / count * bytes) table) ≡ part h table u
  unfolding run cell cell_length
  taken_is = let d : u / count * bytes + bytes - u / count * bytes ≡ bytes = omega arith in rw (d, wide, size)

-- the bytes that a hall table has, from the servers of the hall as the code has them
pub bytes_are : (h : Hall) (r s : ℕ) → r ≡ pick (valid h) (servers h) 0 → (r ≡ 0 → ⊥) → s ≡ r * (h.k + 1) → s ≡ table_length h
unfolding table_length
bytes_are h r s e ne f = f ∙ ap (λ (x : ℕ). x * (h.k + 1)) (valid_servers h r e (some_servers h r e ne))

-- an index of a hall table is a 32-bit number
pub table_fits : (h : Hall) → valid h ≡ true → table_length h ≤ largest_table
unfolding table_length servers
table_fits h v =
    let k = valid_known h v in
    let a = valid_size h k h.k (omega arith) in
    let b : h.k + 1 ≤ places = omega arith in
    omega (arith, mul-le-mul a b)

-- where nothing is refused, the number that is told is 0
taken_told : (r : Result (Unit {0}) Refusal) → false ≡ is_err r → refusal_in r ≡ 0
taken_told (Ok u) e = refl
taken_told (Err a) e = absurd (true≢false (sym e))

-- the four answers of the table check
module _ (h : Hall) (table : List ℕ) where
  check_asks : refusal (asks_hall h ∷ asks_table h table ∷ (bad_code, all_known table) ∷ [])
      ≡ pick (valid h) (pick (eqb (length table) (table_length h)) (pick (all_known table) 0 bad_code) bad_length) bad_hall
  unfolding in_order
  check_asks = refusal_in_order (asks_hall h ∷ asks_table h table ∷ (bad_code, all_known table) ∷ []) refl

  pub check_hall : valid h ≡ false → ◌≡◌ {A = CheckAnswer} (record { refusal = 1; place = 0 }) (check_of h table)
  check_hall v = rw (check_asks, v)

  pub check_length : valid h ≡ true → (length table ≡ table_length h → ⊥) → ◌≡◌ {A = CheckAnswer} (record { refusal = 4; place = 0 }) (check_of h table)
  check_length v l = rw (check_asks, v, ne_eqb (length table) (table_length h) l)

  pub check_code : valid h ≡ true → length table ≡ table_length h → (i : ℕ) → i ≡ first_unknown table → i < length table
      → ◌≡◌ {A = CheckAnswer} (record { refusal = 5; place = i }) (check_of h table)
  check_code v l i e b =
      let f = some_unknown table (rw e at b) in
      rw (check_asks, v, eq-eqb (length table) (table_length h) l, f, e)

  pub check_good : valid h ≡ true → length table ≡ table_length h → (i : ℕ) → i ≡ first_unknown table → length table ≤ i
      → ◌≡◌ {A = CheckAnswer} (record { refusal = 0; place = 0 }) (check_of h table)
  check_good v l i e b =
      let f = all_known_lem table (rw e at b) in
      rw (check_asks, v, eq-eqb (length table) (table_length h) l, f)

  -- the four answers on a uid
  module _ (u : ℕ) where
    part_asks : part_refusal h table u ≡ pick (valid h) (pick (eqb (length table) (table_length h)) (pick (ltb u (servers h)) 0 bad_uid) bad_length) bad_hall
    unfolding in_order
    part_asks = refusal_in_order (asks_hall h ∷ asks_table h table ∷ asks_uid h u ∷ []) refl

    pub part_hall : valid h ≡ false → 1 ≡ part_refusal h table u
    part_hall v = rw (part_asks, v)

    pub part_length : valid h ≡ true → (length table ≡ table_length h → ⊥) → 4 ≡ part_refusal h table u
    part_length v l = rw (part_asks, v, ne_eqb (length table) (table_length h) l)

    pub part_uid : valid h ≡ true → length table ≡ table_length h → servers h ≤ u → 2 ≡ part_refusal h table u
    part_uid v l b = rw (part_asks, v, eq-eqb (length table) (table_length h) l, le-ltb u (servers h) b)

    pub part_good : valid h ≡ true → length table ≡ table_length h → u < servers h → 0 ≡ part_refusal h table u
    part_good v l b = rw (part_asks, v, eq-eqb (length table) (table_length h) l, lt-ltb u (servers h) b)

    -- where nothing is refused, the part is the run for the DCell(b), between two places of the table
    module _ (r : Result (Unit {0}) Refusal) (e : refusal_in r ≡ part_refusal h table u) (z : false ≡ is_err r) (count : ℕ) (q : count ≡ size_of h h.b) where
      part_taken : part_refusal h table u ≡ 0
      part_taken = sym e ∙ taken_told r z

      pub part_sound : Sound h table u
      part_sound = sound h table u part_taken

      part_size : count ≡ t h.n h.b
      part_size = let v = part_sound.is_valid in size_of_lem h h.b count v (valid_known h v).b_low q

      pub part_counts : 0 < count
      part_counts = rw part_size (valid_pos h (valid_known h part_sound.is_valid) h.b)

      module _ (bytes : ℕ) (wide : bytes ≡ count * (h.k + 1)) where
        pub part_within : u / count * bytes + bytes ≤ length table
        part_within = taken_within h table u part_sound count bytes part_size wide

        pub part_is : take (u / count * bytes + bytes - u / count * bytes) (drop (u / count * bytes) table) ≡ part_of h table u
        part_is = taken_is h table u part_sound count bytes part_size wide ∙ rw part_taken

-- what is refused of a hall table, and of its part for a server, ask by ask, from the servers and the bytes that the code has
pub ruleset table_asked = (no_servers, some_servers, bytes_are, check_hall, check_length, check_code, check_good)

pub ruleset part_asked = (no_servers, some_servers, valid_servers, bytes_are, part_hall, part_length, part_uid, part_good)
