-- Laws of codes: a port is up exactly when its code is 1, what the check finds is the first unknown code, and tables with code 1 at the
-- same places have the same ports up.
use mathlib.Core.Path.{◌≡◌, refl, sym, ◌∙◌, ap}
use mathlib.Core.Bool.{true, false}
use mathlib.Core.List.{List, [], ◌∷◌, ◌++◌}
use Prim.Native.Nat.{ℕ, zero, suc, ◌+◌, ◌*◌, ◌≤◌, ◌<◌, max}
use native.Mathlib.Numerals.{add-one}
use native.Mathlib.Omega.{arith}
use lib.Dec.{leb}
use lib.ListN.{length, get_or, drop, drop_of_length-le}
use lib.Seq.{drop-cons, drop-drop, drop-append_seam}
use borrow.Author.Tests.{eqb-true, eq-eqb, leb-true, leb-false, le-leb, lt-leb}
use Rattle.std.specs.List.{fold}
use Rattle.combine.specs.Tests.{pick, both}
use Rattle.combine.proofs.Tests.{cases, both_left, both_right, both_true, both_false, both_alone, both_joined}
use Rattle.hall.specs.declared.Hall.{Hall}
use Rattle.ports.specs.Codes.{known, all_known, first_unknown, code_of, up, SameUps}

-- a port is up exactly when its code is 1
pub up_is_one : (h : Hall) (table : List ℕ) (server port : ℕ) → up h table server port ≡ true → code_of h table server port ≡ 1
unfolding up
up_is_one h table server port e = eqb-true (code_of h table server port) 1 e

pub one_is_up : (h : Hall) (table : List ℕ) (server port : ℕ) → code_of h table server port ≡ 1 → up h table server port ≡ true
unfolding up
one_is_up h table server port e = eq-eqb (code_of h table server port) 1 e

-- two tables with code 1 at the same places have the same ports up
pub up_agrees : (h : Hall) (a b : List ℕ) → SameUps a b → (server port : ℕ) → up h a server port ≡ up h b server port
unfolding SameUps up code_of
up_agrees h a b s server port = cases (leb port h.k) (λ e. rw e (s (server * (h.k + 1) + port))) (λ e. rw e)

-- a port above k is not up, whatever byte stands where it would be
pub above_not_up : (h : Hall) (table : List ℕ) (server port : ℕ) → h.k < port → up h table server port ≡ false
unfolding up code_of
above_not_up h table server port l = rw (lt-leb port h.k l)

-- the check looks no further than the table
pub first_within : (table : List ℕ) → first_unknown table ≤ length table
unfolding first_unknown
first_within [] = omega arith
first_within (code ∷ codes) = cases (known code) (λ e. rw e (omega (arith, first_within codes))) (λ e. rw e (omega arith))

-- the first unknown code of a table, from each place that is reached: a known code is passed, an unknown one is the first
pub unknown_end : (table : List ℕ) (i : ℕ) → length table ≤ i → i + first_unknown (drop i table) ≡ i
unfolding first_unknown
unknown_end table i h = rw (drop_of_length-le table h) (omega arith)

pub unknown_next : (table : List ℕ) (i : ℕ) → i < length table → known (get_or table i 0) ≡ true → i + first_unknown (drop i table) ≡ i + 1 + first_unknown (drop (i + 1) table)
unfolding first_unknown
unknown_next table i h e = rw (add-one i, drop-cons table i 0 h, e) (omega arith)

pub unknown_here : (table : List ℕ) (i : ℕ) → i < length table → known (get_or table i 0) ≡ false → i + first_unknown (drop i table) ≡ i
unfolding first_unknown
unknown_here table i h e = rw (drop-cons table i 0 h, e) (omega arith)

-- a block of known codes is passed as a whole
unknown_past : (block rest : List ℕ) → all_known block ≡ true → first_unknown (block ++ rest) ≡ length block + first_unknown rest
unfolding first_unknown all_known
unknown_past [] rest e = omega arith
unknown_past (code ∷ codes) rest e =
    let k = both_left (known code) (all_known codes) e in
    let w = unknown_past codes rest (both_right (known code) (all_known codes) e) in
    rw k (omega (arith, w))

-- and a block of the table, where what stands before it is passed
module _ (table block rest : List ℕ) (from : ℕ) (left : drop from table ≡ block ++ rest) where
  pub block_left : drop (from + length block) table ≡ rest
  block_left = sym (drop-drop (length block) from table) ∙ ap (drop (length block)) left ∙ drop-append_seam block rest

  pub block_known : from + first_unknown (drop from table) ≡ first_unknown table → all_known block ≡ true
      → from + length block + first_unknown (drop (from + length block) table) ≡ first_unknown table
  block_known f e =
      let p : first_unknown (drop from table) ≡ length block + first_unknown rest = ap first_unknown left ∙ unknown_past block rest e in
      rw block_left (omega (arith, p))

-- the higher of two codes is known exactly where both are
known_below : (a b : ℕ) → a ≤ b → known b ≡ true → known a ≡ true
unfolding known
known_below a b h e = le-leb a 4 (omega (arith, leb-true b 4 e))

known_higher : (a b : ℕ) → known (max a b) ≡ both (known a) (known b)
known_higher a b = cases (leb a b)
    (λ l.
    let k = leb-true a b l in
    let m : max a b ≡ b = omega arith in
    rw m (cases (known b) (λ e. e ∙ sym (both_true (known a) (known b) (known_below a b k e) e)) (λ e. e ∙ sym (both_false (known a) (known b) e))))
    (λ l.
    let k = leb-false a b l in
    let m : max a b ≡ a = omega arith in
    rw m (cases (known a) (λ e. e ∙ sym (both_true (known a) (known b) e (known_below b a (omega arith) e))) (λ e. rw e)))

-- whether all codes are known, by the highest of them and of the codes before
known_from : (most : ℕ) (codes : List ℕ) → known (fold (λ high code. max high code) most codes) ≡ both (known most) (all_known codes)
unfolding all_known
known_from most [] = sym (both_alone (known most))
known_from most (code ∷ codes) =
    known_from (max most code) codes ∙ rw (known_higher most code) (sym (both_joined (known most) (known code) (all_known codes)))

pub known_highest : (codes : List ℕ) → known (fold (λ high code. max high code) 0 codes) ≡ all_known codes
unfolding known
known_highest codes = known_from 0 codes

-- the first unknown code stands below the length exactly where one is unknown
pub all_known_lem : (table : List ℕ) → length table ≤ first_unknown table → all_known table ≡ true
unfolding first_unknown all_known
all_known_lem [] h = refl
all_known_lem (code ∷ codes) h =
    cases (known code)
    (λ e.
    let k : suc (length codes) ≤ pick (known code) (suc (first_unknown codes)) 0 = h in
    let l : suc (length codes) ≤ suc (first_unknown codes) = rw e at k in
    both_true (known code) (all_known codes) e (all_known_lem codes (omega arith)))
    (λ e.
    let k : suc (length codes) ≤ pick (known code) (suc (first_unknown codes)) 0 = h in
    let l : suc (length codes) ≤ 0 = rw e at k in
    absurd (omega arith))

pub some_unknown : (table : List ℕ) → first_unknown table < length table → all_known table ≡ false
unfolding first_unknown all_known
some_unknown [] h = absurd (omega arith)
some_unknown (code ∷ codes) h =
    cases (known code)
    (λ e.
    let k : pick (known code) (suc (first_unknown codes)) 0 < suc (length codes) = h in
    let l : suc (first_unknown codes) < suc (length codes) = rw e at k in
    rw e (some_unknown codes (omega arith)))
    (λ e. rw e)

-- every code below the length of a table is known where the check finds all known, and only there
pub known_each : (table : List ℕ) → all_known table ≡ true → (i : ℕ) → i < length table → known (get_or table i 0) ≡ true
unfolding all_known
known_each [] e i h = absurd (omega arith)
known_each (code ∷ codes) e zero h = both_left (known code) (all_known codes) e
known_each (code ∷ codes) e (suc i) h = known_each codes (both_right (known code) (all_known codes) e) i (omega arith)

pub each_known : (table : List ℕ) → ((i : ℕ) → i < length table → known (get_or table i 0) ≡ true) → all_known table ≡ true
unfolding all_known
each_known [] h = refl
each_known (code ∷ codes) h = both_true (known code) (all_known codes) (h 0 (omega arith)) (each_known codes (λ i l. h (suc i) (omega arith)))

-- the code that the check tells is unknown, and each before it is known
pub first_is_unknown : (table : List ℕ) → first_unknown table < length table → known (get_or table (first_unknown table) 0) ≡ false
unfolding first_unknown
first_is_unknown [] h = absurd (omega arith)
first_is_unknown (code ∷ codes) h =
    cases (known code)
    (λ e.
    let k : pick (known code) (suc (first_unknown codes)) 0 < suc (length codes) = h in
    let l : suc (first_unknown codes) < suc (length codes) = rw e at k in
    rw e (first_is_unknown codes (omega arith)))
    (λ e. rw e e)

pub known_before : (table : List ℕ) (i : ℕ) → i < first_unknown table → known (get_or table i 0) ≡ true
unfolding first_unknown
known_before [] i h = absurd (omega arith)
known_before (code ∷ codes) zero h =
    cases (known code)
    (λ e. e)
    (λ e.
    let k : 0 < pick (known code) (suc (first_unknown codes)) 0 = h in
    let l : 0 < 0 = rw e at k in
    absurd (omega arith))
known_before (code ∷ codes) (suc i) h =
    cases (known code)
    (λ e.
    let k : suc i < pick (known code) (suc (first_unknown codes)) 0 = h in
    let l : suc i < suc (first_unknown codes) = rw e at k in
    known_before codes i (omega arith))
    (λ e.
    let k : suc i < pick (known code) (suc (first_unknown codes)) 0 = h in
    let l : suc i < 0 = rw e at k in
    absurd (omega arith))
