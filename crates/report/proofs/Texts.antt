-- Laws of the text: a number's digits by its last, how long each part of a line is and can be, and the uids one behind the other.
use mathlib.Core.Path.{◌≡◌, refl, sym, ◌∙◌, ap}
use mathlib.Core.List.{List, [], ◌∷◌, ◌++◌, append_assoc, append-nil}
use Prim.Native.Nat.{ℕ, zero, suc, min, max, ◌+◌, ◌*◌, ◌^◌, ◌/◌, ◌%◌, ◌≤◌, ◌<◌}
use native.Mathlib.Numerals.{add-one}
use native.Mathlib.Omega.{arith}
use lib.Dec.{eqb, ltb}
use native.Mathlib.Nat.{pow-suc, one-le-pow}
use lib.ListN.{length, take, drop, get_or, length-append, take-append-drop}
use lib.Seq.{take-suc, take_all}
use borrow.Author.Tests.{ltb-true, ltb-false, lt-ltb, le-ltb, eqb-true, eqb-false, eq-eqb, ne_eqb}
use Rattle.std.specs.Fmt.{decimal as library_decimal}
use Rattle.std.specs.List.{sum_by}
use Rattle.std.proofs.lemmas.Fmt.{AppendsLastDigit, decimal_from_appends, length-decimal-le_succ}
use Rattle.std.proofs.lemmas.List.Sums.{sum_by-cons}
use Rattle.combine.proofs.Tests.{cases}
use Rattle.hall.specs.declared.Hall.{Hall}
use Rattle.report.specs.declared.PacketReport.{PacketReport}
use Rattle.report.specs.Rooms.{line_room}
use Rattle.forward.specs.Packets.{delivered}
use Rattle.report.specs.Texts.{digits_within, decimal, number_with, ending_text, word_delivered, word_drop, space, newline, uids_text, packet_head, hall_line, refused_line, end_line, packet_line}

-- more digits than there are make no difference
digits_enough : (f g v : ℕ) → v < f → v < g → digits_within f v ≡ digits_within g v
unfolding digits_within
digits_enough zero g v h k = absurd (omega arith)
digits_enough (suc f) zero v h k = absurd (omega arith)
digits_enough (suc f) (suc g) v h k =
    cases (ltb v 10)
    (λ q. rw q)
    (λ q. let l = ltb-false v 10 q in rw (q, digits_enough f g (v / 10) (omega arith) (omega arith)))

pub decimal_small : (v : ℕ) → v < 10 → decimal v ≡ (48 + v) ∷ []
unfolding decimal digits_within
decimal_small v h = rw (lt-ltb v 10 h)

pub decimal_more : (v : ℕ) → 10 ≤ v → decimal v ≡ decimal (v / 10) ++ ((48 + v % 10) ∷ [])
unfolding decimal digits_within
decimal_more v h = rw (le-ltb v 10 h, digits_enough v (suc (v / 10)) (v / 10) (omega arith) (omega arith))

pub decimal_more_length : (v : ℕ) → 10 ≤ v → length (decimal v) ≡ length (decimal (v / 10)) + 1
decimal_more_length v h = ap length (decimal_more v h) ∙ length-append (decimal (v / 10)) ((48 + v % 10) ∷ [])

-- a number in decimal is the library's
pub decimal_known : (v : ℕ) → v < 2 ^ 64 → decimal v ≡ library_decimal v
unfolding decimal digits_within
decimal_known v h = decimal_from_appends digits_within last_digit (suc v) v h (omega (arith, length-decimal-le_succ v h))
  where
    last_digit : AppendsLastDigit digits_within
    last_digit = record {
      one = λ most n l. rw (lt-ltb n 10 l);
      more = λ most n l. rw (le-ltb n 10 l);
    }

-- by the power of ten that it reaches
pub decimal_power_length : (k v : ℕ) → 10 ^ k ≤ v → v < 10 * 10 ^ k → length (decimal v) ≡ k + 1
decimal_power_length zero v h l = omega (arith, ap length (decimal_small v (omega arith)))
decimal_power_length (suc k) v h l =
    let p = pow-suc 10 k in
    omega (arith, decimal_more_length v (omega (arith, one-le-pow k 10 (omega arith))), decimal_power_length k (v / 10) (omega arith) (omega arith))

-- zero has as many digits as one
pub decimal_max_length : (v : ℕ) → length (decimal (max v 1)) ≡ length (decimal v)
decimal_max_length zero = ap length (decimal_small 1 (omega arith)) ∙ sym (ap length (decimal_small 0 (omega arith)))
decimal_max_length (suc v) = let e : max (suc v) 1 ≡ suc v = omega arith in ap (λ (n : ℕ). length (decimal n)) e

-- ten times as large, one digit more
longer : (bound most : ℕ) → 0 < most → ((v : ℕ) → v < bound → length (decimal v) ≤ most) → (v : ℕ) → v < bound * 10 → length (decimal v) ≤ most + 1
longer bound most pos h v l =
    cases (ltb v 10)
    (λ q. omega (arith, ap length (decimal_small v (ltb-true v 10 q))))
    (λ q. let k = ltb-false v 10 q in
    let d : v / 10 < bound = omega arith in
    omega (arith, decimal_more_length v k, h (v / 10) d))

-- a number of 32 bits has at most ten digits
pub decimal_fits : (v : ℕ) → v < 4294967296 → length (decimal v) ≤ 10
decimal_fits v h =
    longer 1000000000 9 (omega arith) (longer 100000000 8 (omega arith) (longer 10000000 7 (omega arith) (longer 1000000 6 (omega arith)
    (longer 100000 5 (omega arith) (longer 10000 4 (omega arith) (longer 1000 3 (omega arith) (longer 100 2 (omega arith)
    (longer 10 1 (omega arith) (λ u l. omega (arith, ap length (decimal_small u l)))))))))))
    v (omega arith)

pub with_length : (behind v : ℕ) → length (number_with behind v) ≡ length (decimal v) + 1
unfolding number_with
with_length behind v = length-append (decimal v) (behind ∷ [])

pub with_fits : (behind v : ℕ) → v < 4294967296 → length (number_with behind v) ≤ 11
with_fits behind v h = omega (arith, with_length behind v, decimal_fits v h)

-- a line is as long as its parts
pub hall_parts : (h : Hall) → length (hall_line h) ≡ 5 + length (number_with space h.n) + length (number_with space h.k) + length (number_with newline h.b)
unfolding hall_line
hall_parts h = simp length-append (omega arith)

pub refused_parts : (number place : ℕ) → length (refused_line number place) ≡ 8 + length (number_with space number) + length (number_with newline place)
unfolding refused_line
refused_parts number place = simp length-append (omega arith)

pub end_parts : (packets : ℕ) → length (end_line packets) ≡ 4 + length (number_with newline packets)
unfolding end_line
end_parts packets = omega arith

pub ending_delivered : (ending : ℕ) → ending ≡ delivered → ending_text ending ≡ word_delivered
unfolding ending_text
ending_delivered ending e = rw (eq-eqb ending delivered e)

pub ending_drop : (ending : ℕ) → (ending ≡ delivered → ⊥) → ending_text ending ≡ word_drop ++ number_with space ending
unfolding ending_text
ending_drop ending ne = rw (ne_eqb ending delivered ne)

pub drop-length : (ending : ℕ) → (ending ≡ delivered → ⊥) → length (ending_text ending) ≡ 4 + length (number_with space ending)
drop-length ending ne = ap length (ending_drop ending ne) ∙ length-append word_drop (number_with space ending)

pub ending_fits : (ending : ℕ) → ending < 4294967296 → length (ending_text ending) ≤ 15
ending_fits ending h =
    cases (eqb ending delivered)
    (λ q. omega (arith, ap length (ending_delivered ending (eqb-true ending delivered q))))
    (λ q. omega (arith, drop-length ending (eqb-false ending delivered q), with_fits space ending h))

-- uids behind uids
uids_append : (a b : List ℕ) → uids_text (a ++ b) ≡ uids_text a ++ uids_text b
unfolding uids_text
uids_append [] b = refl
uids_append (u ∷ a) b = rw (uids_append a b) (sym (append_assoc (space ∷ decimal u) (uids_text a) (uids_text b)))

-- one uid more
pub uids_next : (uids : List ℕ) (i : ℕ) → i < length uids → uids_text (take (i + 1) uids) ≡ uids_text (take i uids) ++ (space ∷ decimal (get_or uids i 0))
unfolding uids_text
uids_next uids i h =
    rw (add-one i, take-suc uids i 0 h) (uids_append (take i uids) (get_or uids i 0 ∷ []) ∙ rw (append-nil (space ∷ decimal (get_or uids i 0))))

pub uids_next_length : (uids : List ℕ) (i : ℕ) → i < length uids
    → length (uids_text (take (i + 1) uids)) ≡ length (uids_text (take i uids)) + (length (decimal (get_or uids i 0)) + 1)
uids_next_length uids i h =
    omega (arith, ap length (uids_next uids i h), length-append (uids_text (take i uids)) (space ∷ decimal (get_or uids i 0)))

-- a uid is within the text of all
pub uids_within : (uids : List ℕ) (i : ℕ) → i < length uids
    → length (uids_text (take i uids)) + (length (decimal (get_or uids i 0)) + 1) ≤ length (uids_text uids)
uids_within uids i h =
    let e = take-append-drop (i + 1) uids in
    omega (
      arith,
      ap (λ (l : List ℕ). length (uids_text l)) e,
      ap length (uids_append (take (i + 1) uids) (drop (i + 1) uids)),
      length-append (uids_text (take (i + 1) uids)) (uids_text (drop (i + 1) uids)),
      uids_next_length uids i h,
    )

-- the text of uids is as long as their digits and spaces
pub uids_sum : (uids : List ℕ) → sum_by (λ u. length (decimal u) + 1) uids ≡ length (uids_text uids)
unfolding uids_text
uids_sum [] = refl
uids_sum (u ∷ uids) = omega (arith, sum_by-cons (λ w. length (decimal w) + 1) u uids, length-append (space ∷ decimal u) (uids_text uids), uids_sum uids)

-- 32-bit uids fit eleven bytes each
pub uids_fit : (uids : List ℕ) → ((i : ℕ) → get_or uids i 0 < 4294967296) → (count : ℕ) → count ≤ length uids → length (uids_text (take count uids)) ≤ 11 * count
unfolding uids_text
uids_fit uids below zero h = omega arith
uids_fit uids below (suc i) h =
    let e : length (uids_text (take (suc i) uids)) ≡ length (uids_text (take i uids)) + (length (decimal (get_or uids i 0)) + 1) =
    rw (← add-one i) (uids_next_length uids i (omega arith)) in
    omega (arith, uids_fit uids below i (omega arith), decimal_fits (get_or uids i 0) (below i))

pub uids_fit_all : (uids : List ℕ) → ((i : ℕ) → get_or uids i 0 < 4294967296) → length (uids_text uids) ≤ 11 * length uids
uids_fit_all uids below =
    let e : take (length uids) uids ≡ uids = take_all (length uids) uids (omega arith) in
    omega (arith, uids_fit uids below (length uids) (omega arith), ap (λ (l : List ℕ). length (uids_text l)) e)

-- no more uids than there are
pub take_given : (uids : List ℕ) (most : ℕ) → take (min most (length uids)) uids ≡ take most uids
take_given uids most =
    cases (ltb most (length uids))
    (λ q. let h = ltb-true most (length uids) q in let m : min most (length uids) ≡ most = omega arith in rw m)
    (λ q. let h = ltb-false most (length uids) q in let m : min most (length uids) ≡ length uids = omega arith in
    rw m (take_all (length uids) uids (omega arith) ∙ sym (take_all most uids h)))

-- a packet's line up to its colon
pub head_parts : (p : PacketReport) → length (packet_head p)
    ≡ length (number_with space p.source) + length (number_with space p.dst) + length (ending_text p.ending) + length (number_with space p.links)
    + length (number_with space p.reroutes) + 1
unfolding packet_head
head_parts p = simp length-append

-- and the uids, and a newline
pub line_parts : (p : PacketReport) (uids : List ℕ)
    → length (packet_line p uids) ≡ length (packet_head p) + length (uids_text (take (min (p.links + 1) 256) uids)) + 1
unfolding packet_line
line_parts p uids = simp length-append

-- by as many uids as are told of those given
pub line_told : (p : PacketReport) (uids : List ℕ) (count : ℕ) → count ≡ min (min (p.links + 1) 256) (length uids)
    → length (packet_line p uids) ≡ length (packet_head p) + length (uids_text (take count uids)) + 1
line_told p uids count e = line_parts p uids ∙ rw (e, take_given uids (min (p.links + 1) 256))

pub head_fits : (p : PacketReport) → p.source < 4294967296 → p.dst < 4294967296 → p.ending < 4294967296 → p.links < 4294967296 → p.reroutes < 4294967296
    → length (packet_head p) ≤ 60
head_fits p hs hd he hl hr =
    omega (
      arith,
      head_parts p,
      with_fits space p.source hs,
      with_fits space p.dst hd,
      ending_fits p.ending he,
      with_fits space p.links hl,
      with_fits space p.reroutes hr,
    )

-- the longest line
pub packet_line_fits : (p : PacketReport) (uids : List ℕ)
    → p.source < 4294967296 → p.dst < 4294967296 → p.ending < 4294967296 → p.links < 4294967296 → p.reroutes < 4294967296
    → ((i : ℕ) → get_or uids i 0 < 4294967296) → length (packet_line p uids) ≤ line_room
packet_line_fits p uids hs hd he hl hr below =
    let e : take (min (min (p.links + 1) 256) (length uids)) uids ≡ take (min (p.links + 1) 256) uids = take_given uids (min (p.links + 1) 256) in
    omega (
      arith,
      head_fits p hs hd he hl hr,
      uids_fit uids below (min (min (p.links + 1) 256) (length uids)) (omega arith),
      ap (λ (l : List ℕ). length (uids_text l)) e,
      line_parts p uids,
    )
