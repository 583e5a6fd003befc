-- The rebuilt sheet is accepted, and no port in it is up that was not: each mended code is known and 1 only where it was, each kept packet sound.
use Prim.{tt}
use mathlib.Core.Path.{◌≡◌, refl, sym, ◌∙◌, ap}
use mathlib.Core.Bool.{Bool, true, false}
use mathlib.Core.Logic.{◌↔◌}
use mathlib.Core.List.{List, [], ◌∷◌, ◌++◌, map}
use Prim.Native.Nat.{ℕ, zero, suc, ◌+◌, ◌-◌, ◌*◌, ◌≤◌, ◌<◌, min}
use native.Mathlib.Omega.{arith}
use lib.Dec.{eqb, leb, ltb}
use lib.ListN.{length, get_or, drop, replicate, length-append, length-take, length-map, length-replicate, length-drop}
use lib.Seq.{get_or-take, get_or-drop}
use borrow.Author.Tests.{leb-true, le-leb, eqb-true, ltb-true, ltb-false}
use Rattle.combine.specs.Tests.{pick}
use Rattle.combine.proofs.Tests.{cases, never}
use Rattle.hall.specs.declared.Hall.{Hall}
use Rattle.hall.specs.Halls.{hall_of, servers}
use Rattle.hall.specs.Refusals.{bad_length}
use Rattle.ports.specs.Codes.{known, table_length, up, code_of}
use Rattle.ports.proofs.Tables.{up_is_one, one_is_up}
use Rattle.sheet.specs.declared.Field.{Field}
use Rattle.sheet.specs.declared.Field.TheVariants.{Value, Refused}
use Rattle.words.specs.Words.{Bytes}
use Rattle.sheet.specs.Formats.{Format, and_then, read}
use Rattle.sheet.specs.Sheets.{longest, first_count, count, number_n, number_k, number_b, fitted, packet, tables_of, night_sheet}
use Rattle.sheet.specs.Answers.{count_place, codes_place, code_count_of, hall_in, accepted_as, sheet_of}
use Rattle.sheet.proofs.Reading.{onward, read_then, then_refused, field_read}
use Rattle.sheet.proofs.Places.{codes_behind}
use Rattle.sheet.proofs.Heads.{hall_read}
use Rattle.sheet.proofs.Accepted.{packet_read}
use Rattle.sheetparts.specs.declared.SheetPacket.{SheetPacket}
use Rattle.sheetparts.specs.Parts.{codes_of, packet_part}
use Rattle.laying.proofs.Lists.{every_append, every_same, every_mapped}
use Rattle.laying.specs.Filled.{Sound, Every}
use Rattle.writing.specs.Writing.{filled_sheet, writer_says, PacketHeld, Held, PacketSound}
use Rattle.salvage.specs.Salvage.{HeadHeld, head_sheet, mended, codes_there, codes_mended, packet_there, count_there, begun, accepts, keeps, those, kept, rebuilt}
use Rattle.writing.proofs.Written.{writer_accepts, part_held, reads_back, codes_back, sheet_sound}

every_those : (P : SheetPacket → Type 0) (p : ℕ → Bool) (f : ℕ → SheetPacket) → ((i : ℕ) → p i ≡ true → P (f i)) → (i so-many : ℕ)
    → Every P (map f (those p i so-many))
unfolding Every those
every_those P p f h i zero = tt
every_those P p f h i (suc so-many) =
    cases (p i)
    (λ t. rw t (h i t, every_those P p f h (suc i) so-many))
    (λ t. rw t (every_those P p f h (suc i) so-many))

-- the mended codes are all there, and known
mended_known : (c : ℕ) → known (mended c) ≡ true
unfolding mended
mended_known c = cases (known c) (λ t. rw (t, t)) (λ t. rw t (unfold known in refl))

pub mended_long : (h : Hall) (s : List ℕ) → length (codes_mended h s) ≡ table_length h
unfolding codes_mended
mended_long h s =
    omega (
      arith,
      length-append (map mended (codes_there h s)) (replicate (table_length h - length (codes_there h s)) 0),
      length-map (codes_there h s) mended,
      length-replicate {A = ℕ} (table_length h - length (codes_there h s)) 0,
      length-take (table_length h) (drop (codes_place s) s),
    )

mended_all : (P : ℕ → Type 0) → ((c : ℕ) → known c ≡ true → P c) → (h : Hall) (s : List ℕ) → Every P (codes_mended h s)
unfolding codes_mended
mended_all P f h s =
    every_append P (map mended (codes_there h s)) (replicate (table_length h - length (codes_there h s)) 0)
    (every_mapped P mended (λ c. f (mended c) (mended_known c)) (codes_there h s))
    (every_same P 0 (table_length h - length (codes_there h s)) (f 0 (unfold known in refl)))

known_byte : (c : ℕ) → known c ≡ true → c < 256
unfolding known
known_byte c h = omega (arith, leb-true c 4 h)

-- a packet is begun where its first byte is there, within the third count
pub begun_means : (h : Hall) (s : List ℕ) (i : ℕ) → (i < begun h s) ↔ ((i < count_there h s) × (packet_there h s i < length s))
unfolding begun
begun_means h s i = (λ a. (omega arith, omega arith), λ a. omega arith)

-- a packet that is kept is sound
kept_sound : (h : Hall) (s : List ℕ) (i : ℕ) → keeps h s i ≡ true → PacketSound (servers h) (packet_part s (packet_there h s i))
unfolding keeps packet_part
kept_sound h s i e = by (read (packet (servers h)) s (packet_there h s i)) refl e
  where
    by : (r : Field) → read (packet (servers h)) s (packet_there h s i) ≡ r → accepts r ≡ true → PacketSound (servers h) (packet_part s (packet_there h s i))
    by (Value v next) d e =
        let k = packet_read (servers h) s (packet_there h s i) v next d in
        rw (le-leb (packet_there h s i + 10) (length s) k.there) (record { source = k.source; dst = k.dst; retry = k.retry })
    by (Refused number place) d e = never {b = false} e refl

pub head_held : (s : List ℕ) (v next : ℕ) → read head_sheet s 0 ≡ Value v next → HeadHeld s
unfolding head_sheet
head_held s v next e =
    let r = hall_read (λ h. count (table_length h)) s v next e in
    let t = field_read 4 (λ x. eqb x (table_length (hall_in s))) bad_length s (count_place s) v next r.1 in
    record {
      first = r.0.first;
      hall = r.0.hall;
      second = eqb-true (code_count_of s) (table_length (hall_in s)) (sym (ap (λ (x : ℕ). eqb x (table_length (hall_in s))) t.2) ∙ t.1);
      there = omega (arith, t.0, codes_behind s);
    }

-- a refusal of the head is the reader's own
alike : (r : Field) (j k : ℕ → ℕ → Field) (number place : ℕ) → ((v next : ℕ) → j v next ≡ Refused number place → k v next ≡ Refused number place)
    → onward r j ≡ Refused number place → onward r k ≡ Refused number place
alike (Value v next) j k number place h e = h v next e
alike (Refused n p) j k number place h e = e

then_alike : (f : Format) (g i : ℕ → Format) (s : List ℕ) (at number place : ℕ)
    → ((v next : ℕ) → read (g v) s next ≡ Refused number place → read (i v) s next ≡ Refused number place)
    → read (and_then f g) s at ≡ Refused number place → read (and_then f i) s at ≡ Refused number place
then_alike f g i s at number place h e =
    read_then f i s at ∙ alike (read f s at) (λ v next. read (g v) s next) (λ v next. read (i v) s next) number place h (sym (read_then f g s at) ∙ e)

pub head_refused : (s : List ℕ) (number place : ℕ) → read head_sheet s 0 ≡ Refused number place → read night_sheet s 0 ≡ Refused number place
unfolding head_sheet night_sheet tables_of
head_refused s number place =
    then_alike first_count _ _ s 0 number place (λ first a. then_alike number_n _ _ s a number place (λ n a. then_alike (number_k n) _ _ s a number place
    (λ k a. then_alike (number_b k) _ _ s a number place (λ b a. then_alike (fitted first n k) _ _ s a number place
    (λ so-many a. then_refused (count (table_length (hall_of n k b so-many))) _ s a number place)))))

-- the rebuilt sheet is accepted, and is read to the mended codes and the kept packets
module _ (s : List ℕ) (b : Bytes s) (head : HeadHeld s) where
  pub kept_held : Held (codes_mended (hall_in s) s) (kept (hall_in s) s)
  unfolding kept
  kept_held = record {
    bytes = mended_all (λ c. c < 256) known_byte (hall_in s) s;
    fields = every_those PacketHeld (keeps (hall_in s) s) (λ i. packet_part s (packet_there (hall_in s) s i)) (λ i e. part_held s b (packet_there (hall_in s) s i)) 0 (begun (hall_in s) s);
  }

  rebuilt_sound : Sound (filled_sheet (hall_in s) (codes_mended (hall_in s) s) (kept (hall_in s) s))
  unfolding kept
  rebuilt_sound =
      sheet_sound (hall_in s) (codes_mended (hall_in s) s) (kept (hall_in s) s) head.hall (mended_long (hall_in s) s)
      (mended_all (λ c. known c ≡ true) (λ c e. e) (hall_in s) s)
      (every_those (PacketSound (servers (hall_in s))) (keeps (hall_in s) s) (λ i. packet_part s (packet_there (hall_in s) s i)) (kept_sound (hall_in s) s) 0 (begun (hall_in s) s))

  module _ (short : length (rebuilt (hall_in s) s) ≤ longest) where
    said : (writer_says (hall_in s) (codes_mended (hall_in s) s) (kept (hall_in s) s)).refusal ≡ 0
    said = ap (λ x. x.refusal) (writer_accepts (hall_in s) (codes_mended (hall_in s) s) (kept (hall_in s) s) short rebuilt_sound)

    pub rebuilt_accepted : sheet_of (rebuilt (hall_in s) s) ≡ accepted_as (hall_in s) (length (kept (hall_in s) s))
    rebuilt_accepted = reads_back (hall_in s) (codes_mended (hall_in s) s) (kept (hall_in s) s) kept_held said

    pub rebuilt_codes : codes_of (rebuilt (hall_in s) s) ≡ codes_mended (hall_in s) s
    rebuilt_codes = codes_back (hall_in s) (codes_mended (hall_in s) s) (kept (hall_in s) s) kept_held said

-- no code becomes 1 that was not
mended_one : (c : ℕ) → mended c ≡ 1 → c ≡ 1
unfolding mended
mended_one c e = cases (known c) (λ t. rw t at e) (λ t. let z : ◌≡◌ {A = ℕ} 2 1 = rw t at e in absurd (omega arith))

zeros_up : (so-many i : ℕ) → get_or (replicate {A = ℕ} so-many 0) i 0 ≡ 1 → ⊥
zeros_up zero i e = omega arith
zeros_up (suc so-many) zero e = omega arith
zeros_up (suc so-many) (suc i) e = zeros_up so-many i e

list_up : (l : List ℕ) (so-many i : ℕ) → get_or (map mended l ++ replicate so-many 0) i 0 ≡ 1 → get_or l i 0 ≡ 1
list_up [] so-many i e = absurd (zeros_up so-many i e)
list_up (c ∷ l) so-many zero e = mended_one c e
list_up (c ∷ l) so-many (suc i) e = list_up l so-many i e

-- code i as a loop meets it
pub mended_at : (h : Hall) (s : List ℕ) (i : ℕ) → i < table_length h
    → get_or (codes_mended h s) i 0 ≡ pick (ltb (codes_place s + i) (length s)) (mended (get_or s (codes_place s + i) 0)) 0
unfolding codes_mended
mended_at h s i b =
    let part = codes_there h s in
    let n : length part ≡ min (table_length h) (length s - codes_place s) = length-take (table_length h) (drop (codes_place s) s) ∙ rw (length-drop (codes_place s) s) in
    cases (ltb (codes_place s + i) (length s))
    (λ q. let l = ltb-true (codes_place s + i) (length s) q in
    rw (q, ← get_or-drop (codes_place s) s i 0, ← get_or-take (table_length h) (drop (codes_place s) s) i 0 b) (there part (table_length h - length part) i (omega arith)))
    (λ q. let l = ltb-false (codes_place s + i) (length s) q in rw q (missing part (table_length h - length part) i (omega arith)))
  where
    there : (l : List ℕ) (so-many i : ℕ) → i < length l → get_or (map mended l ++ replicate so-many 0) i 0 ≡ mended (get_or l i 0)
    there [] so-many i b = absurd (omega arith)
    there (c ∷ l) so-many zero b = refl
    there (c ∷ l) so-many (suc i) b = there l so-many i (omega arith)

    zeros : (so-many i : ℕ) → get_or (replicate {A = ℕ} so-many 0) i 0 ≡ 0
    zeros zero i = refl
    zeros (suc so-many) zero = refl
    zeros (suc so-many) (suc i) = zeros so-many i

    missing : (l : List ℕ) (so-many i : ℕ) → length l ≤ i → get_or (map mended l ++ replicate so-many 0) i 0 ≡ 0
    missing [] so-many i b = zeros so-many i
    missing (c ∷ l) so-many zero b = absurd (omega arith)
    missing (c ∷ l) so-many (suc i) b = missing l so-many i (omega arith)

-- no port becomes up that was not
pub no_new_up : (h : Hall) (s : List ℕ) (server port : ℕ) → up h (codes_mended h s) server port ≡ true → up h (codes_there h s) server port ≡ true
unfolding code_of codes_mended
no_new_up h s server port e =
    one_is_up h (codes_there h s) server port (by (leb port h.k) (up_is_one h (codes_mended h s) server port e))
  where
    by : (within : Bool) → pick within (get_or (codes_mended h s) (server * (h.k + 1) + port) 0) 0 ≡ 1
        → pick within (get_or (codes_there h s) (server * (h.k + 1) + port) 0) 0 ≡ 1
    by true q = list_up (codes_there h s) (table_length h - length (codes_there h s)) (server * (h.k + 1) + port) q
    by false q = absurd (omega arith)
