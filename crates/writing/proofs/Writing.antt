-- What is written is read as the writer says.
use Prim.{tt}
use mathlib.Core.Path.{◌≡◌, refl, sym, ◌∙◌, ap}
use mathlib.Core.Bool.{Bool, true, false}
use mathlib.Core.List.{List, [], ◌∷◌, ◌++◌, append_assoc, append-nil}
use Prim.Native.Nat.{ℕ, zero, suc, ◌+◌, ◌-◌, ◌*◌, ◌^◌, ◌%◌, ◌≤◌, ◌<◌}
use native.Mathlib.Omega.{arith}
use lib.Dec.{eqb, leb, ltb}
use lib.ListN.{length, drop, length-append}
use lib.Seq.{drop_at, drop-drop}
use borrow.Author.Tests.{ltb-true, ltb-false, lt-ltb, le-ltb, le-leb, lt-leb}
use Rattle.combine.specs.Tests.{pick}
use Rattle.combine.proofs.Tests.{cases}
use Rattle.hall.specs.declared.Hall.{Hall}
use Rattle.hall.specs.Halls.{hall_of, n_fits, k_fits, b_fits, count_fits, servers}
use Rattle.hall.specs.Refusals.{bad_hall, bad_uid, bad_length, bad_code, bad_retry, most_retry}
use Rattle.ports.specs.Codes.{known, first_unknown, table_length}
use Rattle.sheet.specs.declared.Field.{Field}
use Rattle.sheet.specs.declared.Field.TheVariants.{Value, Refused}
use Rattle.sheet.specs.declared.Sheet.{Sheet}
use Rattle.words.specs.Words.{value, bytes_of}
use Rattle.words.proofs.Bytes.{bytes_long, value_laid, drop-laid}
use Rattle.sheet.specs.Formats.{done, and_then}
use Rattle.sheet.specs.Sheets.{behind_codes, longest, section_of, packet, packets, times, tables_of, night_sheet}
use Rattle.sheet.specs.Answers.{count_place, codes_place, code_count_of, hall_in, told, sheet_of}
use Rattle.sheet.proofs.Places.{codes_behind, section_sound, count_place_lem}
use Rattle.sheet.proofs.Reading.{onward}
use Rattle.sheet.proofs.Sheets.{sheet_long, sheet_read}
use Rattle.sheetparts.specs.declared.SheetPacket.{SheetPacket}
use Rattle.sheetparts.specs.Encoding.{packet_bytes, packets_bytes, fitted_bytes, encoding_of}
use Rattle.laying.proofs.Lists.{every_map}
use Rattle.laying.specs.Filled.{ended, result, laid, judged, All, Fits, fill_then, each, joined, Every}
use Rattle.writing.specs.Writing.{filled_code, filled_packet, filled_fitted, filled_tables, filled_sheet, sheet_for, told_for, writer_says, listed, PacketHeld, Held, HallBytes, fields_of}
use Rattle.writing.proofs.Sections.{fitted_laid, fitted_long, same_hall, fitted_judged, fitted_fits, fitted_stands}
use Rattle.laying.proofs.Reading.{read_laid, judged_all, judged_sound, laid_then, judged_then, each_next, all_then, laid_each, all_each}

-- a code is its byte, and a packet its ten
byte_laid : (c : ℕ) → c < 256 → laid (filled_code c) ≡ c ∷ []
unfolding laid bytes_of
byte_laid c h = let q : c % 256 ≡ c = omega arith in rw q

pub codes_laid : (codes : List ℕ) → Every (λ (c : ℕ). c < 256) codes → laid (each filled_code codes) ≡ codes
unfolding joined Every
codes_laid codes h = laid_each filled_code codes ∙ go codes h
  where
    go : (l : List ℕ) → Every (λ (c : ℕ). c < 256) l → joined (λ c. laid (filled_code c)) l ≡ l
    go [] e = refl
    go (c ∷ l) e = rw (byte_laid c e.0, go l e.1)

packet_laid : (limit : ℕ) (p : SheetPacket) → laid (filled_packet limit p) ≡ packet_bytes p
unfolding laid filled_packet and_then packet
packet_laid limit p = simp (append-nil, append_assoc)

pub packets_laid : (limit : ℕ) (list : List SheetPacket) → laid (each (filled_packet limit) list) ≡ joined packet_bytes list
unfolding joined
packets_laid limit list = laid_each (filled_packet limit) list ∙ go list
  where
    go : (l : List SheetPacket) → joined (λ p. laid (filled_packet limit p)) l ≡ joined packet_bytes l
    go [] = refl
    go (p ∷ l) = rw (packet_laid limit p, go l)

-- the sections
tables_laid : (h : Hall) (codes : List ℕ) (list : List SheetPacket) → Every (λ (c : ℕ). c < 256) codes
    → laid (filled_tables h codes list) ≡ bytes_of 4 (length codes) ++ (codes ++ (bytes_of 4 (length list) ++ joined packet_bytes list))
unfolding laid filled_tables tables_of and_then
tables_laid h codes list e = rw (laid_then, codes_laid codes e, laid_then, packets_laid (servers h) list, append-nil)

pub sheet_laid : (h : Hall) (codes : List ℕ) (list : List SheetPacket) → Every (λ (c : ℕ). c < 256) codes
    → sheet_for h codes list
    ≡ bytes_of 4 (section_of h) ++ (bytes_of 1 h.n ++ (bytes_of 1 h.k ++ (bytes_of 1 h.b ++ (fitted_bytes h
    ++ (bytes_of 4 (length codes) ++ (codes ++ (bytes_of 4 (length list) ++ joined packet_bytes list)))))))
unfolding laid filled_sheet night_sheet and_then
sheet_laid h codes list e =
    rw (laid_then, fitted_laid h, tables_laid (hall_of h.n h.k h.b (result (filled_fitted h))) codes list e)

-- packets by their places
pub packets_listed : (packet : ℕ → SheetPacket) (i so-many : ℕ) → joined packet_bytes (listed packet i so-many) ≡ packets_bytes packet i so-many
unfolding listed joined packets_bytes
packets_listed packet i zero = refl
packets_listed packet i (suc so-many) = rw (packets_listed packet (suc i) so-many)

pub listed_long : (packet : ℕ → SheetPacket) (i so-many : ℕ) → length (listed packet i so-many) ≡ so-many
unfolding listed
listed_long packet i zero = refl
listed_long packet i (suc so-many) = ap suc (listed_long packet (suc i) so-many)

-- the packets i, .., n - 1 as a loop meets them: at the start, behind a sound packet, at a refused one, and at the end
module _ (limit : ℕ) (packet : ℕ → SheetPacket) (n : ℕ) where
  pub packets_start : (at : ℕ) → judged (each (filled_packet limit) (listed packet 0 (n - 0))) at ≡ judged (each (filled_packet limit) (listed packet 0 n)) at
  packets_start at = let z : n - 0 ≡ n = omega arith in rw z

  listed_next : (i : ℕ) → i < n → listed packet i (n - i) ≡ packet i ∷ listed packet (i + 1) (n - (i + 1))
  unfolding listed
  listed_next i h =
      let e : n - i ≡ suc (n - (i + 1)) = omega arith in
      let z : suc i ≡ i + 1 = omega arith in
      rw (e, z)

  pub packets_pass : (i at v next : ℕ) → i < n → judged (filled_packet limit (packet i)) at ≡ Value v next
      → judged (each (filled_packet limit) (listed packet (i + 1) (n - (i + 1)))) next ≡ judged (each (filled_packet limit) (listed packet i (n - i))) at
  packets_pass i at v next h e =
      rw (listed_next i h) (sym (each_next (filled_packet limit) (packet i) (listed packet (i + 1) (n - (i + 1))) at ∙ rw e))

  pub packets_fail : (i at number place : ℕ) → i < n → judged (filled_packet limit (packet i)) at ≡ Refused number place
      → Refused number place ≡ judged (each (filled_packet limit) (listed packet i (n - i))) at
  packets_fail i at number place h e =
      rw (listed_next i h) (sym (each_next (filled_packet limit) (packet i) (listed packet (i + 1) (n - (i + 1))) at ∙ rw e))

  pub packets_end : (i at : ℕ) → n ≤ i → Value 0 at ≡ judged (each (filled_packet limit) (listed packet i (n - i))) at
  unfolding listed each judged times
  packets_end i at h = let z : n - i ≡ 0 = omega arith in rw z

-- what is laid is the one encoding
pub sheet_encoding : (sheet : Sheet) (codes : List ℕ) (packet : ℕ → SheetPacket) → Every (λ (c : ℕ). c < 256) codes
    → sheet_for sheet.hall codes (listed packet 0 sheet.packets) ≡ encoding_of sheet codes packet
unfolding encoding_of
sheet_encoding sheet codes packet e =
    sheet_laid sheet.hall codes (listed packet 0 sheet.packets) e
    ∙ rw (listed_long packet 0 sheet.packets, packets_listed packet 0 sheet.packets) (simp append_assoc)

-- three counts, the first section, a code a byte, and 10 bytes a packet
packets_long : (list : List SheetPacket) → length (joined packet_bytes list) ≡ 10 * length list
unfolding joined
packets_long [] = refl
packets_long (p ∷ list) = simp (length-append, bytes_long) (omega (arith, packets_long list))

pub sheet_length : (h : Hall) (codes : List ℕ) (list : List SheetPacket) → Every (λ (c : ℕ). c < 256) codes
    → length (sheet_for h codes list) ≡ 12 + section_of h + length codes + 10 * length list
sheet_length h codes list e = rw (sheet_laid h codes list e) (simp (length-append, bytes_long) (omega (arith, packets_long list, fitted_long h)))

-- where the sheet is not too long, its values fit their fields
packet_fits : (limit : ℕ) (p : SheetPacket) → PacketHeld p → Fits (filled_packet limit p)
unfolding All filled_packet and_then packet
packet_fits limit p h = (h.source, (h.dst, (h.retry, (h.ttl, tt))))

code_fits : (c : ℕ) → c < 256 → Fits (filled_code c)
unfolding All
code_fits c h = (h, tt)

tables_fits : (h : Hall) (codes : List ℕ) (list : List SheetPacket) → Held codes list → length codes < 256 ^ 4 → length list < 256 ^ 4
    → Fits (filled_tables h codes list)
unfolding All filled_tables tables_of and_then
tables_fits h codes list held c l =
    let P : ℕ → (ℕ → Bool) → ℕ → Type 0 = λ width sound v. v < 256 ^ width in (
      c,
      all_then P (behind_codes (servers h)) (each filled_code codes) _
          (all_each P filled_code codes (every_map _ _ code_fits codes held.bytes)) (
            l,
            all_then P (λ v. done (length list)) (each (filled_packet (servers h)) list) ended
                (all_each P (filled_packet (servers h)) list (every_map _ _ (packet_fits (servers h)) list held.fields)) tt,
          ),
    )

module _ (h : Hall) (codes : List ℕ) (list : List SheetPacket) (held : Held codes list) (short : length (sheet_for h codes list) ≤ longest) where
  pub sheet_fits : HallBytes h → Fits (filled_sheet h codes list)
  unfolding All filled_sheet night_sheet and_then
  sheet_fits bytes =
      let l = sheet_length h codes list held.bytes in
      let P : ℕ → (ℕ → Bool) → ℕ → Type 0 = λ width sound v. v < 256 ^ width in
      let same : Hall = hall_of h.n h.k h.b (result (filled_fitted h)) in (
        omega arith,
        (
          omega arith,
          (
            omega arith,
            (
              omega arith,
              all_then P (λ count. tables_of (hall_of h.n h.k h.b count)) (filled_fitted h) (filled_tables same codes list)
                  (fitted_fits h bytes.count) (tables_fits same codes list held (omega arith) (omega arith)),
            ),
          ),
        ),
      )

-- what stands where in the sheet that is written
pub record Stands (h : Hall) (codes : List ℕ) (list : List SheetPacket) (s : List ℕ) : Type 0 where
  pub hall : hall_in s ≡ h
  pub second : code_count_of s ≡ length codes
  pub codes_part_lem : drop (codes_place s) s ≡ codes ++ (bytes_of 4 (length list) ++ joined packet_bytes list)
  pub packets_part : drop (codes_place s + length codes + 4) s ≡ joined packet_bytes list

pub sheet_stands : (h : Hall) (codes : List ℕ) (list : List SheetPacket) → HallBytes h → Held codes list → length (sheet_for h codes list) ≤ longest
    → Stands h codes list (sheet_for h codes list)
sheet_stands h codes list bytes held short =
    let s = sheet_for h codes list in
    let l = sheet_length h codes list held.bytes in
    let r6 : List ℕ = bytes_of 4 (length list) ++ joined packet_bytes list in
    let r7 : List ℕ = bytes_of 4 (length codes) ++ (codes ++ r6) in
    let d0 : drop 0 s ≡ bytes_of 4 (section_of h) ++ (bytes_of 1 h.n ++ (bytes_of 1 h.k ++ (bytes_of 1 h.b ++ (fitted_bytes h ++ r7)))) =
    sheet_laid h codes list held.bytes in
    let first : value s 0 4 ≡ section_of h = value_laid s 0 4 (section_of h) _ (omega arith) d0 in
    let d4 : drop 4 s ≡ bytes_of 1 h.n ++ (bytes_of 1 h.k ++ (bytes_of 1 h.b ++ (fitted_bytes h ++ r7))) = drop-laid s 0 4 (section_of h) _ d0 in
    let d5 : drop 5 s ≡ bytes_of 1 h.k ++ (bytes_of 1 h.b ++ (fitted_bytes h ++ r7)) = drop-laid s 4 1 h.n _ d4 in
    let d6 : drop 6 s ≡ bytes_of 1 h.b ++ (fitted_bytes h ++ r7) = drop-laid s 5 1 h.k _ d5 in
    let d7 : drop 7 s ≡ fitted_bytes h ++ r7 = drop-laid s 6 1 h.b _ d6 in
    let n = value_laid s 4 1 h.n _ (omega arith) d4 in
    let k = value_laid s 5 1 h.k _ (omega arith) d5 in
    let b = value_laid s 6 1 h.b _ (omega arith) d6 in
    let place : count_place s ≡ 7 + length (fitted_bytes h) = omega (arith, count_place_lem s h first, fitted_long h) in
    let d8 : drop (count_place s) s ≡ r7 =
    rw place (sym (drop-drop (length (fitted_bytes h)) 7 s) ∙ ap (drop (length (fitted_bytes h))) d7 ∙ drop_at (fitted_bytes h) r7 (length (fitted_bytes h)) refl) in
    let d11 : drop (codes_place s) s ≡ codes ++ r6 = rw (codes_behind s) (drop-laid s (count_place s) 4 (length codes) _ d8) in
    let d12 : drop (codes_place s + length codes) s ≡ r6 =
    sym (drop-drop (length codes) (codes_place s) s) ∙ ap (drop (length codes)) d11 ∙ drop_at codes r6 (length codes) refl in
    record {
      hall = rw (n, k, b, fitted_stands h s r7 first n k bytes.count d7);
      second = value_laid s (count_place s) 4 (length codes) _ (omega arith) d8;
      codes_part_lem = d11;
      packets_part = drop-laid s (codes_place s + length codes) 4 (length list) (joined packet_bytes list) d12;
    }

-- what the writer's checks are, one by one, in the fields' order
pub judged_packet : (limit : ℕ) (p : SheetPacket) (at : ℕ) → judged (filled_packet limit p) at
    ≡ pick (ltb p.source limit) (pick (ltb p.dst limit) (pick (leb p.retry most_retry) (Value p.ttl (at + 4 + 4 + 1 + 1))
    (Refused bad_retry (at + 4 + 4))) (Refused bad_uid (at + 4))) (Refused bad_uid at)
unfolding judged filled_packet packet and_then
judged_packet limit p at = refl

-- a packet's checks as code meets them
module _ (limit source dst retry ttl at : ℕ) where
  pub source_wrong : limit ≤ source → Refused bad_uid at ≡ judged (filled_packet limit (fields_of source dst retry ttl)) at
  source_wrong a = rw (judged_packet limit (fields_of source dst retry ttl) at, le-ltb source limit a)

  pub dst_wrong : source < limit → limit ≤ dst → Refused bad_uid (at + 4) ≡ judged (filled_packet limit (fields_of source dst retry ttl)) at
  dst_wrong a b = rw (judged_packet limit (fields_of source dst retry ttl) at, lt-ltb source limit a, le-ltb dst limit b)

  pub retry_wrong : source < limit → dst < limit → most_retry < retry → Refused bad_retry (at + 8) ≡ judged (filled_packet limit (fields_of source dst retry ttl)) at
  retry_wrong a b d =
      let e : at + 8 ≡ at + 4 + 4 = omega arith in
      rw (judged_packet limit (fields_of source dst retry ttl) at, lt-ltb source limit a, lt-ltb dst limit b, lt-leb retry most_retry d) (ap (λ (n : ℕ). Refused bad_retry n) e)

  pub all_right : source < limit → dst < limit → retry ≤ most_retry → Value ttl (at + 10) ≡ judged (filled_packet limit (fields_of source dst retry ttl)) at
  all_right a b d =
      let e : at + 10 ≡ at + 4 + 4 + 1 + 1 = omega arith in
      rw (judged_packet limit (fields_of source dst retry ttl) at, lt-ltb source limit a, lt-ltb dst limit b, le-leb retry most_retry d) (ap (λ (n : ℕ). Value ttl n) e)

-- a packet takes ten bytes
pub packet_next : (limit : ℕ) (p : SheetPacket) (at v next : ℕ) → judged (filled_packet limit p) at ≡ Value v next → next ≡ at + 10
packet_next limit p at v next e =
    let q : Value v next ≡ Value (result (filled_packet limit p)) (at + length (laid (filled_packet limit p))) =
    sym e ∙ judged_all (filled_packet limit p) (judged_sound (filled_packet limit p) at v next e) at in
    let z : next ≡ at + length (laid (filled_packet limit p)) = cc q in
    let l : length (laid (filled_packet limit p)) ≡ 10 = rw (packet_laid limit p) (simp (length-append, bytes_long)) in
    omega arith

pub judged_codes : (codes : List ℕ) (at : ℕ) → judged (each filled_code codes) at
    ≡ pick (ltb (first_unknown codes) (length codes)) (Refused bad_code (at + first_unknown codes)) (Value 0 (at + length codes))
unfolding each judged times first_unknown fill_then and_then result
judged_codes [] at = let z : at ≡ at + 0 = omega arith in ap (λ (n : ℕ). Value 0 n) z
judged_codes (c ∷ codes) at =
    let first = first_unknown codes in
    let z : at + 1 + first ≡ at + suc first = omega arith in
    let e : at + 1 + length codes ≡ at + suc (length codes) = omega arith in
    let z0 : at ≡ at + 0 = omega arith in
    cases (known c)
    (λ t. rw t (judged_codes codes (at + 1) ∙ cases (ltb first (length codes))
    (λ q. let l = ltb-true first (length codes) q in
    rw (q, lt-ltb (suc first) (suc (length codes)) (omega arith)) (ap (λ (n : ℕ). Refused 5 n) z))
    (λ q. let l = ltb-false first (length codes) q in
    rw (q, le-ltb (suc first) (suc (length codes)) (omega arith)) (ap (λ (n : ℕ). Value 0 n) e))))
    (λ t. rw (t, lt-ltb 0 (suc (length codes)) (omega arith)) (ap (λ (n : ℕ). Refused 5 n) z0))

pub judged_tables : (h : Hall) (codes : List ℕ) (list : List SheetPacket) (at : ℕ) → judged (filled_tables h codes list) at
    ≡ pick (eqb (length codes) (table_length h))
    (onward (judged (each filled_code codes) (at + 4)) (λ v next.
    onward (judged (each (filled_packet (servers h)) list) (next + 4)) (λ v end. Value (length list) end)))
    (Refused bad_length at)
unfolding judged filled_tables tables_of and_then
judged_tables h codes list at = simp judged_then

-- what is behind a field that is refused or passed
passed_on : (sound : Bool) (v next number place : ℕ) (g : ℕ → ℕ → Field)
    → onward (pick sound (Value v next) (Refused number place)) g ≡ pick sound (g v next) (Refused number place)
passed_on true v next number place g = refl
passed_on false v next number place g = refl

pub judged_sheet : (h : Hall) (codes : List ℕ) (list : List SheetPacket) → judged (filled_sheet h codes list) 0
    ≡ pick (n_fits h.n) (pick (k_fits h.n h.k) (pick (b_fits h.k h.b) (pick (count_fits h.n h.k h.count)
    (judged (filled_tables h codes list) (4 + section_of h))
    (Refused bad_hall 7)) (Refused bad_hall 6)) (Refused bad_hall 5)) (Refused bad_hall 4)
unfolding judged filled_sheet night_sheet and_then
judged_sheet h codes list = rw (section_sound h, judged_then, fitted_judged h, passed_on, same_hall h)

-- a read of the written bytes answers what the writer says: a refusal's number and place are the reader's for the bytes that would be written
pub refused_as_read : (h : Hall) (codes : List ℕ) (list : List SheetPacket) → HallBytes h → Held codes list
    → sheet_of (sheet_for h codes list) ≡ writer_says h codes list
unfolding writer_says
refused_as_read h codes list bytes held =
    let s = sheet_for h codes list in
    let x = filled_sheet h codes list in
    cases (ltb longest (length s))
    (λ q. sheet_long s (ltb-true longest (length s) q) ∙ rw q)
    (λ q. let short = ltb-false longest (length s) q in
    sheet_read s short
    ∙ ap (told s) (read_laid x (sheet_fits h codes list held short bytes) s 0 [] (omega arith) (sym (append-nil (laid x))))
    ∙ rw q (by (judged x 0) refl (sheet_stands h codes list bytes held short)))
  where
    by : (r : Field) → judged (filled_sheet h codes list) 0 ≡ r → Stands h codes list (sheet_for h codes list) → told (sheet_for h codes list) r ≡ told_for h r
    by (Refused number place) e w = refl
    by (Value v end) e w =
        let x = filled_sheet h codes list in
        let a : Value (result x) (0 + length (laid x)) ≡ Value v end = sym (judged_all x (judged_sound x 0 v end e) 0) ∙ e in
        let z : 0 + length (laid x) ≡ end = cc a in
        rw (le-ltb end (length (laid x)) (omega arith), w.hall)
