-- The writer's promises: what is written is read back to the same values, and an accepted sheet that is written again is the same bytes.
use Prim.{tt}
use mathlib.Core.Path.{◌≡◌, refl, sym, ◌∙◌, ap}
use mathlib.Core.Bool.{true, Bool}
use mathlib.Core.List.{List, [], ◌∷◌, ◌++◌, append_assoc}
use Prim.Native.Nat.{ℕ, zero, suc, ◌+◌, ◌*◌, ◌≤◌, ◌<◌}
use native.Mathlib.Omega.{arith}
use lib.Dec.{leb, ltb}
use lib.ListN.{length, take, drop, length-append, length-drop}
use lib.Seq.{drop-drop, take_at, drop-append-add}
use borrow.Author.Tests.{ltb-false, le-ltb, le-leb, eq-eqb, lt-ltb}
use Rattle.hall.specs.Refusals.{most_retry}
use Rattle.combine.proofs.Tests.{cases}
use Rattle.hall.specs.declared.Hall.{Hall}
use Rattle.hall.specs.Halls.{hall_of, valid, servers}
use Rattle.hall.proofs.Growth.{valid_known}
use Rattle.hall.proofs.Racks.{count_most, capacity_fits}
use Rattle.sheet.specs.declared.Field.{Field}
use Rattle.sheet.specs.declared.Field.TheVariants.{Value, Refused}
use Rattle.words.specs.Words.{Bytes, bytes_of}
use Rattle.words.proofs.Bytes.{bytes_long, value_laid, value_fits, drop-laid}
use Rattle.sheet.specs.Formats.{and_then, done}
use Rattle.sheet.specs.Sheets.{behind_codes, longest, packet, packets, tables_of, night_sheet}
use Rattle.sheet.specs.Answers.{codes_place, code_count_of, accepted_as, sheet_of, packet_place, hall_in}
use Rattle.sheet.proofs.Numbers.{numbers_sheet}
use Rattle.sheet.proofs.Held.{accepted_holds, long, holds_accepted}
use Rattle.sheet.proofs.Heads.{hall_fields}
use Rattle.sheet.proofs.Places.{section_sound}
use Rattle.sheetparts.specs.declared.SheetPacket.{SheetPacket}
use Rattle.sheetparts.specs.Parts.{codes_of, packet_part, packet_at, packet_refused}
use Rattle.sheetparts.specs.Encoding.{packet_bytes}
use Rattle.sheetparts.proofs.Parts.{codes_there_lem, codes_answered, packet_answered}
use Rattle.ports.specs.Codes.{known, table_length}
use Rattle.laying.proofs.Lists.{every_map, at_every}
use Rattle.laying.specs.Filled.{result, judged, All, Sound, joined, Every, ended, each}
use Rattle.writing.specs.Writing.{filled_fitted, filled_tables, filled_sheet, sheet_for, told_for, writer_says, listed, packet_from, packets_read, plain, PacketHeld, Held, HallBytes, filled_code, filled_packet, PacketSound}
use Rattle.laying.proofs.Reading.{judged_all, judged_sound, judged_numbers, result_then, all_then, then_all, all_each}
use Rattle.sheetparts.proofs.Encoding.{accepted_encoding}
use Rattle.writing.proofs.Sections.{same_hall, fitted_sound, sound_fitted}
use Rattle.writing.proofs.Relaid.{part_bytes}
use Rattle.writing.proofs.Writing.{Stands, sheet_stands, sheet_encoding, refused_as_read}

-- a sheet that the writer does not refuse is short and sound
pub writer_sound : (h : Hall) (codes : List ℕ) (list : List SheetPacket) → (writer_says h codes list).refusal ≡ 0
    → (length (sheet_for h codes list) ≤ longest) × Sound (filled_sheet h codes list)
unfolding writer_says
writer_sound h codes list e =
    cases (ltb longest (length (sheet_for h codes list)))
    (λ q. let z : ◌≡◌ {A = ℕ} 10 0 = rw q at e in absurd (omega arith))
    (λ q. (ltb-false longest (length (sheet_for h codes list)) q, by (judged (filled_sheet h codes list) 0) refl (rw q at e)))
  where
    by : (r : Field) → judged (filled_sheet h codes list) 0 ≡ r → (told_for h r).refusal ≡ 0 → Sound (filled_sheet h codes list)
    by (Refused number place) d z =
        absurd (judged_numbers (λ number. number ≡ 0 → ⊥) (filled_sheet h codes list)
        (numbers_sheet _ (λ z. omega arith) (λ z. omega arith) (λ z. omega arith) (λ z. omega arith) (λ z. omega arith)) 0 number place d z)
    by (Value v end) d z = judged_sound (filled_sheet h codes list) 0 v end d

-- and a short and sound one is answered with its values
result_tables : (h : Hall) (codes : List ℕ) (list : List SheetPacket) → result (filled_tables h codes list) ≡ length list
unfolding result filled_tables tables_of and_then
result_tables h codes list = rw (result_then, result_then)

result_sheet : (h : Hall) (codes : List ℕ) (list : List SheetPacket) → result (filled_sheet h codes list) ≡ length list
unfolding result filled_sheet night_sheet and_then
result_sheet h codes list = rw result_then (result_tables (hall_of h.n h.k h.b (result (filled_fitted h))) codes list)

pub writer_accepts : (h : Hall) (codes : List ℕ) (list : List SheetPacket) → length (sheet_for h codes list) ≤ longest → Sound (filled_sheet h codes list)
    → writer_says h codes list ≡ accepted_as h (length list)
unfolding writer_says
writer_accepts h codes list short ok =
    rw (le-ltb longest (length (sheet_for h codes list)) short, judged_all (filled_sheet h codes list) ok 0, result_sheet h codes list)

-- a sound sheet's hall is valid
pub sound_hall : (h : Hall) (codes : List ℕ) (list : List SheetPacket) → Sound (filled_sheet h codes list) → valid h ≡ true
unfolding All filled_sheet night_sheet and_then valid
sound_hall h codes list ok =
    let f = (then_all (λ width sound v. sound v ≡ true) (λ count. tables_of (hall_of h.n h.k h.b count)) (filled_fitted h)
    (filled_tables (hall_of h.n h.k h.b (result (filled_fitted h))) codes list) ok.1.1.1.1).0 in
    rw (ok.1.0, ok.1.1.0, ok.1.1.1.0) (sound_fitted h f)

-- a sheet of sound values
packet_filled : (limit : ℕ) (p : SheetPacket) → PacketSound limit p → Sound (filled_packet limit p)
unfolding All filled_packet and_then packet
packet_filled limit p h = (lt-ltb p.source limit h.source, (lt-ltb p.dst limit h.dst, (le-leb p.retry most_retry h.retry, (refl, tt))))

code_filled : (c : ℕ) → known c ≡ true → Sound (filled_code c)
unfolding All
code_filled c h = (h, tt)

tables_sound : (h : Hall) (codes : List ℕ) (list : List SheetPacket) → length codes ≡ table_length h
    → Every (λ (c : ℕ). known c ≡ true) codes → Every (PacketSound (servers h)) list → Sound (filled_tables h codes list)
unfolding All filled_tables tables_of and_then
tables_sound h codes list second known-all packets-all =
    let P : ℕ → (ℕ → Bool) → ℕ → Type 0 = λ width sound v. sound v ≡ true in (
      eq-eqb (length codes) (table_length h) second,
      all_then P (behind_codes (servers h)) (each filled_code codes) _
          (all_each P filled_code codes (every_map _ _ code_filled codes known-all)) (
            refl,
            all_then P (λ v. done (length list)) (each (filled_packet (servers h)) list) ended
                (all_each P (filled_packet (servers h)) list (every_map _ _ (packet_filled (servers h)) list packets-all)) tt,
          ),
    )

pub sheet_sound : (h : Hall) (codes : List ℕ) (list : List SheetPacket) → valid h ≡ true → length codes ≡ table_length h
    → Every (λ (c : ℕ). known c ≡ true) codes → Every (PacketSound (servers h)) list → Sound (filled_sheet h codes list)
unfolding All filled_sheet night_sheet and_then
sheet_sound h codes list v second known-all packets-all =
    let f = hall_fields h v in
    let same : Hall = hall_of h.n h.k h.b (result (filled_fitted h)) in
    let tables : Sound (filled_tables same codes list) = rw (same_hall h) (tables_sound h codes list second known-all packets-all) in (
      section_sound h,
      (
        f.0,
        (
          f.1,
          (
            f.2,
            all_then (λ width sound v. sound v ≡ true) (λ count. tables_of (hall_of h.n h.k h.b count)) (filled_fitted h)
                (filled_tables same codes list) (fitted_sound h f.3) tables,
          ),
        ),
      ),
    )

pub hall_bytes : (h : Hall) → valid h ≡ true → HallBytes h
hall_bytes h e =
    let v = valid_known h e in
    let m = count_most h.n h.k h.count v.count_fits in
    let l = capacity_fits h.n h.k (omega arith) v.sized in
    record { n = omega arith; k = omega arith; b = omega arith; count = omega arith }

-- packet i by its bytes
packet_stands : (list : List SheetPacket) (i : ℕ) → i < length list
    → (post : List ℕ) × (drop (10 * i) (joined packet_bytes list) ≡ packet_bytes (packet_from list i) ++ post)
unfolding joined
packet_stands [] i b = absurd (omega arith)
packet_stands (p ∷ list) zero b = (joined packet_bytes list, refl)
packet_stands (p ∷ list) (suc i) b =
    let r = packet_stands list i (omega arith) in
    let n : length (packet_bytes p) ≡ 10 = simp (length-append, bytes_long) in
    let z : 10 * suc i ≡ length (packet_bytes p) + 10 * i = omega arith in
    (r.0, rw z (drop-append-add (packet_bytes p) (joined packet_bytes list) (10 * i) ∙ r.1))

packet_back : (s : List ℕ) (at : ℕ) (p : SheetPacket) (post : List ℕ) → PacketHeld p → drop at s ≡ packet_bytes p ++ post → packet_part s at ≡ plain p
unfolding packet_part
packet_back s at p post held e =
    let n : length (packet_bytes p) ≡ 10 = simp (length-append, bytes_long) in
    let l : at + 10 ≤ length s = omega (arith, length-drop at s, ap length e, length-append (packet_bytes p) post) in
    let d0 : drop at s ≡ bytes_of 4 p.source ++ (bytes_of 4 p.dst ++ (bytes_of 1 p.retry ++ (bytes_of 1 p.ttl ++ post))) = e ∙ simp append_assoc in
    let d4 = drop-laid s at 4 p.source _ d0 in
    let d8 = drop-laid s (at + 4) 4 p.dst _ d4 in
    let d9 = drop-laid s (at + 4 + 4) 1 p.retry _ d8 in
    let a : at + 8 ≡ at + 4 + 4 = omega arith in
    let c : at + 9 ≡ at + 4 + 4 + 1 = omega arith in
    rw (
      le-leb (at + 10) (length s) l,
      a,
      c,
      value_laid s at 4 p.source _ held.source d0,
      value_laid s (at + 4) 4 p.dst _ held.dst d4,
      value_laid s (at + 4 + 4) 1 p.retry _ held.retry d8,
      value_laid s (at + 4 + 4 + 1) 1 p.ttl _ held.ttl d9,
    )

-- what is not refused is read back to the same values
module _ (h : Hall) (codes : List ℕ) (list : List SheetPacket) (held : Held codes list) (ok : (writer_says h codes list).refusal ≡ 0) where
  pub reads_back : sheet_of (sheet_for h codes list) ≡ accepted_as h (length list)
  reads_back =
      let a = writer_sound h codes list ok in
      refused_as_read h codes list (hall_bytes h (sound_hall h codes list a.1)) held ∙ writer_accepts h codes list a.0 a.1

  stands : Stands h codes list (sheet_for h codes list)
  stands =
      let a = writer_sound h codes list ok in
      sheet_stands h codes list (hall_bytes h (sound_hall h codes list a.1)) held a.0

  pub codes_back : codes_of (sheet_for h codes list) ≡ codes
  codes_back =
      let s = sheet_for h codes list in
      let w = stands in
      let a = accepted_holds s (ap (λ x. x.refusal) reads_back) in
      sym (codes_there_lem s (omega (arith, long s a)) ∙ codes_answered s (sheet_of s) refl (ap (λ x. x.refusal) reads_back))
      ∙ rw (w.second, w.codes_part_lem) (take_at codes _ (length codes) refl)

  pub packet_back_at : (i : ℕ) → i < length list → packet_at (sheet_for h codes list) i ≡ plain (packet_from list i)
  unfolding packet_place
  packet_back_at i b =
      let s = sheet_for h codes list in
      let w = stands in
      let r = packet_stands list i b in
      let at = codes_place s + length codes + 4 in
      let d : drop (at + 10 * i) s ≡ packet_bytes (packet_from list i) ++ r.0 = sym (drop-drop (10 * i) at s) ∙ rw w.packets_part r.1 in
      sym (packet_answered s (sheet_of s) refl i (ap (λ x. x.refusal) reads_back) (omega (arith, ap (λ x. x.packets) reads_back)))
      ∙ rw w.second (packet_back s (at + 10 * i) (packet_from list i) r.0 (at_every PacketHeld (packet_refused 0 0) list held.fields i b) d)

every_listed : (P : SheetPacket → Type 0) (packet : ℕ → SheetPacket) (i so-many : ℕ) → ((j : ℕ) → j < i + so-many → P (packet j)) → Every P (listed packet i so-many)
unfolding Every listed
every_listed P packet i zero h = tt
every_listed P packet i (suc so-many) h = (h i (omega arith), every_listed P packet (suc i) so-many (λ j b. h j (omega arith)))

-- what is read of bytes fits
module _ (s : List ℕ) (b : Bytes s) where
  pub part_held : (at : ℕ) → PacketHeld (packet_part s at)
  unfolding packet_part
  part_held at =
      cases (leb (at + 10) (length s))
      (λ q. rw q (record {
        source = value_fits s b at 4;
        dst = value_fits s b (at + 4) 4;
        retry = value_fits s b (at + 8) 1;
        ttl = value_fits s b (at + 9) 1;
      }))
      (λ q. rw q (record { source = omega arith; dst = omega arith; retry = omega arith; ttl = omega arith }))

  -- an accepted sheet that is written again is the same bytes
  module _ (ok : (sheet_of s).refusal ≡ 0) where
    read_hall : (sheet_of s).hall ≡ hall_in s
    read_hall = ap (λ x. x.hall) (holds_accepted s (accepted_holds s ok))

    same_codes : codes_of s ≡ take (code_count_of s) (drop (codes_place s) s)
    same_codes = let a = accepted_holds s ok in sym (codes_there_lem s (omega (arith, long s a)) ∙ codes_answered s (sheet_of s) refl ok)

    codes_bytes : Every (λ (c : ℕ). c < 256) (codes_of s)
    codes_bytes = rw same_codes (part_bytes s b (codes_place s) (code_count_of s))

    pub rewritten : sheet_for (sheet_of s).hall (codes_of s) (packets_read s) ≡ s
    rewritten = sheet_encoding (sheet_of s) (codes_of s) (packet_at s) codes_bytes ∙ sym (accepted_encoding s b ok)

    -- and the writer answers what the reader does
    pub rewritten_said : writer_says (sheet_of s).hall (codes_of s) (packets_read s) ≡ sheet_of s
    rewritten_said =
        sym (refused_as_read (sheet_of s).hall (codes_of s) (packets_read s)
        (rw read_hall (hall_bytes (hall_in s) (accepted_holds s ok).hall))
        (record {
          bytes = codes_bytes;
          fields = every_listed PacketHeld (packet_at s) 0 (sheet_of s).packets (λ i h.
              rw (← packet_answered s (sheet_of s) refl i ok (omega arith)) (part_held (packet_place s i)));
        }))
        ∙ ap sheet_of rewritten
