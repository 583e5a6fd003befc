-- A sheet is accepted exactly where it holds what `Accepted` says: each field was read whole and sound, and nothing is left over.
use mathlib.Core.Path.{◌≡◌, refl, sym, ◌∙◌, ap}
use mathlib.Core.Bool.{true}
use mathlib.Core.List.{List}
use Prim.Native.Nat.{ℕ, ◌+◌, ◌*◌, ◌≤◌, ◌<◌}
use native.Mathlib.Omega.{arith}
use lib.Dec.{eqb, ltb}
use lib.ListN.{length}
use borrow.Author.Tests.{eqb-true, eq-eqb, ltb-true, ltb-false, le-ltb}
use Rattle.combine.proofs.Tests.{cases}
use Rattle.hall.specs.declared.Hall.{Hall}
use Rattle.hall.specs.Halls.{servers}
use Rattle.hall.specs.Refusals.{bad_length, bad_code}
use Rattle.ports.specs.Codes.{known, table_length}
use Rattle.sheet.specs.declared.Field.{Field}
use Rattle.sheet.specs.declared.Field.TheVariants.{Value, Refused}
use Rattle.words.specs.Words.{value}
use Rattle.sheet.specs.Formats.{read}
use Rattle.sheet.specs.Sheets.{longest, code, codes, packet, packets, tables_of, night_sheet}
use Rattle.sheet.specs.Answers.{count_place, codes_place, code_count_of, hall_in, accepted_as, sheet_of, packet_place}
use Rattle.sheet.specs.Accepted.{packet_count_of, PacketFits, Head, Accepted}
use Rattle.sheet.proofs.Reading.{place_of, read_done, field_read, field_sound, then_value, within}
use Rattle.sheet.proofs.Sheets.{sheet_long, sheet_refused, sheet_surplus, sheet_read}
use Rattle.sheet.proofs.Accepted.{then_read, field_then, then_sound, packet_read, packet_sound, times_width, times_each, times_all}
use Rattle.sheet.proofs.Codes.{code_width}
use Rattle.sheet.proofs.Numbers.{refused_by_some}
use Rattle.sheet.proofs.Places.{codes_behind}
use Rattle.sheet.proofs.Heads.{hall_read, hall_sound}

-- an accepted sheet was read to its end
pub accepted_read : (s : List ℕ) → (sheet_of s).refusal ≡ 0 → (length s ≤ longest) × ((v : ℕ) × (read night_sheet s 0 ≡ Value v (length s)))
accepted_read s ok =
    cases (ltb longest (length s))
    (λ q. let h = ltb-true longest (length s) q in absurd (omega (arith, ok, ap (λ x. x.refusal) (sheet_long s h))))
    (λ q. let h = ltb-false longest (length s) q in (h, by h (read night_sheet s 0) refl))
  where
    by : length s ≤ longest → (r : Field) → read night_sheet s 0 ≡ r → (v : ℕ) × (read night_sheet s 0 ≡ Value v (length s))
    by h (Refused number place) e =
        absurd (refused_by_some s number place e (sym (ap (λ x. x.refusal) (sheet_refused s h number place e)) ∙ ok))
    by h (Value v end) e =
        cases (ltb end (length s))
        (λ q. absurd (omega (arith, ok, ap (λ x. x.refusal) (sheet_surplus s h v end e (ltb-true end (length s) q)))))
        (λ q. let w = (within night_sheet s 0 (omega arith)).1 in
        let z : end ≡ length s = omega (arith, ltb-false end (length s) q, ap place_of e) in
        (v, e ∙ ap (λ (m : ℕ). Value v m) z))

-- a packet takes ten bytes
packet_width : (limit : ℕ) (s : List ℕ) (at v next : ℕ) → read (packet limit) s at ≡ Value v next → next ≡ at + 10
packet_width limit s at v next e = (packet_read limit s at v next e).next_place

-- what was read of the sections behind the hall's, wherever they stand
pub record Tables (h : Hall) (s : List ℕ) (at end : ℕ) : Type 0 where
  pub second : value s at 4 ≡ table_length h
  pub codes : (i : ℕ) → i < value s at 4 → known (value s (at + 4 + i) 1) ≡ true
  pub packets : (i : ℕ) → i < value s (at + 4 + value s at 4) 4 → PacketFits h s (at + 4 + value s at 4 + 4 + 10 * i)
  pub ends : end ≡ at + 4 + value s at 4 + 4 + 10 * value s (at + 4 + value s at 4) 4

module _ (h : Hall) (s : List ℕ) (at v end : ℕ) (e : read (tables_of h) s at ≡ Value v end) where
  pub tables_held : Tables h s at end
  unfolding tables_of
  tables_held =
      let t = field_then 4 (λ x. eqb x (table_length h)) bad_length _ s at v end e in
      let bytes = value s at 4 in
      let c = then_read (codes (value s at 4)) _ s (at + 4) v end t.2 in
      let cw : c.1 ≡ at + 4 + value s at 4 = omega (arith, times_width code 1 s (code_width s) (value s at 4) (at + 4) c.0 c.1 c.2) in
      let p = field_then 4 (λ x. true) 0 _ s (at + 4 + value s at 4) v end (rw cw at c.3) in
      let q = then_read (packets (servers h) (value s (at + 4 + value s at 4) 4)) _ s (at + 4 + value s at 4 + 4) v end p.2 in
      let qw = times_width (packet (servers h)) 10 s (packet_width (servers h) s) (value s (at + 4 + value s at 4) 4) (at + 4 + value s at 4 + 4) q.0 q.1 q.2 in
      let d : Value (value s (at + 4 + value s at 4) 4) q.1 ≡ Value v end = sym (read_done _ s q.1) ∙ q.3 in
      let de : q.1 ≡ end = cc d in
      record {
        second = eqb-true (value s at 4) (table_length h) t.1;
        codes = λ i l.
            let r = times_each code 1 s (code_width s) (value s at 4) (at + 4) c.0 c.1 c.2 i l in
            let f = field_read 1 known bad_code s (at + 4 + 1 * i) r.0 r.1 r.2 in
            let z : at + 4 + 1 * i ≡ at + 4 + i = omega arith in
            sym (ap known (f.2 ∙ ap (λ (m : ℕ). value s m 1) z)) ∙ f.1;
        packets = λ i l.
            let r = times_each (packet (servers h)) 10 s (packet_width (servers h) s) (value s (at + 4 + value s at 4) 4) (at + 4 + value s at 4 + 4) q.0 q.1 q.2 i l in
            let f = packet_read (servers h) s (at + 4 + value s at 4 + 4 + 10 * i) r.0 r.1 r.2 in
            record { source = f.source; dst = f.dst; retry = f.retry };
        ends = omega (arith, qw);
      }

-- an accepted sheet holds what it should
pub accepted_holds : (s : List ℕ) → (sheet_of s).refusal ≡ 0 → Accepted s
unfolding night_sheet codes_place packet_place packet_count_of
accepted_holds s ok =
    let r = accepted_read s ok in
    let w = hall_read tables_of s r.1.0 (length s) r.1.1 in
    let t = tables_held (hall_in s) s (count_place s) r.1.0 (length s) w.1 in
    record { short = r.0; first = w.0.first; hall = w.0.hall; second = t.second; codes = t.codes; packets = t.packets; whole = t.ends }

-- a sheet that holds what it should is read to its end
module _ (s : List ℕ) (a : Accepted s) where
  pub long : length s ≡ codes_place s + code_count_of s + 4 + 10 * packet_count_of s
  unfolding packet_place
  long = a.whole

  codes_read : read (codes (code_count_of s)) s (codes_place s) ≡ Value 0 (codes_place s + code_count_of s)
  codes_read =
      let l = long in
      let w : codes_place s + 1 * code_count_of s ≡ codes_place s + code_count_of s = omega arith in
      times_all code 1 s (code_width s) (code_count_of s) (codes_place s) (λ i b.
      let z : codes_place s + i ≡ codes_place s + 1 * i = omega arith in (
        value s (codes_place s + 1 * i) 1,
        codes_place s + 1 * i + 1,
        field_sound 1 known bad_code s (codes_place s + 1 * i) (omega arith) (rw (← z) (a.codes i b)),
      ))
      ∙ ap (λ (m : ℕ). Value 0 m) w

  packets_read_lem : read (packets (servers (hall_in s)) (packet_count_of s)) s (codes_place s + code_count_of s + 4) ≡ Value 0 (length s)
  unfolding packet_place
  packets_read_lem =
      let l = long in
      rw l (times_all (packet (servers (hall_in s))) 10 s (packet_width (servers (hall_in s)) s) (packet_count_of s) (codes_place s + code_count_of s + 4) (λ i b.
      let f = a.packets i b in
      let at = codes_place s + code_count_of s + 4 + 10 * i in
      (value s (at + 9) 1, at + 10, packet_sound (servers (hall_in s)) s at f.source f.dst f.retry (omega arith))))

  tables_read : read (tables_of (hall_in s)) s (count_place s) ≡ Value (packet_count_of s) (length s)
  unfolding tables_of packet_count_of codes_place
  tables_read =
      let l = long in
      let third = codes_place s + code_count_of s in
      then_sound 4 (λ x. eqb x (table_length (hall_in s))) bad_length _ s (count_place s) (omega arith) (eq-eqb (code_count_of s) (table_length (hall_in s)) a.second)
      ∙ then_value (codes (code_count_of s)) _ s (codes_place s) 0 third codes_read
      ∙ then_sound 4 (λ x. true) 0 _ s third (omega arith) refl
      ∙ then_value (packets (servers (hall_in s)) (value s third 4)) _ s (third + 4) 0 (length s) packets_read_lem
      ∙ read_done (value s third 4) s (length s)

  pub accepted_head : Head s
  accepted_head = record { first = a.first; hall = a.hall; there = omega (arith, long, codes_behind s) }

  held_read : read night_sheet s 0 ≡ Value (packet_count_of s) (length s)
  unfolding night_sheet
  held_read = hall_sound tables_of s accepted_head ∙ tables_read

  -- and so it is accepted, with its hall and its number of packets
  pub holds_accepted : sheet_of s ≡ accepted_as (hall_in s) (packet_count_of s)
  holds_accepted =
      let l = long in
      sheet_read s a.short ∙ rw (held_read, le-ltb (length s) (length s) (omega arith))
