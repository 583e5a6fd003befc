-- No journey over an accepted sheet is refused: the sheet holds what a journey asks for.
use mathlib.Core.Path.{◌≡◌, refl, sym, ◌∙◌, ap}
use mathlib.Core.Bool.{false≢true}
use mathlib.Core.List.{List}
use Prim.Native.Nat.{ℕ, ◌+◌, ◌≤◌, ◌<◌}
use native.Mathlib.Omega.{arith}
use lib.ListN.{length, drop, length-drop}
use lib.Seq.{length-take-le}
use borrow.Author.Tests.{le-leb}
use Rattle.hall.specs.declared.refusals.Refusal.{Refusal}
use Rattle.hall.specs.Refusals.{number_of}
use Rattle.hall.proofs.Stated.{number_not_zero}
use Rattle.ports.specs.Codes.{table_length}
use Rattle.forward.specs.Answers.{JourneyAnswer, refused_journey}
use Rattle.forward.proofs.CodeAsks as calls
use Rattle.words.specs.Words.{value}
use Rattle.sheet.specs.declared.Sheet.{Sheet}
use Rattle.sheet.specs.Answers.{codes_place, code_count_of, hall_in, sheet_of, packet_place}
use Rattle.sheet.specs.Accepted.{packet_count_of, Accepted}
use Rattle.sheet.proofs.Held.{accepted_holds, long, holds_accepted}
use Rattle.sheetparts.specs.declared.SheetPacket.{SheetPacket}
use Rattle.sheetparts.specs.Parts.{codes_part, packet_part, packet_fields}
use Rattle.sheetparts.proofs.Parts.{codes_there_lem}
use Rattle.lines.specs.Traces.{departing, journey_at}

-- the codes are wholly there, and as many as the hall's table wants
codes_within : (s : List ℕ) → Accepted s → codes_place s + code_count_of s ≤ length s
codes_within s a = omega (arith, long s a)

pub codes_long : (s : List ℕ) → Accepted s → length (codes_part s) ≡ table_length (hall_in s)
codes_long s a =
    let w = codes_within s a in
    ap length (sym (codes_there_lem s w)) ∙ length-take-le (code_count_of s) (drop (codes_place s) s) (omega (arith, length-drop (codes_place s) s, w)) ∙ a.second

-- so is a packet, and its values are those of its bytes
pub whole_packet : (s : List ℕ) → Accepted s → (i : ℕ) → i < packet_count_of s → packet_place s i + 10 ≤ length s
unfolding packet_place
whole_packet s a i h = omega (arith, a.whole)

pub part_there : (s : List ℕ) (at : ℕ) → at + 10 ≤ length s
    → packet_part s at ≡ record { refusal = 0; place = 0; source = value s at 4; dst = value s (at + 4) 4; retry = value s (at + 8) 1; ttl = value s (at + 9) 1 }
unfolding packet_part
part_there s at h = rw (le-leb (at + 10) (length s) h)

module _ (s : List ℕ) (read : Sheet) (e : read ≡ sheet_of s) (ok : read.refusal ≡ 0) (i : ℕ) (l : i < read.packets) where
  journey_unrefused : (journey_at s read i).refusal ≡ 0
  unfolding journey_at
  journey_unrefused =
      let a = accepted_holds s (rw (← e) ok) in
      let q = e ∙ holds_accepted s a in
      let c : i < packet_count_of s = omega (arith, l, ap (λ (x : Sheet). x.packets) q) in
      let f = a.packets i c in
      let p : packet_fields s i ≡ packet_part s (packet_place s i) = refl in
      let there = p ∙ part_there s (packet_place s i) (whole_packet s a i c) in
      let h : read.hall ≡ hall_in s = ap (λ (x : Sheet). x.hall) q in
      rw h (ap (λ (x : JourneyAnswer). x.refusal) (calls.journey_there (hall_in s) (codes_part s) (packet_fields s i).source (departing (packet_fields s i)) (record {
        sound = a.hall;
        long = codes_long s a;
        fits = omega (arith, ap (λ (x : SheetPacket). x.source) there, f.source);
        packet = record {
          dst_fits = omega (arith, ap (λ (x : SheetPacket). x.dst) there, f.dst);
          proxy_fits = λ z. absurd (false≢true z);
          retry_fits = omega (arith, ap (λ (x : SheetPacket). x.retry) there, f.retry);
        };
      })))

  -- so the journey is there
  pub journey_there : (r : Refusal) → refused_journey (number_of r) ≡ journey_at s read i → ⊥
  journey_there r q = number_not_zero r (ap (λ (a : JourneyAnswer). a.refusal) q ∙ journey_unrefused)
