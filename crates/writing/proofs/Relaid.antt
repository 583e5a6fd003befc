-- An accepted sheet is what is laid of its parts: its one encoding is what is written of them.
use mathlib.Core.Path.{◌≡◌, refl, sym, ◌∙◌}
use mathlib.Core.List.{List}
use Prim.Native.Nat.{ℕ, ◌+◌, ◌<◌}
use native.Mathlib.Omega.{arith}
use lib.ListN.{take, drop, length-take}
use lib.Seq.{get_or-take, get_or-drop}
use Rattle.sheet.specs.Answers.{codes_place, code_count_of, hall_in, accepted_as, sheet_of}
use Rattle.sheet.specs.Accepted.{packet_count_of}
use Rattle.sheetparts.specs.Parts.{packet_fields}
use Rattle.sheetparts.proofs.Encoding.{encoded}
use Rattle.words.specs.Words.{Bytes}
use Rattle.laying.specs.Filled.{Every}
use Rattle.laying.proofs.Lists.{every_at}
use Rattle.writing.specs.Writing.{sheet_for, listed}
use Rattle.writing.proofs.Writing.{sheet_encoding}

-- the bytes of a part are bytes
pub part_bytes : (s : List ℕ) → Bytes s → (at so-many : ℕ) → Every (λ (c : ℕ). c < 256) (take so-many (drop at s))
part_bytes s b at so-many =
    every_at (λ c. c < 256) 0 (take so-many (drop at s)) (λ i h.
    let l : i < so-many = omega (arith, length-take so-many (drop at s)) in
    rw (get_or-take so-many (drop at s) i 0 l, get_or-drop at s i 0) (b.below (at + i)))

-- an accepted sheet is the one that is written of its parts
pub relaid : (s : List ℕ) → Bytes s → (sheet_of s).refusal ≡ 0
    → sheet_for (hall_in s) (take (code_count_of s) (drop (codes_place s) s)) (listed (packet_fields s) 0 (packet_count_of s)) ≡ s
relaid s b ok =
    let codes = take (code_count_of s) (drop (codes_place s) s) in
    sheet_encoding (accepted_as (hall_in s) (packet_count_of s)) codes (packet_fields s) (part_bytes s b (codes_place s) (code_count_of s))
    ∙ sym (encoded s b codes (packet_fields s) ok refl (λ i h. refl))
