-- `rooms::tell` meets its contract, by the three ways in which an answer is told.
use mathlib.Core.Path.{◌≡◌, sym, ◌∙◌, ap}
use mathlib.Core.List.{List, ◌++◌}
use Prim.Native.Nat.{ℕ, suc, ◌+◌, ◌<◌}
use native.Mathlib.Numerals.{add-one}
use native.Mathlib.Omega.{arith}
use lib.ListN.{length, get_or, set, drop}
use lib.Seq.{paste, paste-zero, paste-suc, take-length}
use Rattle.hall.proofs.Told.{told_refused, told_short, told_good, written_refused, written_short, written_good}
use Rattle.rooms.proofs.tell.Goals as goal

module _ {A : Type 0} (values room : List A) where
  -- a turn of the loop, which stores value i
  one_more : {now : List A} (i : ℕ) (value : A) → now ≡ paste room 0 values i → value ≡ get_or values i value → i < length room → i < length values
      → set now i value ≡ paste room 0 values (i + 1)
  one_more {now} i value e v h k =
      let z : 0 + i ≡ i = omega arith in
      let p : set (paste room 0 values i) (0 + i) (get_or values i value) ≡ paste room 0 values (suc i) = paste-suc room 0 values i value (omega arith) k in
      let q : set (paste room 0 values i) (0 + i) value ≡ paste room 0 values (suc i) = ap (λ (x : A). set (paste room 0 values i) (0 + i) x) v ∙ p in
      let r : set (paste room 0 values i) i value ≡ set (paste room 0 values i) (0 + i) value = ap (λ (x : ℕ). set (paste room 0 values i) x value) (sym z) in
      rw (e, add-one i) (r ∙ q)

  -- all turns
  all_put : paste room 0 values (length values) ≡ values ++ drop (length values) room
  all_put = let z : 0 + length values ≡ length values = omega arith in rw (take-length values, z)

pub returns-then-number-ne0-clause-number : goal.returns-then-number-ne0-clause-number
returns-then-number-ne0-clause-number g c = sym (told_refused _ _ _ c.if-number-ne0.true)

pub returns-then-number-ne0-clause-room : goal.returns-then-number-ne0-clause-room
returns-then-number-ne0-clause-room g c = written_refused _ _ _ c.if-number-ne0.true

pub returns-then-room-values-clause-number : goal.returns-then-room-values-clause-number
returns-then-room-values-clause-number g c = c.number.ensures ∙ sym (told_short _ _ _ c.if-number-ne0.false c.if-room-values.true)

pub returns-then-room-values-clause-room : goal.returns-then-room-values-clause-room
returns-then-room-values-clause-room g c = written_short _ _ _ c.if-number-ne0.false c.if-room-values.true

pub loop-i-init : goal.loop-i-init
loop-i-init g c = let a = c.args in paste-zero a.room.now 0 a.values.now

pub loop-i-preserved : goal.loop-i-preserved
loop-i-preserved g c =
    let l = c.loop-i in
    let a = c.args in
    one_more a.values.now a.room.now l.i c.index-values-i.result l.invariant c.index-values-i.is (omega arith) c.loop-i-test.true

pub returns-clause-number : goal.returns-clause-number
returns-clause-number g c = sym (told_good _ _ _ c.if-number-ne0.false c.if-room-values.false)

pub returns-clause-room : goal.returns-clause-room
returns-clause-room g c =
    let l = c.loop-i in
    let a = c.args in
    let e : l.i ≡ length a.values.now = omega arith in
    l.invariant ∙ rw e (all_put a.values.now a.room.now) ∙ written_good _ _ _ c.if-number-ne0.false c.if-room-values.false
