-- `report::puts::put_uids` meets its contract: after i turns the text of the first i uids stands in the room.
use mathlib.Core.Path.{sym, ◌∙◌}
use mathlib.Core.List.{[], ◌∷◌, ◌++◌}
use Prim.Native.Nat.{◌+◌}
use native.Mathlib.Omega.{arith}
use lib.ListN.{take, get_or, length-set}
use lib.Seq.{append_snoc}
use Rattle.report.specs.Texts.{decimal, space, uids_text}
use Rattle.words.proofs.Rooms.{put_none}
use Rattle.report.proofs.Rooms.{put_next, byte_next}
use Rattle.report.proofs.Texts.{uids_next, uids_within}
use Rattle.report.proofs.puts.put_uids.Goals as goal

pub loop-uid-init : goal.loop-uid-init
unfolding uids_text
loop-uid-init c =
    let a = c.args in
    (omega arith, sym (put_none a.room.now a.at))

pub bounds-room-next : goal.bounds-room-next
bounds-room-next c =
    let l = c.loop-uid in
    omega (arith, c.requires, uids_within c.args.uids.now l.uid-index (omega arith))

pub overflow_add-next : goal.overflow_add-next
overflow_add-next c =
    let l = c.loop-uid in
    omega (arith, c.requires, uids_within c.args.uids.now l.uid-index (omega arith))

pub put_number-next-requires : goal.put_number-next-requires
put_number-next-requires c =
    let l = c.loop-uid in
    simp length-set (omega (arith, c.requires, l.invariant.0, uids_within c.args.uids.now l.uid-index (omega arith)))

pub loop-uid-preserved : goal.loop-uid-preserved
loop-uid-preserved c =
    let l = c.loop-uid in
    let a = c.args in
    let i = l.uid-index in
    let p = c.put_number-next in
    let d = uids_within a.uids.now i (omega arith) in
    let s = byte_next a.room.now a.at (uids_text (take i a.uids.now)) l.next l.room space l.invariant (omega arith) in
    let n = put_next a.room.now a.at (uids_text (take i a.uids.now) ++ (space ∷ [])) (decimal (get_or a.uids.now i 0))
    (l.next + 1) p.result _ p.new.room s (p.ensures.next, p.ensures.room) (omega (arith, s.0)) in
    let q = append_snoc (uids_text (take i a.uids.now)) space (decimal (get_or a.uids.now i 0)) ∙ sym (uids_next a.uids.now i (omega arith)) in
    rw (← q) n
