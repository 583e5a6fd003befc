-- `words::put_bytes` meets its contract: after i turns the first i bytes stand in the room, and the rest is as it was.
use mathlib.Core.Path.{◌≡◌, sym, ◌∙◌}
use native.Mathlib.Numerals.{add-one}
use native.Mathlib.Omega.{arith}
use lib.ListN.{length}
use lib.Seq.{paste-zero, paste-suc}
use Rattle.words.proofs.Rooms.{paste_put, room_long}
use Rattle.words.proofs.put_bytes.Goals as goal

pub loop-i-init : goal.loop-i-init
loop-i-init c =
    let a = c.args in
    paste-zero a.room.now a.at a.bytes.now

pub loop-i-preserved : goal.loop-i-preserved
loop-i-preserved c =
    let l = c.loop-i in
    let a = c.args in
    rw (l.invariant, add-one l.i) (paste-suc a.room.now a.at a.bytes.now l.i 0 (omega arith) (omega arith))

pub returns : goal.returns
returns c =
    let l = c.loop-i in
    let a = c.args in
    let e : l.i ≡ length a.bytes.now = omega arith in
    l.invariant ∙ rw e (paste_put a.room.now a.at a.bytes.now) ∙ sym (room_long a.room.now a.at a.bytes.now (omega arith))
