-- `words::put_words` meets its contract: after i turns the bytes of the first i words stand in the room, and the rest is as it was.
use mathlib.Core.Path.{◌≡◌, sym, ◌∙◌}
use native.Mathlib.Omega.{arith}
use lib.ListN.{length}
use lib.Seq.{take_all}
use Rattle.words.specs.Words.{words_bytes}
use Rattle.words.proofs.Rooms.{put_none, room_long}
use Rattle.words.proofs.Words.{words_length, words_more}
use Rattle.words.proofs.put_words.Goals as goal

pub loop-i-init : goal.loop-i-init
unfolding words_bytes
loop-i-init c = sym (put_none _ _)

pub loop-i-preserved : goal.loop-i-preserved
loop-i-preserved c =
    let w = c.loop-i in
    let a = c.args in
    c.put_word.ensures ∙ rw w.invariant (words_more a.room.now a.at a.words.now w.i (omega arith) (omega arith))

pub returns : goal.returns
returns c =
    let w = c.loop-i in
    let a = c.args in
    let e : w.i ≡ length a.words.now = omega arith in
    w.invariant ∙ rw (e, take_all (length a.words.now) a.words.now (omega arith))
    (sym (room_long a.room.now a.at (words_bytes a.words.now) (omega (arith, words_length a.words.now))))
