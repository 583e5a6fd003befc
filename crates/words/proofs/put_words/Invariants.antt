-- `words::put_words` meets its contract: after i turns the bytes of the first i words stand in the room, and the rest is as it was.
use mathlib.Core.Path.{◌≡◌}
use lib.ListN.{take}
use Rattle.words.specs.Words.{words_bytes}
use Rattle.words.specs.Rooms.{put}
use Rattle.words.proofs.put_words.Given as goal

abbrev pub invariant-loop-i : goal.invariant-loop-i
invariant-loop-i l = l.room ≡ put l.initial.room l.at (words_bytes (take l.i l.words))
