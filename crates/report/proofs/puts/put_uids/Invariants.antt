-- `report::puts::put_uids` meets its contract: after i turns the text of the first i uids stands in the room.
use mathlib.Core.Path.{◌≡◌}
use Prim.Native.Nat.{◌+◌}
use lib.ListN.{length, take}
use Rattle.report.specs.Texts.{uids_text}
use Rattle.words.specs.Rooms.{put}
use Rattle.report.proofs.puts.put_uids.Given as goal

abbrev pub invariant-loop-uid : goal.invariant-loop-uid
invariant-loop-uid l = (l.next ≡ l.at + length (uids_text (take l.uid-index l.uids))) × (l.room ≡ put l.initial.room l.at (uids_text (take l.uid-index l.uids)))
