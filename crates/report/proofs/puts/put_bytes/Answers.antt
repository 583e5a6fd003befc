-- `report::puts::put_bytes` meets its contract: the room has place for the text.
use mathlib.Core.Path.{refl, ◌∙◌}
use Rattle.words.proofs.Rooms.{room_long}
use Rattle.report.proofs.puts.put_bytes.Goals as goal

pub returns : goal.returns
returns c = record { next = refl; room = c.put_bytes.ensures ∙ room_long _ _ _ c.requires }
