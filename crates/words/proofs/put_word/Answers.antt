-- `words::put_word` meets its contract: the part of the room is copied over by the word's bytes.
use mathlib.Core.Path.{◌∙◌}
use native.Mathlib.Omega.{arith}
use Rattle.words.proofs.Rooms.{copied}
use Rattle.words.proofs.put_word.Goals as goal

pub returns : goal.returns
returns c = copied _ _ _ _ _ (c.copy_from_slice.ensures.after ∙ c.to_be_bytes.ensures) (omega arith)
