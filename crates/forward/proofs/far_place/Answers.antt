-- `forward::far_place` meets its contract: the far codes stand behind those of the cell, server by server.
use mathlib.Core.Path.{◌≡◌, ◌∙◌}
use native.Mathlib.Omega.{arith}
use Rattle.ports.specs.Codes.{cell_length}
use Rattle.local.proofs.Asks.{bytes_are}
use Rattle.ends.proofs.Codes.{far_few, cell_bytes}
use Rattle.forward.proofs.CodeTables.{far_first, far_at}
use Rattle.forward.proofs.far_place.Goals.{After-bytes_of}
use Rattle.forward.proofs.far_place.Goals as goal

long : (c : After-bytes_of) → c.bytes_of.result ≡ cell_length c.args.h c.args.h.b
long c =
    c.bytes_of.ensures ∙ bytes_are c.args.h _ c.cell_size.ensures

pub overflow_mul-far : goal.overflow_mul-far
overflow_mul-far c = let a = c.requires in omega (arith, far_few _ a.sound, far_first _ _ _ a)

pub overflow_add-far : goal.overflow_add-far
overflow_add-far c = let a = c.requires in omega (arith, far_few _ a.sound, far_first _ _ _ a)

pub overflow_add-result : goal.overflow_add-result
overflow_add-result c = let a = c.requires in omega (arith, long (goal.at.overflow_add-result c).After-bytes_of, cell_bytes _ a.sound, far_few _ a.sound, far_first _ _ _ a)

pub returns : goal.returns
returns c = far_at _ _ _ c.requires _ (long (goal.at.returns c).After-bytes_of)
