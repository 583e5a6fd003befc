-- `broadcast::refused` meets its contract: the table and the uid are asked first, then the scope, then the room.
use mathlib.Core.Path.{◌≡◌, ◌∙◌, sym}
use Rattle.hall.proofs.Stated.{handed}
use Rattle.ports.proofs.Parts.{sound}
use Rattle.broadcast.specs.Broadcasts.{scope_size}
use Rattle.broadcast.proofs.Refusals.{table_refused, scope_refused, room_refused, not_refused}
use Rattle.broadcast.proofs.Calls.{scope_size_lem}
use Rattle.broadcast.proofs.refused.Goals.{After-size_of}
use Rattle.broadcast.proofs.refused.Goals as goal

sized : (c : After-size_of) → let a = c.args in c.size_of.result ≡ scope_size a.h a.scope
sized c =
    let a = c.args in
    let k = sound a.h a.table.now a.source (sym c.in_ok-part_refusal.ensures) in
    let f = c.scope_fits in
    scope_size_lem a.h a.scope _ k.is_valid (sym f.ensures ∙ c.if-not-scope_fits.false) c.size_of.ensures

pub returns-in_err-part_refusal : goal.returns-in_err-part_refusal
returns-in_err-part_refusal c =
    let a = c.args in
    rw (handed _ c.from_residual.ensures) (table_refused a.h a.table.now a.source a.scope a.room.now _ c.in_err-part_refusal.ensures)

pub returns-then-not-scope_fits : goal.returns-then-not-scope_fits
returns-then-not-scope_fits c =
    let a = c.args in
    let f = c.scope_fits in
    scope_refused a.h a.table.now a.source a.scope a.room.now c.in_ok-part_refusal.ensures (sym f.ensures ∙ c.if-not-scope_fits.true)

pub returns-then-room-size_of : goal.returns-then-room-size_of
returns-then-room-size_of c =
    let a = c.args in
    let f = c.scope_fits in
    room_refused a.h a.table.now a.source a.scope a.room.now c.in_ok-part_refusal.ensures (sym f.ensures ∙ c.if-not-scope_fits.false)
    (rw (sized (goal.at.returns-then-room-size_of c).After-size_of) at c.if-room-size_of.true)

pub returns : goal.returns
returns c =
    let a = c.args in
    let f = c.scope_fits in
    not_refused a.h a.table.now a.source a.scope a.room.now c.in_ok-part_refusal.ensures (sym f.ensures ∙ c.if-not-scope_fits.false)
    (rw (sized (goal.at.returns c).After-size_of) at c.if-room-size_of.false)
