-- `frame::header_place` meets its contract: version, DHL and flags alone tell a place, once the frame has 20 bytes.
use Rattle.std.proofs.Common.{sym, ap, ◌∙◌}
use Rattle.frame.specs.Places.{place_of}
use Rattle.frame.proofs.Places.{none_told, short_place, fields_place}
use Rattle.frame.proofs.header_place.Goals as goal

pub returns-then-frame : goal.returns-then-frame
returns-then-frame c = short_place c.args.frame.now c.if-frame.true

pub returns-in-Ok : goal.returns-in-Ok
returns-in-Ok c = sym none_told.0 ∙ ap place_of c.in-Ok.ensures ∙ fields_place c.args.frame.now c.if-frame.false

pub returns-in-Err : goal.returns-in-Err
returns-in-Err c =
    c.place_of.ensures
    ∙ ap place_of c.in-Err.ensures
    ∙ fields_place c.args.frame.now c.if-frame.false
