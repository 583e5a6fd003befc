-- `local::refused_among` meets its contract: a hall without servers is none, and each return has the tests that decide its number.
use mathlib.Core.Path.{◌≡◌, sym, ◌∙◌}
use mathlib.Core.Bool.{true}
use Prim.Native.Nat.{◌+◌, ◌*◌}
use Rattle.hall.specs.Halls.{valid}
use Rattle.ports.specs.Codes.{cell_length}
use Rattle.hall.proofs.Growth.{no_servers, some_servers, valid_servers}
use Rattle.local.proofs.Sizes.{cell_size_lem}
use Rattle.local.proofs.Asks.{bytes_are, refuses_hall, refuses_length, refuses_uid, refuses_nothing}
use Rattle.local.proofs.refused_among.Goals.{After-size_of}
use Rattle.local.proofs.refused_among.Goals as goal

known : (c : After-size_of) → valid c.args.h ≡ true
known c = some_servers _ _ c.requires c.if-size-eq0.false

long : (c : After-size_of) → c.size_of.result * (c.args.h.k + 1) ≡ cell_length c.args.h c.args.h.b
long c = bytes_are _ _ (cell_size_lem _ _ (known c) c.size_of.ensures)

pub returns-then-size-eq0 : goal.returns-then-size-eq0
returns-then-size-eq0 c = refuses_hall _ _ _ (no_servers _ _ c.requires c.if-size-eq0.true)

pub returns-then-table-bytes : goal.returns-then-table-bytes
returns-then-table-bytes c =
    let o = (goal.at.returns-then-table-bytes c).After-size_of in refuses_length _ _ _ (known o) (λ e. c.if-table-bytes.true (e ∙ sym (long o)))

pub returns-then-size-uid : goal.returns-then-size-uid
returns-then-size-uid c =
    let o = (goal.at.returns-then-size-uid c).After-size_of in
    refuses_uid _ _ _ (known o) (c.if-table-bytes.false ∙ long o) (rw (valid_servers _ _ c.requires (known o)) at c.if-size-uid.true)

pub returns : goal.returns
returns c =
    let o = (goal.at.returns c).After-size_of in
    refuses_nothing _ _ _ (known o) (c.if-table-bytes.false ∙ long o) (rw (valid_servers _ _ c.requires (known o)) at c.if-size-uid.false)
