-- `header::write_header` meets its contract: it asks in the order of the definition, and writes only once nothing is refused.
use mathlib.Core.Path.{sym, ◌∙◌}
use native.Mathlib.Omega.{arith}
use Rattle.frame.proofs.Rows.{words_fit}
use Rattle.header.proofs.Written.{write_retry, write_address, write_short, write_done}
use Rattle.header.proofs.write_header.Goals as goal

pub returns-then-fields-gt-MOST_RETRY : goal.returns-then-fields-gt-MOST_RETRY
returns-then-fields-gt-MOST_RETRY c = let it = write_retry c.args.fields c.args.room.now c.if-fields-gt-MOST_RETRY.true in record { refusal = it.0; room = it.1 }

pub returns-then-not-addresses_fit : goal.returns-then-not-addresses_fit
returns-then-not-addresses_fit c =
    let it = let a = c.args in
    let r = c.addresses_fit in
    write_address a.fields a.room.now c.if-fields-gt-MOST_RETRY.false (sym r.ensures ∙ c.if-not-addresses_fit.true) in record { refusal = it.0; room = it.1 }

pub overflow_mul-count_of : goal.overflow_mul-count_of
overflow_mul-count_of c =
    let k = words_fit c.args.fields.has_proxy in
    omega (arith, c.count_of.ensures, k.1)

pub returns-then-room-count_of : goal.returns-then-room-count_of
returns-then-room-count_of c =
    let it = let a = c.args in
    let r = c.addresses_fit in
    write_short a.fields a.room.now c.if-fields-gt-MOST_RETRY.false (sym r.ensures ∙ c.if-not-addresses_fit.false)
    (omega (arith, c.if-room-count_of.true, c.count_of.ensures)) in record { refusal = it.0; room = it.1 }

pub returns : goal.returns
returns c =
    let a = c.args in
    let r = c.addresses_fit in
    let d =
    write_done a.fields a.room.now c.if-fields-gt-MOST_RETRY.false (sym r.ensures ∙ c.if-not-addresses_fit.false)
    (omega (arith, c.if-room-count_of.false, c.count_of.ensures)) in
    record { refusal = d.0; room = c.put_header.ensures ∙ d.1 }
