-- `sheet::sections::read_packet` meets its contract: each field is read behind the one before it, and the first that is refused is the answer.
use mathlib.Core.Path.{sym, ◌∙◌}
use native.Mathlib.Omega.{arith}
use Rattle.sheet.specs.Sheets.{packet}
use Rattle.sheet.proofs.Reading.{then_value, then_refused, next_within}
use Rattle.sheet.proofs.sections.read_packet.Goals as goal

pub returns-in_default : goal.returns-in_default
unfolding packet
returns-in_default c =
    c.in_default.is ∙ sym (then_refused _ _ _ _ _ _ (sym c.read_uid-source.ensures ∙ c.in_default.is))

pub read_uid-dst-requires : goal.read_uid-dst-requires
read_uid-dst-requires c =
    let a = next_within _ _ _ _ _ c.read_uid-source.result c.read_uid-source.ensures c.in-Value.is (omega arith) in
    (a, omega arith)

pub returns-in_default-dst : goal.returns-in_default-dst
unfolding packet
returns-in_default-dst c =
    c.in_default-dst.is
    ∙ sym (then_value _ _ _ _ _ _ (sym c.read_uid-source.ensures ∙ c.in-Value.is)
    ∙ then_refused _ _ _ _ _ _ (sym c.read_uid-dst.ensures ∙ c.in_default-dst.is))

pub read_retry-retry-requires : goal.read_retry-retry-requires
read_retry-retry-requires c =
    let a = next_within _ _ _ _ _ c.read_uid-source.result c.read_uid-source.ensures c.in-Value.is (omega arith) in
    let b = next_within _ _ _ _ _ c.read_uid-dst.result c.read_uid-dst.ensures c.in-Value-dst.is a in
    (b, omega arith)

pub returns-in_default-retry : goal.returns-in_default-retry
unfolding packet
returns-in_default-retry c =
    c.in_default-retry.is
    ∙ sym (then_value _ _ _ _ _ _ (sym c.read_uid-source.ensures ∙ c.in-Value.is)
    ∙ then_value _ _ _ _ _ _ (sym c.read_uid-dst.ensures ∙ c.in-Value-dst.is)
    ∙ then_refused _ _ _ _ _ _ (sym c.read_retry-retry.ensures ∙ c.in_default-retry.is))

pub read_byte-requires : goal.read_byte-requires
read_byte-requires c =
    let a = next_within _ _ _ _ _ c.read_uid-source.result c.read_uid-source.ensures c.in-Value.is (omega arith) in
    let b = next_within _ _ _ _ _ c.read_uid-dst.result c.read_uid-dst.ensures c.in-Value-dst.is a in
    let d = next_within _ _ _ _ _ c.read_retry-retry.result c.read_retry-retry.ensures c.in-Value-retry.is b in
    (d, omega arith)

pub returns : goal.returns
unfolding packet
returns c =
    c.read_byte.ensures
    ∙ sym (then_value _ _ _ _ _ _ (sym c.read_uid-source.ensures ∙ c.in-Value.is)
    ∙ then_value _ _ _ _ _ _ (sym c.read_uid-dst.ensures ∙ c.in-Value-dst.is)
    ∙ then_value _ _ _ _ _ _ (sym c.read_retry-retry.ensures ∙ c.in-Value-retry.is))
