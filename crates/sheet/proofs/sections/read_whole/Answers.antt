-- `sheet::sections::read_whole` meets its contract: each field is read behind the one before it, and the first that is refused is the answer.
use mathlib.Core.Path.{sym, ◌∙◌}
use native.Mathlib.Omega.{arith}
use Rattle.hall.specs.Halls.{n_fits, k_fits}
use Rattle.hall.specs.Refusals.{bad_hall}
use Rattle.sheet.specs.Sheets.{night_sheet}
use Rattle.sheet.proofs.Reading.{then_value, then_refused, next_within, field_read}
use Rattle.sheet.proofs.Heads.{valid_read}
use Rattle.sheet.proofs.sections.read_whole.Goals as goal

pub returns-in_default : goal.returns-in_default
unfolding night_sheet
returns-in_default c =
    c.in_default.is ∙ sym (then_refused _ _ _ _ _ _ (sym c.read_first-first.ensures ∙ c.in_default.is))

pub read_n-n_field-requires : goal.read_n-n_field-requires
read_n-n_field-requires c =
    let a = next_within _ _ _ _ _ c.read_first-first.result c.read_first-first.ensures c.in-Value.is (omega arith) in
    (a, omega arith)

pub returns-in_default-n_field : goal.returns-in_default-n_field
unfolding night_sheet
returns-in_default-n_field c =
    c.in_default-n_field.is
    ∙ sym (then_value _ _ _ _ _ _ (sym c.read_first-first.ensures ∙ c.in-Value.is)
    ∙ then_refused _ _ _ _ _ _ (sym c.read_n-n_field.ensures ∙ c.in_default-n_field.is))

pub read_k-k_field-requires : goal.read_k-k_field-requires
read_k-k_field-requires c =
    let a = next_within _ _ _ _ _ c.read_first-first.result c.read_first-first.ensures c.in-Value.is (omega arith) in
    let b = next_within _ _ _ _ _ c.read_n-n_field.result c.read_n-n_field.ensures c.in-Value-n_field.is a in
    (b, omega arith)

pub returns-in_default-k_field : goal.returns-in_default-k_field
unfolding night_sheet
returns-in_default-k_field c =
    c.in_default-k_field.is
    ∙ sym (then_value _ _ _ _ _ _ (sym c.read_first-first.ensures ∙ c.in-Value.is)
    ∙ then_value _ _ _ _ _ _ (sym c.read_n-n_field.ensures ∙ c.in-Value-n_field.is)
    ∙ then_refused _ _ _ _ _ _ (sym c.read_k-k_field.ensures ∙ c.in_default-k_field.is))

pub read_b-b_field-requires : goal.read_b-b_field-requires
read_b-b_field-requires c =
    let a = next_within _ _ _ _ _ c.read_first-first.result c.read_first-first.ensures c.in-Value.is (omega arith) in
    let b = next_within _ _ _ _ _ c.read_n-n_field.result c.read_n-n_field.ensures c.in-Value-n_field.is a in
    let d = next_within _ _ _ _ _ c.read_k-k_field.result c.read_k-k_field.ensures c.in-Value-k_field.is b in
    (d, omega arith)

pub returns-in_default-b_field : goal.returns-in_default-b_field
unfolding night_sheet
returns-in_default-b_field c =
    c.in_default-b_field.is
    ∙ sym (then_value _ _ _ _ _ _ (sym c.read_first-first.ensures ∙ c.in-Value.is)
    ∙ then_value _ _ _ _ _ _ (sym c.read_n-n_field.ensures ∙ c.in-Value-n_field.is)
    ∙ then_value _ _ _ _ _ _ (sym c.read_k-k_field.ensures ∙ c.in-Value-k_field.is)
    ∙ then_refused _ _ _ _ _ _ (sym c.read_b-b_field.ensures ∙ c.in_default-b_field.is))

pub read_fitted-count_field-requires : goal.read_fitted-count_field-requires
read_fitted-count_field-requires c =
    let a = next_within _ _ _ _ _ c.read_first-first.result c.read_first-first.ensures c.in-Value.is (omega arith) in
    let b = next_within _ _ _ _ _ c.read_n-n_field.result c.read_n-n_field.ensures c.in-Value-n_field.is a in
    let d = next_within _ _ _ _ _ c.read_k-k_field.result c.read_k-k_field.ensures c.in-Value-k_field.is b in
    let f = next_within _ _ _ _ _ c.read_b-b_field.result c.read_b-b_field.ensures c.in-Value-b_field.is d in
    let n_fits_lem = (field_read 1 n_fits bad_hall _ _ _ _ (sym c.read_n-n_field.ensures ∙ c.in-Value-n_field.is)).1 in
    let k-fits = (field_read 1 (k_fits _) bad_hall _ _ _ _ (sym c.read_k-k_field.ensures ∙ c.in-Value-k_field.is)).1 in
    (f, omega arith, n_fits_lem, k-fits)

pub returns-in_default-count_field : goal.returns-in_default-count_field
unfolding night_sheet
returns-in_default-count_field c =
    c.in_default-count_field.is
    ∙ sym (then_value _ _ _ _ _ _ (sym c.read_first-first.ensures ∙ c.in-Value.is)
    ∙ then_value _ _ _ _ _ _ (sym c.read_n-n_field.ensures ∙ c.in-Value-n_field.is)
    ∙ then_value _ _ _ _ _ _ (sym c.read_k-k_field.ensures ∙ c.in-Value-k_field.is)
    ∙ then_value _ _ _ _ _ _ (sym c.read_b-b_field.ensures ∙ c.in-Value-b_field.is)
    ∙ then_refused _ _ _ _ _ _ (sym c.read_fitted-count_field.ensures ∙ c.in_default-count_field.is))

pub read_tables-requires : goal.read_tables-requires
read_tables-requires c =
    let a = next_within _ _ _ _ _ c.read_first-first.result c.read_first-first.ensures c.in-Value.is (omega arith) in
    let b = next_within _ _ _ _ _ c.read_n-n_field.result c.read_n-n_field.ensures c.in-Value-n_field.is a in
    let d = next_within _ _ _ _ _ c.read_k-k_field.result c.read_k-k_field.ensures c.in-Value-k_field.is b in
    let f = next_within _ _ _ _ _ c.read_b-b_field.result c.read_b-b_field.ensures c.in-Value-b_field.is d in
    let g = next_within _ _ _ _ _ c.read_fitted-count_field.result c.read_fitted-count_field.ensures c.in-Value-count_field.is f in
    (g, omega arith, valid_read _ _ _ _ _ _ _ _ _ _ _ _ _ _ (sym c.read_n-n_field.ensures ∙ c.in-Value-n_field.is) (sym c.read_k-k_field.ensures ∙ c.in-Value-k_field.is) (sym c.read_b-b_field.ensures ∙ c.in-Value-b_field.is) (sym c.read_fitted-count_field.ensures ∙ c.in-Value-count_field.is))

pub returns : goal.returns
unfolding night_sheet
returns c =
    c.read_tables.ensures
    ∙ sym (then_value _ _ _ _ _ _ (sym c.read_first-first.ensures ∙ c.in-Value.is)
    ∙ then_value _ _ _ _ _ _ (sym c.read_n-n_field.ensures ∙ c.in-Value-n_field.is)
    ∙ then_value _ _ _ _ _ _ (sym c.read_k-k_field.ensures ∙ c.in-Value-k_field.is)
    ∙ then_value _ _ _ _ _ _ (sym c.read_b-b_field.ensures ∙ c.in-Value-b_field.is)
    ∙ then_value _ _ _ _ _ _ (sym c.read_fitted-count_field.ensures ∙ c.in-Value-count_field.is))
