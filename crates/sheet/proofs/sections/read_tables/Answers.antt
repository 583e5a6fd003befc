-- `sheet::sections::read_tables` meets its contract: each section is read behind the one before it, and the first that is refused is the answer; the code's servers are the hall's.
use mathlib.Core.Path.{sym, ◌∙◌}
use native.Mathlib.Omega.{arith}
use Rattle.ports.specs.Codes.{table_length}
use Rattle.hall.proofs.Growth.{valid_servers}
use Rattle.sheet.specs.Sheets.{tables_of}
use Rattle.sheet.proofs.Reading.{read_done, then_value, then_refused, next_within}
use Rattle.sheet.proofs.sections.read_tables.Goals as goal

pub returns-in_default : goal.returns-in_default
unfolding tables_of table_length
returns-in_default c =
    let q = valid_servers c.args.h c.servers_of-servers.result c.servers_of-servers.ensures c.requires.2 in
    rw (← q) (c.in_default.is ∙ sym (then_refused _ _ _ _ _ _ (sym c.read_count-second.ensures ∙ c.in_default.is)))

pub read_codes-codes-requires : goal.read_codes-codes-requires
read_codes-codes-requires c =
    let a = next_within _ _ _ _ _ c.read_count-second.result c.read_count-second.ensures c.in-Value.is (omega arith) in
    (a, omega arith)

pub returns-in_default-codes : goal.returns-in_default-codes
unfolding tables_of table_length
returns-in_default-codes c =
    let q = valid_servers c.args.h c.servers_of-servers.result c.servers_of-servers.ensures c.requires.2 in
    rw (← q) (c.in_default-codes.is
    ∙ sym (then_value _ _ _ _ _ _ (sym c.read_count-second.ensures ∙ c.in-Value.is)
    ∙ then_refused _ _ _ _ _ _ (sym c.read_codes-codes.ensures ∙ c.in_default-codes.is)))

pub read_word-third-requires : goal.read_word-third-requires
read_word-third-requires c =
    let a = next_within _ _ _ _ _ c.read_count-second.result c.read_count-second.ensures c.in-Value.is (omega arith) in
    let b = next_within _ _ _ _ _ c.read_codes-codes.result c.read_codes-codes.ensures c.in-Value-codes.is a in
    (b, omega arith)

pub returns-in_default-third : goal.returns-in_default-third
unfolding tables_of table_length
returns-in_default-third c =
    let q = valid_servers c.args.h c.servers_of-servers.result c.servers_of-servers.ensures c.requires.2 in
    rw (← q) (c.in_default-third.is
    ∙ sym (then_value _ _ _ _ _ _ (sym c.read_count-second.ensures ∙ c.in-Value.is)
    ∙ then_value _ _ _ _ _ _ (sym c.read_codes-codes.ensures ∙ c.in-Value-codes.is)
    ∙ then_refused _ _ _ _ _ _ (sym c.read_word-third.ensures ∙ c.in_default-third.is)))

pub read_packets-packets-requires : goal.read_packets-packets-requires
read_packets-packets-requires c =
    let a = next_within _ _ _ _ _ c.read_count-second.result c.read_count-second.ensures c.in-Value.is (omega arith) in
    let b = next_within _ _ _ _ _ c.read_codes-codes.result c.read_codes-codes.ensures c.in-Value-codes.is a in
    let d = next_within _ _ _ _ _ c.read_word-third.result c.read_word-third.ensures c.in-Value-third.is b in
    (d, omega arith)

pub returns-in_default-packets : goal.returns-in_default-packets
unfolding tables_of table_length
returns-in_default-packets c =
    let q = valid_servers c.args.h c.servers_of-servers.result c.servers_of-servers.ensures c.requires.2 in
    rw (← q) (c.in_default-packets.is
    ∙ sym (then_value _ _ _ _ _ _ (sym c.read_count-second.ensures ∙ c.in-Value.is)
    ∙ then_value _ _ _ _ _ _ (sym c.read_codes-codes.ensures ∙ c.in-Value-codes.is)
    ∙ then_value _ _ _ _ _ _ (sym c.read_word-third.ensures ∙ c.in-Value-third.is)
    ∙ then_refused _ _ _ _ _ _ (sym c.read_packets-packets.ensures ∙ c.in_default-packets.is)))

pub returns : goal.returns
unfolding tables_of table_length
returns c =
    let q = valid_servers c.args.h c.servers_of-servers.result c.servers_of-servers.ensures c.requires.2 in
    rw (← q) (sym (then_value _ _ _ _ _ _ (sym c.read_count-second.ensures ∙ c.in-Value.is)
    ∙ then_value _ _ _ _ _ _ (sym c.read_codes-codes.ensures ∙ c.in-Value-codes.is)
    ∙ then_value _ _ _ _ _ _ (sym c.read_word-third.ensures ∙ c.in-Value-third.is)
    ∙ then_value _ _ _ _ _ _ (sym c.read_packets-packets.ensures ∙ c.in-Value-packets.is)
    ∙ read_done _ _ _))
