-- `frame::reading::fields_refusal` meets its contract: each field is taken out of its word.
use Rattle.frame.specs.Layout.{word_at}
use Rattle.frame.proofs.Rows.{version_in, DHL_in, flags_in}
use Rattle.frame.proofs.reading.fields_refusal.Goals as goal

pub returns : goal.returns
returns c =
    let f = c.args.frame.now in
    rw (version_in (word_at f), DHL_in (word_at f), flags_in (word_at f), ← c.word_at-first.ensures, ← c.word_at-third.ensures)
    c.header_refusal.ensures
