-- `header::writing::third_word` meets its contract: each field is put where the layout has it, and PF is the only flag ever set.
use mathlib.Core.Path.{sym, ◌∙◌}
use Rattle.header.proofs.Written.{flag_is, third_is}
use Rattle.header.proofs.writing.third_word.Goals as goal

pub returns : goal.returns
returns c = rw (c.from-flags.ensures ∙ flag_is c.args.fields.has_proxy) (sym (third_is c.args.fields))
