-- `sheet::hall_in` meets its contract: a sound first section is there, and its first count decides where the count is from.
use mathlib.Core.Path.{sym, ◌∙◌}
use native.Mathlib.Omega.{arith}
use Rattle.words.proofs.Words.{word_there}
use Rattle.sheet.proofs.Places.{count_low}
use Rattle.sheet.proofs.Heads.{hall_part, hall_full, part_there}
use Rattle.sheet.proofs.hall_in.Goals as goal

pub returns-then-word_at-eq-PART_SECTION : goal.returns-then-word_at-eq-PART_SECTION
returns-then-word_at-eq-PART_SECTION c =
    let l = c.args.sheet.now in
    let w = c.word_at in
    let first = (sym (word_there l 0 (omega (arith, c.requires.there, count_low l))) ∙ sym w.ensures ∙ c.if-word_at-eq-PART_SECTION.true) in
    rw (c.word_at-count.ensures, word_there l 7 (part_there l c.requires first)) (hall_part l first)

pub returns : goal.returns
returns c =
    let l = c.args.sheet.now in
    let w = c.word_at in
    let e = (w.ensures ∙ word_there l 0 (omega (arith, c.requires.there, count_low l))) in
    hall_full l c.requires (rw e at c.if-word_at-eq-PART_SECTION.false) _ c.racks_of-count.ensures
