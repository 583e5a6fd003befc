-- `sheetparts::codes_place` meets its contract: the first section has the bytes that the first count says, and each of the two counts 4.
use Rattle.sheetparts.proofs.Parts.{place_part, place_full}
use Rattle.sheetparts.proofs.codes_place.Goals as goal

pub returns-then-word_at-eq-PART_SECTION : goal.returns-then-word_at-eq-PART_SECTION
returns-then-word_at-eq-PART_SECTION c = let w = c.word_at in place_part _ w.result w.ensures c.if-word_at-eq-PART_SECTION.true

pub returns : goal.returns
returns c = let w = c.word_at in place_full _ w.result w.ensures c.if-word_at-eq-PART_SECTION.false
