-- Worked values: the pieces of the shortest trace, that of the empty sheet, which is REFUSED 10 0.
-- Sections "The night sheet" and "Refusal numbers".
use Rattle.std.specs.Prelude.{◌≡◌, refl, [], ◌∷◌, replicate}
use Rattle.hall.specs.Refusals.{refusal}
use Rattle.sheet.specs.Formats.{and_then, read}
use Rattle.sheet.specs.Sheets.{night_sheet}
use Rattle.sheet.specs.Answers.{sheet_of}
use Rattle.report.specs.Texts.{digits_within, decimal, number_with, refused_line}
use Rattle.words.specs.Rooms.{roomy}
use Rattle.lines.specs.Traces.{opening_text, trace_text, line_count, line_text, lines_text, fitting, piece_of}

-- 13 bytes
whole : trace_text [] ≡ 82 ∷ 69 ∷ 70 ∷ 85 ∷ 83 ∷ 69 ∷ 68 ∷ 32 ∷ 49 ∷ 48 ∷ 32 ∷ 48 ∷ 10 ∷ []
unfolding trace_text opening_text sheet_of read night_sheet and_then refused_line number_with decimal digits_within
whole = refl

exact_fit : piece_of [] 0 (replicate 13 0) ≡ record { refusal = 0; next = 1; end = 13 }
unfolding refusal roomy line_count line_text lines_text fitting opening_text sheet_of read night_sheet and_then refused_line number_with decimal digits_within
exact_fit = refl

one_byte_short : piece_of [] 0 (replicate 12 0) ≡ record { refusal = 6; next = 0; end = 0 }
unfolding refusal roomy line_count line_text opening_text sheet_of read night_sheet and_then refused_line number_with decimal digits_within
one_byte_short = refl

no_second_line : piece_of [] 1 (replicate 13 0) ≡ record { refusal = 3; next = 0; end = 0 }
unfolding refusal line_count sheet_of read night_sheet and_then
no_second_line = refl
