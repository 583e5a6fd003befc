-- The refusal numbers, and the order in which a call gives them.
-- Section "Refusal numbers".
use Rattle.std.specs.Prelude.{ℕ, Bool, false, not, List, [], ◌∷◌, eqb, Result, Ok, Err}
use Rattle.hall.specs.declared.refusals.Refusal.{Refusal}
use Rattle.hall.specs.declared.refusals.Fault.{Fault}
use Rattle.hall.specs.declared.refusals.Refusal.TheVariants.{BadHall, BadUid, BadRange, BadLength, BadCode, ShortRoom, ShortFrame, BadRetry, BadChecksum, BadSheet, BadAddress, HallFull, BadVersion, BadDhl, BadFlags, BadPf}
use Rattle.combine.specs.Tests.{pick, both, either}

-- n, k, b or the count of a hall outside its range
abbrev pub bad_hall : ℕ
bad_hall = 1

-- a uid that is not below t(k)
abbrev pub bad_uid : ℕ
bad_uid = 2

-- a tuple entry, level or sub-cell index outside its range, or the two sub-cells of a link equal
abbrev pub bad_range : ℕ
bad_range = 3

-- a table or section count of the wrong length
abbrev pub bad_length : ℕ
bad_length = 4

-- a code that is unknown
abbrev pub bad_code : ℕ
bad_code = 5

-- lent room shorter than what would be written
abbrev pub short_room : ℕ
short_room = 6

-- a frame shorter than 20 bytes, DHL or payload says
abbrev pub short_frame : ℕ
short_frame = 7

-- the greatest retry
abbrev pub most_retry : ℕ
most_retry = 15

-- a retry above it, in a written frame, a step or a sheet
abbrev pub bad_retry : ℕ
bad_retry = 8

-- a checksum that is not the one worked out
abbrev pub bad_checksum : ℕ
bad_checksum = 9

-- a sheet cut, too long or with bytes left over
abbrev pub bad_sheet : ℕ
bad_sheet = 10

-- an address of the wrong kind, a broadcast with a proxy, a scope too high
abbrev pub bad_address : ℕ
bad_address = 11

-- every DCell1 of the hall is fitted
abbrev pub hall_full : ℕ
hall_full = 12

-- of a frame that is read: a version that there is not
abbrev pub bad_version : ℕ
bad_version = 13

-- a DHL that is not the words of a header
abbrev pub bad_DHL : ℕ
bad_DHL = 14

-- a flag other than PF
abbrev pub bad_flags : ℕ
bad_flags = 15

-- PF and DHL that disagree
abbrev pub bad_PF : ℕ
bad_PF = 16

-- the order in which a call gives them
abbrev pub order : List ℕ
order = bad_hall ∷ hall_full ∷ bad_length ∷ bad_uid ∷ bad_range ∷ bad_retry ∷ bad_address ∷ bad_code ∷ short_room ∷ []

-- what a call asks of its input: a refusal's number, and whether the input is sound there
abbrev pub Ask : Type 0
Ask = ℕ × Bool

-- an ask of this number fails
abbrev pub fails : ℕ → List Ask → Bool
fails number [] = false
fails number (a ∷ asks) = either (both (eqb a.0 number) (not a.1)) (fails number asks)

-- the first of these numbers of which an ask fails, 0 where none does
abbrev pub first_failing : List ℕ → List Ask → ℕ
first_failing [] asks = 0
first_failing (number ∷ rest) asks = pick (fails number asks) number (first_failing rest asks)

-- a call's refusal: 0 where all that it asks holds
unfoldable pub refusal : List Ask → ℕ
refusal asks = first_failing order asks

-- the number of the first ask that fails, in the order in which they stand; 0 where none does
unfoldable pub in_order : List Ask → ℕ
in_order [] = 0
in_order (ask ∷ asks) = pick ask.1 (in_order asks) ask.0

-- a call's answer: good where nothing is refused, else what a refusal of that number answers
abbrev pub answered {ℓ} : {A : Type ℓ} → ℕ → A → (ℕ → A) → A
answered number good refused = pick (eqb number 0) good (refused number)

-- the number of each reason to refuse
abbrev pub number_of : Refusal → ℕ
number_of BadHall = bad_hall
number_of BadUid = bad_uid
number_of BadRange = bad_range
number_of BadLength = bad_length
number_of BadCode = bad_code
number_of ShortRoom = short_room
number_of ShortFrame = short_frame
number_of BadRetry = bad_retry
number_of BadChecksum = bad_checksum
number_of BadSheet = bad_sheet
number_of BadAddress = bad_address
number_of HallFull = hall_full
number_of BadVersion = bad_version
number_of BadDhl = bad_DHL
number_of BadFlags = bad_flags
number_of BadPf = bad_PF

-- the number of an answer's refusal, 0 where nothing is refused
abbrev pub refusal_in : {A : Type 0} → Result A Refusal → ℕ
refusal_in (Ok _) = 0
refusal_in (Err r) = number_of r

-- an answer's number and values: the number 0 and the answer's values, or the refusal's number and the values stated for it
abbrev pub stated : {A T : Type 0} → (A → T) → (ℕ → T) → Result A Refusal → T
stated good refused (Ok a) = good a
stated good refused (Err r) = refused (number_of r)

-- the same of an answer that tells a place with its refusal
abbrev pub stated_at : {A T : Type 0} → (A → T) → (ℕ → ℕ → T) → Result A Fault → T
stated_at good refused (Ok a) = good a
stated_at good refused (Err f) = refused (number_of f.refusal) f.place
