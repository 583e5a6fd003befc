-- What is laid is read back: reading the bytes of a filled format answers what its values are judged to be, and the bytes that a read
-- passes are those of the values that it found.
use Prim.{tt}
use mathlib.Core.Path.{◌≡◌, refl, sym, ◌∙◌, ap}
use mathlib.Core.Bool.{Bool}
use mathlib.Core.List.{List, [], ◌∷◌, ◌++◌, append_assoc}
use Prim.Native.Nat.{ℕ, ◌+◌, ◌≤◌}
use native.Mathlib.Omega.{arith}
use lib.ListN.{length, drop, length-append, length-drop}
use Rattle.combine.proofs.Tests.{cases}
use Rattle.sheet.specs.declared.Field.TheVariants.{Value, Refused}
use Rattle.words.specs.Words.{value, Bytes, bytes_of}
use Rattle.words.proofs.Words.{drop_bytes}
use Rattle.words.proofs.Bytes.{bytes_long, value_laid, drop-laid, value_fits}
use Rattle.sheet.specs.Formats.{Format, done, field, and_then, read}
use Rattle.sheet.specs.Sheets.{times}
use Rattle.sheet.proofs.Reading.{onward, read_done, read_sound, read_wrong, read_cut, read_cases}
use Rattle.sheet.proofs.Numbers.{Numbers, at_end, numbers}
use Rattle.laying.specs.Filled.{Filled, ended, put, result, laid, judged, FirstUnsound, here, further, All, Fits, Sound, values_in, fill_then, each, joined, Every}

-- the bytes of a filled format are read as its values are judged, whatever stands before and behind them
pub read_laid : {f : Format} (x : Filled f) → Fits x → (s : List ℕ) (at : ℕ) (post : List ℕ) → at ≤ length s → drop at s ≡ laid x ++ post
    → read f s at ≡ judged x at
unfolding laid All judged
read_laid (ended {v}) ok s at post h e = read_done v s at
read_laid (put {width} {number} {sound} {behind} v rest) ok s at post h e =
    let d : drop at s ≡ bytes_of width v ++ (laid rest ++ post) = e ∙ append_assoc (bytes_of width v) (laid rest) post in
    let l : at + width ≤ length s =
    omega (arith, length-drop at s, ap length d, length-append (bytes_of width v) (laid rest ++ post), bytes_long width v) in
    let q : value s at width ≡ v = value_laid s at width v (laid rest ++ post) ok.0 d in
    let n : drop (at + width) s ≡ laid rest ++ post = drop-laid s at width v (laid rest ++ post) d in
    cases (sound v)
    (λ t. read_sound s width sound number behind at l (ap sound q ∙ t) ∙ rw (q, t) (read_laid rest ok.1 s (at + width) post l n))
    (λ t. read_wrong s width sound number behind at l (ap sound q ∙ t) ∙ rw t)

-- values that are all sound are passed, and what they are read for is told behind them
pub judged_all : {f : Format} (x : Filled f) → Sound x → (at : ℕ) → judged x at ≡ Value (result x) (at + length (laid x))
unfolding judged result laid All
judged_all (ended {v}) ok at = let z : at ≡ at + 0 = omega arith in ap (λ (n : ℕ). Value v n) z
judged_all (put {width} {number} {sound} v rest) ok at =
    let n : at + width + length (laid rest) ≡ at + length (bytes_of width v ++ laid rest) =
    omega (arith, length-append (bytes_of width v) (laid rest), bytes_long width v) in
    rw ok.0 (judged_all rest ok.1 (at + width) ∙ ap (λ (m : ℕ). Value (result rest) m) n)

-- and only those
pub judged_sound : {f : Format} (x : Filled f) (at v next : ℕ) → judged x at ≡ Value v next → Sound x
unfolding judged All
judged_sound ended at v next e = tt
judged_sound (put {width} {number} {sound} u rest) at v next e =
    cases (sound u)
    (λ t. (t, judged_sound rest (at + width) v next (rw t at e)))
    (λ t. let q : Refused number at ≡ Value v next = rw t at e in let z : ◌≡◌ {A = ℕ} 0 1 = cc q in absurd (omega arith))

-- the first value that is not sound decides
pub first_unsound : {f : Format} {x : Filled f} {number place : ℕ} → FirstUnsound f x number place → (at : ℕ) → judged x at ≡ Refused number (at + place)
unfolding judged
first_unsound {number = number} (here e) at = let z : at ≡ at + 0 = omega arith in rw e (ap (λ (n : ℕ). Refused number n) z)
first_unsound (further {width} {own} {number} {place} e r) at =
    let z : at + width + place ≡ at + (width + place) = omega arith in
    rw e (first_unsound r (at + width) ∙ ap (λ (n : ℕ). Refused number n) z)

pub unsound_read : {f : Format} {x : Filled f} {number place : ℕ} → FirstUnsound f x number place → Fits x
    → (s : List ℕ) (at : ℕ) (post : List ℕ) → at ≤ length s → drop at s ≡ laid x ++ post → read f s at ≡ Refused number (at + place)
unsound_read {x = x} u ok s at post h e = read_laid x ok s at post h e ∙ first_unsound u at

-- and each refusal is of such a value
pub refused_first : {f : Format} (x : Filled f) (at number place : ℕ) → judged x at ≡ Refused number place
    → (before : ℕ) × FirstUnsound f x number before × (place ≡ at + before)
unfolding judged
refused_first (ended {v}) at number place e = let q : ◌≡◌ {A = ℕ} 0 1 = cc e in absurd (omega arith)
refused_first (put {width} {number = own} {sound} {behind} v rest) at number place e =
    cases (sound v)
    (λ t. let r = refused_first rest (at + width) number place (rw t at e) in (width + r.0, further t r.1, omega (arith, r.2)))
    (λ t. let q : Refused own at ≡ Refused number place = rw t at e in
    let o : own ≡ number = cc q in
    let p : at ≡ place = cc q in
    (0, rw (← o) (here t), omega arith))

-- what holds of the numbers that a format's fields are refused by holds of a refusal's
pub judged_numbers : (P : ℕ → Type 0) {f : Format} (x : Filled f) → Numbers P f → (at number place : ℕ) → judged x at ≡ Refused number place → P number
unfolding judged
judged_numbers P (ended {v}) at_end at number place e = let q : ◌≡◌ {A = ℕ} 0 1 = cc e in absurd (omega arith)
judged_numbers P (put {width} {number = own} {sound} v rest) (numbers h r) at number place e =
    cases (sound v)
    (λ t. judged_numbers P rest (r v) (at + width) number place (rw t at e))
    (λ t. let q : Refused own at ≡ Refused number place = rw t at e in let o : own ≡ number = cc q in rw (← o) (h v t))

-- the values that stand in a sheet: they fit, and where a read comes to its end they are sound and their bytes are those that it passed
pub values_fit : (f : Format) (s : List ℕ) → Bytes s → (at : ℕ) → Fits (values_in f s at)
unfolding values_in All
values_fit (done v) s b at = tt
values_fit (field width sound number behind) s b at = (value_fits s b at width, values_fit (behind (value s at width)) s b (at + width))

pub accepted_laid : (f : Format) (s : List ℕ) → Bytes s → (at v next : ℕ) → read f s at ≡ Value v next
    → Sound (values_in f s at) × (v ≡ result (values_in f s at)) × (next ≡ at + length (laid (values_in f s at)))
    × (drop at s ≡ laid (values_in f s at) ++ drop next s)
unfolding values_in All result laid
accepted_laid (done u) s b at v next e =
    let q : Value u at ≡ Value v next = sym (read_done u s at) ∙ e in
    let z : at ≡ next = cc q in
    (tt, (cc q), omega arith, ap (λ (n : ℕ). drop n s) z)
accepted_laid (field width sound number behind) s b at v next e =
    let u = value s at width in
    read_cases s width sound number behind at
    (λ h t. let r = accepted_laid (behind u) s b (at + width) v next (sym (read_sound s width sound number behind at h t) ∙ e) in
    let n : next ≡ at + length (bytes_of width u ++ laid (values_in (behind u) s (at + width))) =
    omega (arith, r.2, length-append (bytes_of width u) (laid (values_in (behind u) s (at + width))), bytes_long width u) in (
      (t, r.0),
      r.1,
      n,
      drop_bytes s b width at h ∙ ap (λ (l : List ℕ). bytes_of width u ++ l) r.3
          ∙ sym (append_assoc (bytes_of width u) (laid (values_in (behind u) s (at + width))) (drop next s)),
    ))
    (λ h t. let q : Refused number at ≡ Value v next = sym (read_wrong s width sound number behind at h t) ∙ e in
    let z : ◌≡◌ {A = ℕ} 0 1 = cc q in absurd (omega arith))
    (λ h. let q = sym (read_cut s width sound number behind at h) ∙ e in
    let z : ◌≡◌ {A = ℕ} 0 1 = cc q in absurd (omega arith))

-- the values of one format behind another stand one behind the other
pub values_then : (f : Format) (g : ℕ → Format) (s : List ℕ) (at : ℕ)
    → laid (values_in (and_then f g) s at)
    ≡ laid (values_in f s at) ++ laid (values_in (g (result (values_in f s at))) s (at + length (laid (values_in f s at))))
unfolding values_in laid result and_then
values_then (done v) g s at = let z : at + 0 ≡ at = omega arith in rw z
values_then (field width sound number behind) g s at =
    let u = value s at width in
    let x = values_in (behind u) s (at + width) in
    let n : at + width + length (laid x) ≡ at + length (bytes_of width u ++ laid x) =
    omega (arith, length-append (bytes_of width u) (laid x), bytes_long width u) in
    rw (values_then (behind u) g s (at + width), n)
    (sym (append_assoc (bytes_of width u) (laid x) (laid (values_in (g (result x)) s (at + length (bytes_of width u ++ laid x))))))

-- one filled format behind another
pub laid_then : {f : Format} (g : ℕ → Format) (x : Filled f) (y : Filled (g (result x))) → laid (fill_then g x y) ≡ laid x ++ laid y
unfolding laid fill_then result and_then
laid_then g ended y = refl
laid_then g (put {width} v rest) y = rw (laid_then g rest y) (sym (append_assoc (bytes_of width v) (laid rest) (laid y)))

pub result_then : {f : Format} (g : ℕ → Format) (x : Filled f) (y : Filled (g (result x))) → result (fill_then g x y) ≡ result y
unfolding fill_then result and_then
result_then g ended y = refl
result_then g (put v rest) y = result_then g rest y

pub all_then : (P : ℕ → (ℕ → Bool) → ℕ → Type 0) {f : Format} (g : ℕ → Format) (x : Filled f) (y : Filled (g (result x)))
    → All P x → All P y → All P (fill_then g x y)
unfolding All fill_then result and_then
all_then P g ended y a b = b
all_then P g (put v rest) y a b = (a.0, all_then P g rest y a.1 b)

pub then_all : (P : ℕ → (ℕ → Bool) → ℕ → Type 0) {f : Format} (g : ℕ → Format) (x : Filled f) (y : Filled (g (result x)))
    → All P (fill_then g x y) → All P x × All P y
unfolding All fill_then result and_then
then_all P g ended y a = (tt, a)
then_all P g (put v rest) y a = let r = then_all P g rest y a.1 in ((a.0, r.0), r.1)

-- what is behind sound values is judged where they end
pub judged_then : {f : Format} (g : ℕ → Format) (x : Filled f) (y : Filled (g (result x))) (at : ℕ)
    → judged (fill_then g x y) at ≡ onward (judged x at) (λ v next. judged y next)
unfolding judged fill_then result and_then
judged_then g ended y at = refl
judged_then g (put {width} {number} {sound} v rest) y at =
    cases (sound v) (λ t. rw t (judged_then g rest y (at + width))) (λ t. rw t)

pub past_sound : {f : Format} (g : ℕ → Format) (x : Filled f) (y : Filled (g (result x))) → Sound x → (at : ℕ)
    → judged (fill_then g x y) at ≡ judged y (at + length (laid x))
past_sound g x y ok at = judged_then g x y at ∙ rw (judged_all x ok at)

-- a refusal stands, whatever is behind it
pub past_refused : {f : Format} (g : ℕ → Format) (x : Filled f) (y : Filled (g (result x))) (at number place : ℕ) → judged x at ≡ Refused number place
    → judged (fill_then g x y) at ≡ Refused number place
past_refused g x y at number place e = judged_then g x y at ∙ rw e

-- a list of filled formats: the next one
pub each_next {ℓ} : {A : Type ℓ} {f : Format} (g : A → Filled f) (a : A) (l : List A) (at : ℕ)
    → judged (each g (a ∷ l)) at ≡ onward (judged (g a) at) (λ v next. judged (each g l) next)
unfolding each times
each_next {f = f} g a l at = judged_then (λ v. times (length l) f) (g a) (each g l) at

-- and all of them
pub laid_each {ℓ} : {A : Type ℓ} {f : Format} (g : A → Filled f) (l : List A) → laid (each g l) ≡ joined (λ a. laid (g a)) l
unfolding each joined laid times
laid_each g [] = refl
laid_each {f = f} g (a ∷ l) = laid_then (λ v. times (length l) f) (g a) (each g l) ∙ ap (λ (m : List ℕ). laid (g a) ++ m) (laid_each g l)

pub result_each {ℓ} : {A : Type ℓ} {f : Format} (g : A → Filled f) (l : List A) → result (each g l) ≡ 0
unfolding each result times
result_each g [] = refl
result_each {f = f} g (a ∷ l) = result_then (λ v. times (length l) f) (g a) (each g l) ∙ result_each g l

pub all_each {ℓ} : (P : ℕ → (ℕ → Bool) → ℕ → Type 0) {A : Type ℓ} {f : Format} (g : A → Filled f) (l : List A)
    → Every (λ a. All P (g a)) l → All P (each g l)
unfolding each Every All times
all_each P g [] h = tt
all_each P {f = f} g (a ∷ l) h = all_then P (λ v. times (length l) f) (g a) (each g l) h.0 (all_each P g l h.1)
