-- Laws of refusals: asks that stand in the order of refusals are answered one by one, so the first that fails decides, and nothing is refused
-- exactly where every ask holds.
use mathlib.Core.Path.{◌≡◌, refl, ◌∙◌, sym}
use mathlib.Core.Bool.{Bool, true, false, not}
use mathlib.Core.List.{List, [], ◌∷◌, ◌++◌}
use Prim.Native.Nat.{ℕ, ◌<◌}
use native.Mathlib.Omega.{arith}
use lib.Dec.{eqb, ltb}
use borrow.Author.Tests.{eqb-true, ltb-true, not-true}
use Rattle.combine.specs.Tests.{both, either}
use Rattle.combine.proofs.Tests.{cases, never, both_left, both_right, both_false}
use Rattle.hall.specs.Refusals.{Ask, order, fails, first_failing, refusal, in_order}

pub ask_holds : (number : ℕ) (test : Bool) (asks : List Ask) → test ≡ true → in_order ((number, test) ∷ asks) ≡ in_order asks
unfolding in_order
ask_holds number test asks e = rw e

pub ask_fails : (number : ℕ) (test : Bool) (asks : List Ask) → test ≡ false → in_order ((number, test) ∷ asks) ≡ number
unfolding in_order
ask_fails number test asks e = rw e

-- each ask holds
abbrev pub Hold : List Ask → Type 0
Hold [] = Unit
Hold (ask ∷ asks) = (ask.1 ≡ true) × Hold asks

-- what holds of each ask's number
abbrev pub EachNumber : (ℕ → Type 0) → List Ask → Type 0
EachNumber P [] = Unit
EachNumber P (ask ∷ asks) = P ask.0 × EachNumber P asks

-- no ask has the number 0, which stands for no refusal
abbrev pub Numbered : List Ask → Type 0
Numbered = EachNumber (λ (number : ℕ). 0 < number)

pub hold_accepted : (asks : List Ask) → Hold asks → in_order asks ≡ 0
unfolding in_order
hold_accepted [] h = refl
hold_accepted (ask ∷ asks) h = ask_holds ask.0 ask.1 asks h.0 ∙ hold_accepted asks h.1

pub accepted_hold : (asks : List Ask) → Numbered asks → in_order asks ≡ 0 → Hold asks
accepted_hold [] n e = tt
accepted_hold (ask ∷ asks) n e =
    cases ask.1 (λ q. (q, accepted_hold asks n.1 (sym (ask_holds ask.0 ask.1 asks q) ∙ e)))
    (λ q. let z : ask.0 ≡ 0 = sym (ask_fails ask.0 ask.1 asks q) ∙ e in absurd (omega (arith, n.0)))

-- the first asks decide where they refuse
pub front_refuses : (front asks : List Ask) → (in_order front ≡ 0 → ⊥) → in_order (front ++ asks) ≡ in_order front
unfolding in_order
front_refuses [] asks h = absurd (h refl)
front_refuses (ask ∷ front) asks h =
    cases ask.1
    (λ q.
    ask_holds ask.0 ask.1 (front ++ asks) q
    ∙ front_refuses front asks (λ z. h (ask_holds ask.0 ask.1 front q ∙ z))
    ∙ sym (ask_holds ask.0 ask.1 front q))
    (λ q. ask_fails ask.0 ask.1 (front ++ asks) q ∙ sym (ask_fails ask.0 ask.1 front q))

-- and leave it to the others where they do not
pub front_holds : (front asks : List Ask) → Hold front → in_order (front ++ asks) ≡ in_order asks
front_holds [] asks h = refl
front_holds (ask ∷ front) asks h = ask_holds ask.0 ask.1 (front ++ asks) h.0 ∙ front_holds front asks h.1

-- a refusal is an ask's number or 0, so it has what they have
pub order_among : (P : ℕ → Type 0) (asks : List Ask) → P 0 → EachNumber P asks → P (in_order asks)
unfolding in_order
order_among P [] z n = z
order_among P (ask ∷ asks) z n = cases ask.1 (λ q. rw q (order_among P asks z n.1)) (λ q. rw q n.0)

-- the same tests, with other numbers
abbrev pub renumbered : (ℕ → ℕ) → List Ask → List Ask
renumbered f [] = []
renumbered f (ask ∷ asks) = (f ask.0, ask.1) ∷ renumbered f asks

-- refuse the same, by the other number
pub order_renumbered : (f : ℕ → ℕ) (asks : List Ask) → f 0 ≡ 0 → in_order (renumbered f asks) ≡ f (in_order asks)
unfolding in_order
order_renumbered f [] z = sym z
order_renumbered f (ask ∷ asks) z = cases ask.1 (λ q. rw q (order_renumbered f asks z)) (λ q. rw q)

-- an ask has this number
abbrev asked : ℕ → List Ask → Bool
asked number [] = false
asked number (ask ∷ asks) = either (eqb ask.0 number) (asked number asks)

-- it is one of these numbers, and no ask has one that stands before it
abbrev leads : ℕ → List ℕ → List Ask → Bool
leads number [] asks = false
leads number (first ∷ rest) asks = either (eqb number first) (both (not (asked first asks)) (leads number rest asks))

-- asks stand in the order of refusals, and none has the number 0
abbrev pub sorted : List Ask → Bool
sorted [] = true
sorted (ask ∷ asks) = both (both (ltb 0 ask.0) (leads ask.0 order asks)) (sorted asks)

-- what is not asked does not fail
not_asked : (number : ℕ) (asks : List Ask) → asked number asks ≡ false → fails number asks ≡ false
not_asked number [] e = refl
not_asked number (ask ∷ asks) e =
    cases (eqb ask.0 number)
    (λ q. let z : true ≡ false = rw q at e in never refl z)
    (λ q. rw q (not_asked number asks (rw q at e)))

-- an ask that holds refuses nothing
holds_passes : (number : ℕ) (asks : List Ask) (numbers : List ℕ) → first_failing numbers ((number, true) ∷ asks) ≡ first_failing numbers asks
holds_passes number asks [] = refl
holds_passes number asks (first ∷ rest) = rw (both_false (eqb number first) false refl, holds_passes number asks rest)

-- one that fails and stands first in the order is what is refused
fails_first : (number : ℕ) (asks : List Ask) (numbers : List ℕ) → leads number numbers asks ≡ true → first_failing numbers ((number, false) ∷ asks) ≡ number
fails_first number asks [] e = never e refl
fails_first number asks (first ∷ rest) e =
    cases (eqb number first)
    (λ q. rw q (sym (eqb-true number first q)))
    (λ q.
    let w : both (not (asked first asks)) (leads number rest asks) ≡ true = rw q at e in
    let a = not-true (asked first asks) (both_left (not (asked first asks)) (leads number rest asks) w) in
    rw (q, not_asked first asks a) (fails_first number asks rest (both_right (not (asked first asks)) (leads number rest asks) w)))

module _ (ask : Ask) (asks : List Ask) (s : sorted (ask ∷ asks) ≡ true) where
  first_sorted : both (ltb 0 ask.0) (leads ask.0 order asks) ≡ true
  first_sorted = both_left _ (sorted asks) s

  rest_sorted : sorted asks ≡ true
  rest_sorted = both_right (both (ltb 0 ask.0) (leads ask.0 order asks)) _ s

-- the order of refusals is the asks' own
pub refusal_in_order : (asks : List Ask) → sorted asks ≡ true → refusal asks ≡ in_order asks
unfolding refusal in_order
refusal_in_order [] s = refl
refusal_in_order (ask ∷ asks) s =
    cases ask.1
    (λ q. rw q (holds_passes ask.0 asks order ∙ refusal_in_order asks (rest_sorted ask asks s)))
    (λ q. rw q (fails_first ask.0 asks order (both_right (ltb 0 ask.0) _ (first_sorted ask asks s))))

-- the first ask decides, or leaves it to the others
module _ (ask : Ask) (asks : List Ask) (s : sorted (ask ∷ asks) ≡ true) where
  pub first_refuses : ask.1 ≡ false → refusal (ask ∷ asks) ≡ ask.0
  first_refuses q = refusal_in_order (ask ∷ asks) s ∙ ask_fails ask.0 ask.1 asks q

  pub first_passes : ask.1 ≡ true → refusal (ask ∷ asks) ≡ refusal asks
  first_passes q = refusal_in_order (ask ∷ asks) s ∙ ask_holds ask.0 ask.1 asks q ∙ sym (refusal_in_order asks (rest_sorted ask asks s))

sorted_numbered : (asks : List Ask) → sorted asks ≡ true → Numbered asks
sorted_numbered [] s = tt
sorted_numbered (ask ∷ asks) s =
    (ltb-true 0 ask.0 (both_left _ (leads ask.0 order asks) (first_sorted ask asks s)), sorted_numbered asks (rest_sorted ask asks s))

-- nothing is refused where every ask holds, and only there
pub hold_unrefused : (asks : List Ask) → sorted asks ≡ true → Hold asks → refusal asks ≡ 0
hold_unrefused asks s h = refusal_in_order asks s ∙ hold_accepted asks h

pub unrefused_hold : (asks : List Ask) → sorted asks ≡ true → refusal asks ≡ 0 → Hold asks
unrefused_hold asks s e = accepted_hold asks (sorted_numbered asks s) (sym (refusal_in_order asks s) ∙ e)

module _ (front asks : List Ask) (s : sorted front ≡ true) (w : sorted (front ++ asks) ≡ true) where
  -- what the first asks refuse is refused with the later ones too
  pub refused_before : (r : ℕ) → r ≡ refusal front → (r ≡ 0 → ⊥) → r ≡ refusal (front ++ asks)
  refused_before r e d =
      let i = e ∙ refusal_in_order front s in
      i ∙ sym (refusal_in_order (front ++ asks) w ∙ front_refuses front asks (λ z. d (i ∙ z)))

  -- and where they refuse nothing the later ones decide
  pub decided_after : refusal front ≡ 0 → refusal (front ++ asks) ≡ in_order asks
  decided_after z = refusal_in_order (front ++ asks) w ∙ front_holds front asks (unrefused_hold front s z)
