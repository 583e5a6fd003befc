-- A round that writes where it reads, server by server or switch by switch: the marks filled up to a place are as far on as the old ones
-- there, and filling them on fills the old ones on.
use mathlib.Core.Path.{◌≡◌, ◌∙◌, ap, sym}
use mathlib.Core.Bool.{Bool, true, false}
use mathlib.Core.List.{List, ◌++◌}
use Prim.Native.Nat.{ℕ, suc, ◌+◌, ◌-◌, ◌≤◌, ◌<◌}
use native.Mathlib.Omega.{arith}
use lib.Dec.{ltb}
use lib.ListN.{length, get_or, drop, set}
use lib.Seq.{drop-append-add, drop-drop}
use borrow.Author.Tests.{ltb-true, ltb-false, ne_eqb}
use Rattle.combine.specs.Tests.{either, any_below}
use Rattle.combine.specs.Lists.{up_to}
use Rattle.combine.proofs.Tests.{cases, never, both_ways, either_cases, either_true, any_some, any_in, any_miss}
use Rattle.combine.proofs.Lists.{length-up_to, up_to_cong, up_more, up_same}
use Rattle.search.specs.Rounds.{new, mark}
use Rattle.search.proofs.Filled.{filled_front, filled_behind}
use Rattle.search.proofs.Rounds.{mark_new, mark_old, new_cong, in_place_reads, in_place_new}

-- the marks filled up to x
abbrev pub filled : (ℕ → ℕ → Bool) → ℕ → ℕ → ℕ → List ℕ → ℕ → List ℕ
filled adj n none r old x = up_to (mark adj n none r old) x ++ drop x old

module _ (adj : ℕ → ℕ → Bool) (n none r : ℕ) (old : List ℕ) where
  -- the next server: new, and not
  module _ (small : r < none) (x : ℕ) (now : List ℕ) (o : Bool) (holds : now ≡ filled adj n none r old x) (says : o ≡ new adj n none r now x) (l : x < length old) where
    says_old : o ≡ new adj n none r old x
    says_old = says ∙ ap (λ (d : List ℕ). new adj n none r d x) holds ∙ in_place_new adj n none r old small x

    pub fill_new : o ≡ true → set now x (r + 1) ≡ filled adj n none r old (x + 1)
    fill_new e =
        ap (λ (d : List ℕ). set d x (r + 1)) holds
        ∙ ap (λ (k : ℕ). set (filled adj n none r old x) x k) (sym (mark_new adj n none r old x (sym says_old ∙ e)))
        ∙ up_more (mark adj n none r old) old x l

    pub fill_old : o ≡ false → now ≡ filled adj n none r old (x + 1)
    fill_old e = holds ∙ up_same (mark adj n none r old) old x l (mark_old adj n none r old x (sym says_old ∙ e))

    -- whether anybody is new so far, or was before
    pub any_new : (a : Bool) → o ≡ true → true ≡ either a (any_below (new adj n none r old) (x + 1))
    any_new a e = rw (any_in (new adj n none r old) (x + 1) x (omega arith) (sym says_old ∙ e)) (sym (either_true a))

    pub any_old : (a b : Bool) → b ≡ either a (any_below (new adj n none r old) x) → o ≡ false → b ≡ either a (any_below (new adj n none r old) (x + 1))
    any_old a b q e = q ∙ ap (λ (k : Bool). either a k) (any_miss (new adj n none r old) x (sym says_old ∙ e))

  -- from the marks filled up to x on
  module _ (small : suc r < none) (x : ℕ) where
    later : (y : ℕ) → x ≤ y → new adj n none r (filled adj n none r old x) y ≡ new adj n none r old y
    later y h =
        new_cong adj n none r (filled adj n none r old x) old y (filled_behind (mark adj n none r old) old x y h)
        (λ z i. in_place_reads adj n none r old (omega arith) x z)

    -- who is filled is not new again
    done : (y : ℕ) → y < x → new adj n none r (filled adj n none r old x) y ≡ false
    unfolding new
    done y h =
        cases (new adj n none r old y)
        (λ e.
        let q : get_or (filled adj n none r old x) y 0 ≡ r + 1 = filled_front (mark adj n none r old) old x y h ∙ mark_new adj n none r old y e in
        rw (ne_eqb (get_or (filled adj n none r old x) y 0) none (λ (z : get_or (filled adj n none r old x) y 0 ≡ none). omega arith)))
        (λ e.
        new_cong adj n none r (filled adj n none r old x) old y (filled_front (mark adj n none r old) old x y h ∙ mark_old adj n none r old y e)
        (λ z i. in_place_reads adj n none r old (omega arith) x z)
        ∙ e)

    pub none_again : any_below (new adj n none r (filled adj n none r old x)) x ≡ false
    none_again =
        cases (any_below (new adj n none r (filled adj n none r old x)) x)
        (λ q. let k = any_some (new adj n none r (filled adj n none r old x)) x q in never k.2 (done k.0 k.1))
        (λ q. q)

    mark_again : (y : ℕ) → mark adj n none r (filled adj n none r old x) y ≡ mark adj n none r old y
    unfolding mark
    mark_again y =
        cases (ltb y x)
        (λ q. let h = ltb-true y x q in mark_old adj n none r (filled adj n none r old x) y (done y h) ∙ filled_front (mark adj n none r old) old x y h)
        (λ q. let h = ltb-false y x q in rw (later y h, filled_behind (mark adj n none r old) old x y h))

    pub fill_on : (z : ℕ) → x ≤ z → filled adj n none r (filled adj n none r old x) z ≡ filled adj n none r old z
    fill_on z h =
        let a : up_to (mark adj n none r (filled adj n none r old x)) z ≡ up_to (mark adj n none r old) z = up_to_cong _ _ z (λ y i. mark_again y) in
        let e : length (up_to (mark adj n none r old) x) + (z - x) ≡ z = omega (arith, length-up_to (mark adj n none r old) x) in
        let k : x + (z - x) ≡ z = omega arith in
        let b : drop z (filled adj n none r old x) ≡ drop z old =
        ap (λ (i : ℕ). drop i (filled adj n none r old x)) (sym e)
        ∙ drop-append-add (up_to (mark adj n none r old) x) (drop x old) (z - x)
        ∙ drop-drop (z - x) x old
        ∙ ap (λ (i : ℕ). drop i old) k in
        rw (a, b)

    pub any_on : (z : ℕ) → x ≤ z
        → either (any_below (new adj n none r old) x) (any_below (new adj n none r (filled adj n none r old x)) z) ≡ any_below (new adj n none r old) z
    any_on z h =
        both_ways _ _
        (λ e.
        either_cases (any_below (new adj n none r old) x) (any_below (new adj n none r (filled adj n none r old x)) z) e
        (λ q. let k = any_some (new adj n none r old) x q in any_in (new adj n none r old) z k.0 (omega (arith, k.1)) k.2)
        (λ q.
        let k = any_some (new adj n none r (filled adj n none r old x)) z q in
        cases (ltb k.0 x)
        (λ l. never k.2 (done k.0 (ltb-true k.0 x l)))
        (λ l. any_in (new adj n none r old) z k.0 k.1 (sym (later k.0 (ltb-false k.0 x l)) ∙ k.2))))
        (λ e.
        let k = any_some (new adj n none r old) z e in
        cases (ltb k.0 x)
        (λ l. rw (any_in (new adj n none r old) x k.0 (ltb-true k.0 x l) k.2))
        (λ l.
        rw (any_in (new adj n none r (filled adj n none r old x)) z k.0 k.1 (later k.0 (ltb-false k.0 x l) ∙ k.2))
        (either_true (any_below (new adj n none r old) x))))
