-- Laws that a round's loop cites: a round may write where it reads, since what it writes is not yet reached for it; it leaves
-- alone what stands behind the servers.
use mathlib.Core.Path.{◌≡◌, refl, ◌∙◌, ap, sym}
use mathlib.Core.Bool.{Bool, true, false}
use mathlib.Core.List.{List, [], ◌++◌, append-nil}
use Prim.Native.Nat.{ℕ, zero, suc, ◌+◌, ◌-◌, ◌≤◌, ◌<◌}
use native.Mathlib.Numerals.{add-one}
use native.Mathlib.Omega.{arith}
use lib.Dec.{leb, ltb}
use lib.ListN.{length, get_or, drop, set, replicate, length-set, length-replicate, replicate-append-replicate, drop_of_length-le, get_or-append}
use lib.Seq.{drop_at, set-append_left}
use borrow.Author.Tests.{eqb-true, lt-leb, ltb-true, ltb-false}
use Rattle.combine.specs.Tests.{both, any_below}
use Rattle.combine.specs.Lists.{up_to}
use Rattle.combine.proofs.Tests.{cases, both_left, any_cong, any_each}
use Rattle.combine.proofs.Lists.{length_up, up_to_cong, up_none, up_same}
use Rattle.search.specs.Rounds.{leads, new, mark, round, start, marks}
use Rattle.search.proofs.Filled.{filled_front, filled_behind}

module _ (adj : ℕ → ℕ → Bool) (n none : ℕ) where
  pub mark_new : (r : ℕ) (old : List ℕ) (x : ℕ) → new adj n none r old x ≡ true → mark adj n none r old x ≡ r + 1
  unfolding mark
  mark_new r old x e = rw e

  pub mark_old : (r : ℕ) (old : List ℕ) (x : ℕ) → new adj n none r old x ≡ false → mark adj n none r old x ≡ get_or old x 0
  unfolding mark
  mark_old r old x e = rw e

  -- who is new is not reached
  pub new_none : (r : ℕ) (old : List ℕ) (x : ℕ) → new adj n none r old x ≡ true → get_or old x 0 ≡ none
  unfolding new
  new_none r old x e = eqb-true (get_or old x 0) none (both_left _ _ e)

  pub length-round : (r : ℕ) (old : List ℕ) → n ≤ length old → length (round adj n none r old) ≡ length old
  length-round r old h = length_up (mark adj n none r old) old n h

  pub round_at : (r : ℕ) (old : List ℕ) (x : ℕ) → x < n → get_or (round adj n none r old) x 0 ≡ mark adj n none r old x
  round_at r old x h = filled_front (mark adj n none r old) old n x h

  pub length-marks : (o r : ℕ) → length (marks adj n none o r) ≡ n
  unfolding marks
  length-marks o zero = length-set {A = ℕ} (replicate n none) o 0 ∙ length-replicate {A = ℕ} n none
  length-marks o (suc r) = length-round r (marks adj n none o r) (omega (arith, length-marks o r)) ∙ length-marks o r

  pub marks_start : (o : ℕ) → marks adj n none o 0 ≡ start n none o
  unfolding marks
  marks_start o = refl

  pub marks_more : (o r : ℕ) → marks adj n none o (r + 1) ≡ round adj n none r (marks adj n none o r)
  unfolding marks
  marks_more o r = rw (add-one r)

  -- what the marks say of the servers below n is all that a round goes by
  pub new_cong : (r : ℕ) (a b : List ℕ) (x : ℕ) → get_or a x 0 ≡ get_or b x 0 → ((y : ℕ) → y < n → leb (get_or a y 0) r ≡ leb (get_or b y 0) r)
      → new adj n none r a x ≡ new adj n none r b x
  unfolding new
  new_cong r a b x e same = rw (e, any_cong (leads adj r a x) (leads adj r b x) n (λ y h. ap (λ (k : Bool). both k (adj y x)) (same y h)))

  -- in place: the marks filled up to x read as the old ones do
  module _ (r : ℕ) (old : List ℕ) (small : r < none) where
    pub in_place_reads : (x y : ℕ) → leb (get_or (up_to (mark adj n none r old) x ++ drop x old) y 0) r ≡ leb (get_or old y 0) r
    in_place_reads x y =
        cases (ltb y x)
        (λ h. ap (λ (k : ℕ). leb k r) (filled_front (mark adj n none r old) old x y (ltb-true y x h)) ∙ written)
        (λ h. ap (λ (k : ℕ). leb k r) (filled_behind (mark adj n none r old) old x y (ltb-false y x h)))
      where
        written : leb (mark adj n none r old y) r ≡ leb (get_or old y 0) r
        written =
            cases (new adj n none r old y)
            (λ e. rw (mark_new r old y e, new_none r old y e, lt-leb (r + 1) r (omega arith)) (sym (lt-leb none r small)))
            (λ e. ap (λ (k : ℕ). leb k r) (mark_old r old y e))

    pub in_place_old : (x : ℕ) → get_or (up_to (mark adj n none r old) x ++ drop x old) x 0 ≡ get_or old x 0
    in_place_old x = filled_behind (mark adj n none r old) old x x (omega arith)

    pub in_place_new : (x : ℕ) → new adj n none r (up_to (mark adj n none r old) x ++ drop x old) x ≡ new adj n none r old x
    in_place_new x = new_cong r (up_to (mark adj n none r old) x ++ drop x old) old x (in_place_old x) (λ y h. in_place_reads x y)

  -- a list with more behind the n servers
  module _ (old tail : List ℕ) (long : length old ≡ n) where
    tail_at : (y : ℕ) → y < n → get_or (old ++ tail) y 0 ≡ get_or old y 0
    tail_at y h = get_or-append old tail 0 y (omega arith)

    pub tail_new : (r x : ℕ) → x < n → new adj n none r (old ++ tail) x ≡ new adj n none r old x
    tail_new r x h = new_cong r (old ++ tail) old x (tail_at x h) (λ y i. ap (λ (k : ℕ). leb k r) (tail_at y i))

    tail_mark : (r x : ℕ) → x < n → mark adj n none r (old ++ tail) x ≡ mark adj n none r old x
    unfolding mark
    tail_mark r x h = rw (tail_new r x h, tail_at x h)

    pub tail_round : (r : ℕ) → round adj n none r (old ++ tail) ≡ round adj n none r old ++ tail
    tail_round r =
        let a : up_to (mark adj n none r (old ++ tail)) n ≡ up_to (mark adj n none r old) n = up_to_cong _ _ n (λ x h. tail_mark r x h) in
        let b : drop n (old ++ tail) ≡ tail = drop_at old tail n long in
        let c : drop n old ≡ [] = drop_all in
        rw (a, b, c) (ap (λ (l : List ℕ). l ++ tail) (sym (append-nil (up_to (mark adj n none r old) n))))
      where
        drop_all : drop n old ≡ []
        drop_all = drop_of_length-le old {i = n} (omega arith)

    pub tail_any : (r : ℕ) → any_below (new adj n none r (old ++ tail)) n ≡ any_below (new adj n none r old) n
    tail_any r = any_cong _ _ n (λ x h. tail_new r x h)

  -- before the first round, with more places than servers
  pub start_tail : (size o : ℕ) → o < n → n ≤ size → start size none o ≡ start n none o ++ replicate (size - n) none
  start_tail size o h i =
      let e : n + (size - n) ≡ size = omega arith in
      ap (λ (k : ℕ). set (replicate k none) o 0) (sym e)
      ∙ ap (λ (l : List ℕ). set l o 0) (sym (replicate-append-replicate {A = ℕ} n (size - n) none))
      ∙ set-append_left {A = ℕ} (replicate n none) (replicate (size - n) none) o 0 (omega (arith, length-replicate {A = ℕ} n none))

  -- a round in which nobody is new changes nothing
  pub round_still : (r : ℕ) (old : List ℕ) → n ≤ length old → any_below (new adj n none r old) n ≡ false → round adj n none r old ≡ old
  round_still r old long none-new = sym (go n (omega arith))
    where
      go : (x : ℕ) → x ≤ n → old ≡ up_to (mark adj n none r old) x ++ drop x old
      go zero h = up_none _ old
      go (suc x) h =
          let e : x + 1 ≡ suc x = add-one x in
          go x (omega arith)
          ∙ up_same (mark adj n none r old) old x (omega arith) (mark_old r old x (any_each (new adj n none r old) n none-new x (omega arith)))
          ∙ rw e
