-- Laws of sweeps: a sweep changes no answer to "who is reached before round r", so a sweep behind another is one sweep that reaches who
-- passes either test; and a sweep whose test is that of a round is the round.
use mathlib.Core.Path.{◌≡◌, refl, sym, ◌∙◌, ap}
use mathlib.Core.Bool.{Bool, true, false, ◌||◌}
use mathlib.Core.List.{List}
use Prim.Native.Nat.{ℕ, ◌+◌, ◌≤◌, ◌<◌}
use native.Mathlib.Omega.{arith}
use lib.Dec.{eqb, leb, ltb}
use lib.ListN.{length, get_or, set, length-set, get_or-eq_default}
use lib.Seq.{get_or-set_same, get_or-set_other}
use borrow.Author.Tests.{eqb-true, eqb-false, eq-eqb, ne_eqb, ltb-true, ltb-false, lt-ltb, le-ltb, lt-leb}
use Rattle.combine.specs.Tests.{pick, both, either, any_below}
use Rattle.combine.proofs.Tests.{cases, never, both_ways, both_left, both_right, both_true, both_false, both_either, either_left, either_right, either_cases, any_in, any_some, any_cong}
use Rattle.broadcast.specs.Broadcasts.{none}
use Rattle.broadcast.specs.Sweeps.{fresh, swept, Sweep}

module _ (q : ℕ → Bool) (r : ℕ) (old : List ℕ) where
  pub swept_new : (x : ℕ) → fresh q old x ≡ true → swept q r old x ≡ r + 1
  unfolding swept
  swept_new x e = rw e

  pub swept_old : (x : ℕ) → fresh q old x ≡ false → swept q r old x ≡ get_or old x 0
  unfolding swept
  swept_old x e = rw e

  pub fresh_none : (x : ℕ) → fresh q old x ≡ true → get_or old x 0 ≡ none
  unfolding fresh
  fresh_none x e = eqb-true (get_or old x 0) none (both_left (eqb (get_or old x 0) none) (q x) e)

  pub fresh_passes : (x : ℕ) → fresh q old x ≡ true → q x ≡ true
  unfolding fresh
  fresh_passes x e = both_right (eqb (get_or old x 0) none) (q x) e

  pub passes_fresh : (x : ℕ) → get_or old x 0 ≡ none → q x ≡ true → fresh q old x ≡ true
  unfolding fresh
  passes_fresh x e p = both_true (eqb (get_or old x 0) none) (q x) (eq-eqb (get_or old x 0) none e) p

  -- who is not in the room is not fresh
  pub fresh_inside : (x : ℕ) → fresh q old x ≡ true → x < length old
  fresh_inside x e =
      cases (ltb x (length old))
      (λ b. ltb-true x (length old) b)
      (λ b.
      let z : get_or old x 0 ≡ 0 = get_or-eq_default {A = ℕ} old 0 (ltb-false x (length old) b) in
      let w : 65535 ≡ 0 = sym (fresh_none x e) ∙ z in
      absurd (omega arith))

  -- nobody is fresh: the sweep is done as it starts
  pub sweep_none : ((x : ℕ) → fresh q old x ≡ false) → Sweep q r old old false
  sweep_none f = record {
    long = refl;
    each = λ x. sym (swept_old x (f x));
    told = sym (cases (any_below (fresh q old) (length old))
        (λ e. let k = any_some (fresh q old) (length old) e in never k.2 (f k.0))
        (λ e. e));
  }

  -- a sweep changes no answer to "who is reached before round r"
  pub sweep_reads : (room : List ℕ) (any : Bool) → r < none → Sweep q r old room any → (y : ℕ) → leb (get_or room y 0) r ≡ leb (get_or old y 0) r
  sweep_reads room any small s y =
      cases (fresh q old y)
      (λ e. rw (s.each y, swept_new y e, fresh_none y e, lt-leb (r + 1) r (omega arith)) (sym (lt-leb none r small)))
      (λ e. rw (s.each y, swept_old y e))

-- two tests of which the same are fresh
pub sweep_cong : (q p : ℕ → Bool) (r : ℕ) (old room : List ℕ) (any : Bool) → ((x : ℕ) → fresh q old x ≡ fresh p old x) → Sweep q r old room any → Sweep p r old room any
unfolding swept
sweep_cong q p r old room any f s = record {
  long = s.long;
  each = λ x. s.each x ∙ ap (λ (b : Bool). pick b (r + 1) (get_or old x 0)) (f x);
  told = s.told ∙ any_cong (fresh q old) (fresh p old) (length old) (λ x h. f x);
}

-- tests that agree below
pub fresh_cong : (q p : ℕ → Bool) (old : List ℕ) → ((x : ℕ) → q x ≡ p x) → (x : ℕ) → fresh q old x ≡ fresh p old x
unfolding fresh
fresh_cong q p old f x = ap (λ (b : Bool). both (eqb (get_or old x 0) none) b) (f x)

any_either : (p q : ℕ → Bool) (n : ℕ) → any_below (λ x. either (p x) (q x)) n ≡ either (any_below p n) (any_below q n)
any_either p q n =
    both_ways (any_below (λ x. either (p x) (q x)) n) (either (any_below p n) (any_below q n))
    (λ e. let k = any_some (λ x. either (p x) (q x)) n e in
    either_cases (p k.0) (q k.0) k.2
    (λ w. either_left (any_below p n) (any_below q n) (any_in p n k.0 k.1 w))
    (λ w. either_right (any_below p n) (any_below q n) (any_in q n k.0 k.1 w)))
    (λ e. either_cases (any_below p n) (any_below q n) e
    (λ w. let k = any_some p n w in any_in (λ x. either (p x) (q x)) n k.0 k.1 (either_left (p k.0) (q k.0) k.2))
    (λ w. let k = any_some q n w in any_in (λ x. either (p x) (q x)) n k.0 k.1 (either_right (p k.0) (q k.0) k.2)))

fresh_either : (q p : ℕ → Bool) (old : List ℕ) (x : ℕ) → fresh (λ y. either (q y) (p y)) old x ≡ either (fresh q old x) (fresh p old x)
unfolding fresh
fresh_either q p old x = both_either (eqb (get_or old x 0) none) (q x) (p x)

-- a sweep behind another is one sweep
module _ (q p : ℕ → Bool) (r : ℕ) (old mid room : List ℕ) (a b : Bool) (small : r + 1 < none) (s : Sweep q r old mid a) (z : Sweep p r mid room b) where
  -- who is fresh in the second was not reached by the first
  later_fresh : (x : ℕ) → fresh q old x ≡ false → fresh p mid x ≡ fresh p old x
  unfolding fresh
  later_fresh x e = ap (λ (k : ℕ). both (eqb k none) (p x)) (s.each x ∙ swept_old q r old x e)

  later_not : (x : ℕ) → fresh q old x ≡ true → fresh p mid x ≡ false
  unfolding fresh
  later_not x e =
      let w : get_or mid x 0 ≡ r + 1 = s.each x ∙ swept_new q r old x e in
      rw (w, ne_eqb (r + 1) none (λ k. omega arith))

  both_fresh : (x : ℕ) → fresh (λ y. either (q y) (p y)) old x ≡ either (fresh q old x) (fresh p mid x)
  both_fresh x =
      fresh_either q p old x
      ∙ cases (fresh q old x)
      (λ e. rw e)
      (λ e. rw (e, later_fresh x e))

  then_each : (x : ℕ) → get_or room x 0 ≡ swept (λ y. either (q y) (p y)) r old x
  then_each x =
      cases (fresh q old x)
      (λ e.
      z.each x ∙ swept_old p r mid x (later_not x e) ∙ s.each x ∙ swept_new q r old x e
      ∙ sym (swept_new (λ y. either (q y) (p y)) r old x (both_fresh x ∙ rw e)))
      (λ e. cases (fresh p mid x)
      (λ f. z.each x ∙ swept_new p r mid x f ∙ sym (swept_new (λ y. either (q y) (p y)) r old x (both_fresh x ∙ rw (e, f))))
      (λ f. z.each x ∙ swept_old p r mid x f ∙ s.each x ∙ swept_old q r old x e ∙ sym (swept_old (λ y. either (q y) (p y)) r old x (both_fresh x ∙ rw (e, f)))))

  pub sweep_then : Sweep (λ x. either (q x) (p x)) r old room (either a b)
  sweep_then = record {
    long = z.long ∙ s.long;
    each = then_each;
    told = then_told;
  }
    where
      then_told : either a b ≡ any_below (fresh (λ y. either (q y) (p y)) old) (length old)
      then_told =
          ap (λ (k : Bool). either k b) s.told
          ∙ ap (λ (k : Bool). either (any_below (fresh q old) (length old)) k) (z.told ∙ ap (λ (k : ℕ). any_below (fresh p mid) k) s.long)
          ∙ sym (any_either (fresh q old) (fresh p mid) (length old))
          ∙ sym (any_cong (fresh (λ y. either (q y) (p y)) old) (λ x. either (fresh q old x) (fresh p mid x)) (length old) (λ x h. both_fresh x))

-- the test q of those below x alone, which a loop has come to
abbrev pub below : (ℕ → Bool) → ℕ → ℕ → Bool
below q bound x = both (ltb x bound) (q x)

below_other : (q : ℕ → Bool) (b x : ℕ) → (x ≡ b → ⊥) → below q b x ≡ below q (b + 1) x
below_other q b x ne =
    ap (λ (k : Bool). both k (q x))
    (cases (ltb x b)
    (λ e. e ∙ sym (lt-ltb x (b + 1) (omega (arith, ltb-true x b e))))
    (λ e. e ∙ sym (le-ltb x (b + 1) (let h = ltb-false x b e in past x b h ne))))
  where
    past : (x b : ℕ) → b ≤ x → (x ≡ b → ⊥) → b + 1 ≤ x
    past x b h ne = cases (ltb b x) (λ e. let l = ltb-true b x e in omega arith) (λ e. let l = ltb-false b x e in absurd (ne (omega arith)))

fresh_below : (q : ℕ → Bool) (old : List ℕ) (b : ℕ) → fresh (below q (b + 1)) old b ≡ fresh q old b
unfolding fresh
fresh_below q old b = rw (lt-ltb b (b + 1) (omega arith))

fresh_not_below : (q : ℕ → Bool) (old : List ℕ) (b : ℕ) → fresh (below q b) old b ≡ false
unfolding fresh
fresh_not_below q old b = rw (le-ltb b b (omega arith)) (both_false (eqb (get_or old b 0) none) false refl)

fresh_other : (q : ℕ → Bool) (old : List ℕ) (b x : ℕ) → (x ≡ b → ⊥) → fresh (below q b) old x ≡ fresh (below q (b + 1)) old x
unfolding fresh
fresh_other q old b x ne = ap (λ (k : Bool). both (eqb (get_or old x 0) none) k) (below_other q b x ne)

-- a loop's sweep comes to x + 1: x gets the number where it is fresh, else nothing changes
module _ (q : ℕ → Bool) (r : ℕ) (old room : List ℕ) (any : Bool) (b : ℕ) (s : Sweep (below q b) r old room any) where
  pub sweep_skip : fresh q old b ≡ false → Sweep (below q (b + 1)) r old room any
  sweep_skip e =
      sweep_cong (below q b) (below q (b + 1)) r old room any
      (λ x. cases (eqb x b)
      (λ w. let g = eqb-true x b w in rw g (fresh_not_below q old b ∙ sym (fresh_below q old b ∙ e)))
      (λ w. fresh_other q old b x (eqb-false x b w))) s

  pub sweep_store : fresh q old b ≡ true → Sweep (below q (b + 1)) r old (set room b (r + 1)) true
  sweep_store e = record {
    long = length-set {A = ℕ} room b (r + 1) ∙ s.long;
    each = store_each;
    told = sym (any_in (fresh (below q (b + 1)) old) (length old) b (fresh_inside q r old b e) (fresh_below q old b ∙ e));
  }
    where
      store_each : (x : ℕ) → get_or (set room b (r + 1)) x 0 ≡ swept (below q (b + 1)) r old x
      store_each x =
          cases (eqb x b)
          (λ w.
          let g = eqb-true x b w in
          let l : b < length room = omega (arith, s.long, fresh_inside q r old b e) in
          rw g (get_or-set_same {A = ℕ} room b (r + 1) 0 l ∙ sym (swept_new (below q (b + 1)) r old b (fresh_below q old b ∙ e))))
          (λ w.
          let g = eqb-false x b w in
          get_or-set_other {A = ℕ} room b x (r + 1) 0 g ∙ s.each x ∙ swept_other x g)
        where
          swept_other : (x : ℕ) → (x ≡ b → ⊥) → swept (below q b) r old x ≡ swept (below q (b + 1)) r old x
          swept_other x g =
              cases (fresh (below q b) old x)
              (λ f. swept_new (below q b) r old x f ∙ sym (swept_new (below q (b + 1)) r old x (sym (fresh_other q old b x g) ∙ f)))
              (λ f. swept_old (below q b) r old x f ∙ sym (swept_old (below q (b + 1)) r old x (sym (fresh_other q old b x g) ∙ f)))

-- the loop's test at x reads what the sweep has left
pub fresh_now : (q : ℕ → Bool) (r : ℕ) (old room : List ℕ) (any : Bool) (b : ℕ) (p : ℕ → Bool) → Sweep (below q b) r old room any → fresh p room b ≡ fresh p old b
unfolding fresh
fresh_now q r old room any b p s = ap (λ (k : ℕ). both (eqb k none) (p b)) (s.each b ∙ swept_old (below q b) r old b (fresh_not_below q old b))

-- what the code joins by `|` is joined by `either`
pub or_either : (a b : Bool) → (a || b) ≡ either a b
or_either true b = refl
or_either false b = refl
