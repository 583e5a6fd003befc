-- The paper's procedure gives the prefixes of the closed form, and what is fitted after c additions are those of rank below c. Over the level.
use mathlib.Core.Path.{◌≡◌, refl, sym, ◌∙◌, ap, ap₂}
use mathlib.Core.Logic.{◌↔◌}
use mathlib.Core.Bool.{Bool, true, false, true≢false, ◌&&◌}
use mathlib.Core.List.{List, [], ◌∷◌, ◌++◌, map}
use Prim.Native.Nat.{ℕ, zero, suc, ◌+◌, ◌<◌, ◌≤◌}
use native.Mathlib.Nat.{div-one, mul-le-mul_right}
use native.Mathlib.Omega.{arith}
use lib.Dec.{eqb, ltb}
use lib.ListN.{length, get_or, length-map, length-append}
use borrow.Author.Tests.{ltb-true, ltb-false, lt-ltb, le-ltb}
use Rattle.hall.specs.Cells.{t}
use Rattle.combine.proofs.Tests.{cases}
use Rattle.hall.proofs.Growth.{t_up}
use Rattle.hall.specs.Halls.{racks}
use Rattle.plan.specs.Plan.{index, inside, before, place, IsPrefix, rank}
use Rattle.plan.specs.Adding.{Fitted, total, all_of, first_not, put, passes, size, full, get_index, add, after, has}
use Rattle.plan.proofs.Index.{before_high, phases, low, high}
use Rattle.hall.proofs.Racks.{racks_pos}
use Rattle.plan.proofs.Place.{place_fits, place_rank, rank_place}
use Rattle.plan.proofs.Run.{choice, bump, run, run_suc, choose, choice_choose, found, counted, ltb_suc, bounded}

module _ {A : Type 0} where
  total_append : (f : A → ℕ) (s r : List A) → total f (s ++ r) ≡ total f s + total f r
  unfolding total
  total_append f [] r = omega arith
  total_append f (a ∷ s) r = omega (arith, total_append f s r)

  total_put : (f : List A → ℕ) → f [] ≡ 0 → (s : List (List A)) (i : ℕ) (x : List A) → f x ≡ suc (f (get_or s i [])) → total f (put s i x) ≡ suc (total f s)
  unfolding total put
  total_put f z [] i x e = omega arith
  total_put f z (a ∷ s) zero x e = omega arith
  total_put f z (a ∷ s) (suc i) x e = omega (arith, total_put f z s i x e)

  -- lists that are numbered by ks
  module _ (f : ℕ → A) where
    all_map : (p : A → Bool) (q : ℕ → Bool) → ((k : ℕ) → p (f k) ≡ q k) → (ks : List ℕ) → all_of p (map f ks) ≡ all_of q ks
    unfolding all_of
    all_map p q h [] = refl
    all_map p q h (k ∷ ks) = ap₂ ◌&&◌ (h k) (all_map p q h ks)

    first_map : (p : A → Bool) (q : ℕ → Bool) → ((k : ℕ) → p (f k) ≡ q k) → (ks : List ℕ) → first_not p (map f ks) ≡ first_not q ks
    unfolding first_not
    first_map p q h [] = refl
    first_map p q h (k ∷ ks) = let ih = first_map p q h ks in
        cases (q k) (λ e. rw (h k, e, first_not) (ap suc ih)) (λ e. rw (h k, e, first_not))

    get_d_map : (ks : List ℕ) (i : ℕ) → get_or (map f ks) i (f 0) ≡ f (get_or ks i 0)
    get_d_map [] i = refl
    get_d_map (k ∷ ks) zero = refl
    get_d_map (k ∷ ks) (suc i) = get_d_map ks i

    put_map : (ks : List ℕ) (i : ℕ) → put (map f ks) i (f (suc (get_or ks i 0))) ≡ map f (bump ks i)
    unfolding put bump
    put_map [] i = refl
    put_map (k ∷ ks) zero = refl
    put_map (k ∷ ks) (suc i) = ap (λ (r : List A). f k ∷ r) (put_map ks i)

    passes_map : (p : A → Bool) (x : ℕ) → ((k : ℕ) → p (f k) ≡ ltb x k) → (ks : List ℕ) (i : ℕ) → passes p (map f ks) i ≡ ltb x (get_or ks i 0)
    unfolding passes
    passes_map p x h [] i = sym (le-ltb x 0 (omega arith))
    passes_map p x h (k ∷ ks) zero = h k
    passes_map p x h (k ∷ ks) (suc i) = passes_map p x h ks i

module _ (n : ℕ) where
  -- one addition adds one
  size_add : (m : ℕ) (s : List (Fitted m)) → size (suc m) (add n m s).1 ≡ suc (size (suc m) s)
  unfolding size add
  size_add zero s = total_append (size zero) s (tt ∷ []) ∙ unfold total in (omega arith)
  size_add (suc m) s = total_put (size (suc m)) (unfold total in refl) s (get_index n (suc m) s) (add n m (get_or s (get_index n (suc m) s) [])).1 (size_add m (get_or s (get_index n (suc m) s) []))

  pub size_after : (m c : ℕ) → size (suc m) (after n m c) ≡ c
  unfolding after
  size_after m zero = unfold size total in refl
  size_after m (suc c) = size_add m (after n m c) ∙ ap suc (size_after m c)

  -- each sub-cell is what its own count of additions makes it
  index_choose : (m : ℕ) (s : List (Fitted m)) → get_index n m s ≡ choose (t n 1 + 1) (length s) (all_of (full n m) s) (first_not (full n m) s)
  unfolding get_index choose
  index_choose m s = refl

  index_run : (m : ℕ) (ks : List ℕ) → get_index n (suc m) (map (after n m) ks) ≡ choice (t n 1 + 1) (racks n (suc m)) ks
  index_run m ks =
      let p : (k : ℕ) → full n (suc m) (after n m k) ≡ eqb k (racks n (suc m)) = λ k. unfold full in ap (λ (z : ℕ). eqb z (racks n (suc m))) (size_after m k) in
      rw (
        index_choose (suc m) (map (after n m) ks),
        length-map ks (after n m),
        all_map (after n m) (full n (suc m)) (λ k. eqb k (racks n (suc m))) p ks,
        first_map (after n m) (full n (suc m)) (λ k. eqb k (racks n (suc m))) p ks,
      ) (sym (choice_choose (t n 1 + 1) (racks n (suc m)) ks))

  after_suc : (m c : ℕ) → after n m (suc c) ≡ (add n m (after n m c)).1
  unfolding after
  after_suc m c = refl

  -- one addition to sub-cells that are numbered by ks
  add-map : (m : ℕ) (ks : List ℕ) → let i = choice (t n 1 + 1) (racks n (suc m)) ks in
      ((add n (suc m) (map (after n m) ks)).0 ≡ i ∷ (add n m (after n m (get_or ks i 0))).0) × ((add n (suc m) (map (after n m) ks)).1 ≡ map (after n m) (bump ks i))
  unfolding add
  add-map m ks =
      let i = choice (t n 1 + 1) (racks n (suc m)) ks in
      let d : get_or (map (after n m) ks) i [] ≡ after n m (get_or ks i 0) = unfold after in (get_d_map (after n m) ks i) in
      rw (index_run m ks, d) (refl, rw (← after_suc m (get_or ks i 0)) (put_map (after n m) ks i))

  after_run : (m c : ℕ) → after n (suc m) c ≡ map (after n m) (run (t n 1 + 1) (racks n (suc m)) c)
  after_run m zero = unfold after run in refl
  after_run m (suc c) = rw (after_suc (suc m) c, after_run m c, run_suc (t n 1 + 1) (racks n (suc m)) c) (add-map m (run (t n 1 + 1) (racks n (suc m)) c)).1

  -- a DCell2
  after_two : (c : ℕ) → length (after n zero c) ≡ c
  unfolding after add
  after_two zero = refl
  after_two (suc c) = length-append (after n zero c) (tt ∷ []) ∙ omega (arith, after_two c)

  pub index_two : (G c : ℕ) → index G 1 c ≡ c
  index_two G c = phases G 1 (omega arith) c
      (λ h. (low G 1 (omega arith) c h).0)
      (λ h k. absurd (omega arith))
      (λ h. (high G 1 (omega arith) c h).0 ∙ div-one c)

  -- THE PAPER'S PROCEDURE GIVES THE PREFIXES OF THE CLOSED FORM
  pub add-place : (m c : ℕ) → (add n m (after n m c)).0 ≡ place n (suc m) c
  add-place zero c = unfold add place racks in (ap (λ (k : ℕ). k ∷ []) (after_two c ∙ sym (index_two (t n 1 + 1) c)))
  add-place (suc m) c =
      let f = found (t n 1 + 1) (racks n (suc m)) (racks_pos n (suc m)) c in
      let s = run (t n 1 + 1) (racks n (suc m)) c in
      let e = add-place m (inside (t n 1 + 1) (racks n (suc m)) c) in
      rw (after_run m c) ((add-map m s).0 ∙ rw (f.0, f.1, e) (unfold place in refl))

  -- a DCell2 again
  passes_two : (s : List (Unit {0})) (q : ℕ) → passes (λ a. has zero a []) s q ≡ ltb q (length s)
  unfolding passes has
  passes_two [] q = sym (le-ltb q 0 (omega arith))
  passes_two (a ∷ s) zero = sym (lt-ltb 0 (suc (length s)) (omega arith))
  passes_two (a ∷ s) (suc q) = passes_two s q ∙ cases (ltb q (length s))
      (λ h. let k = ltb-true q (length s) h in h ∙ sym (lt-ltb (suc q) (suc (length s)) (omega arith)))
      (λ h. let k = ltb-false q (length s) h in h ∙ sym (le-ltb (suc q) (suc (length s)) (omega arith)))

  pub before_two : (G q : ℕ) → before G 1 q 0 ≡ q
  unfolding before
  before_two G q = cases (ltb q G) (λ h. rw h) (λ h. rw h (omega arith))

  -- WHAT IS FITTED AFTER c ADDITIONS: THE DCELL1S OF RANK BELOW c
  pub has_rank : (m c : ℕ) (r : List ℕ) → IsPrefix n (suc m) r → has (suc m) (after n m c) r ≡ ltb (rank n (suc m) r) c
  unfolding has rank
  has_rank m c [] v = absurd v
  has_rank zero c (q ∷ []) v = unfold has rank racks in (passes_two (after n zero c) q ∙ ap₂ ltb (sym (before_two (t n 1 + 1) q)) (after_two c))
  has_rank zero c (q ∷ (b ∷ r)) v = absurd v.1
  has_rank (suc m) c (q ∷ r) v =
      let h = passes_map (after n m) (λ a. has (suc m) a r) (rank n (suc m) r) (λ k. has_rank m k r v.1) (run (t n 1 + 1) (racks n (suc m)) c) q in
      let k = counted (t n 1 + 1) (racks n (suc m)) (racks_pos n (suc m)) c q (rank n (suc m) r) (place_rank n (suc m) r v.1).0 in
      rw (after_run m c) (h ∙ k)

  -- what is fitted stays where it is; one addition fits one DCell1, in a place that was free, and changes no other; the hall gets full
  pub stays : (m c : ℕ) (r : List ℕ) → IsPrefix n (suc m) r → has (suc m) (after n m c) r ≡ true → has (suc m) (after n m (suc c)) r ≡ true
  stays m c r v h =
      let k = ltb-true (rank n (suc m) r) c (sym (has_rank m c r v) ∙ h) in
      has_rank m (suc c) r v ∙ lt-ltb (rank n (suc m) r) (suc c) (omega arith)

  pub new_free : (m c : ℕ) → c < racks n (suc m) → has (suc m) (after n m c) (place n (suc m) c) ≡ false
  new_free m c h = has_rank m c (place n (suc m) c) (place_fits n (suc m) c h) ∙ le-ltb (rank n (suc m) (place n (suc m) c)) c (omega (arith, rank_place n (suc m) c h))

  pub new_fitted : (m c : ℕ) → c < racks n (suc m) → has (suc m) (after n m (suc c)) (place n (suc m) c) ≡ true
  new_fitted m c h = has_rank m (suc c) (place n (suc m) c) (place_fits n (suc m) c h) ∙ lt-ltb (rank n (suc m) (place n (suc m) c)) (suc c) (omega (arith, rank_place n (suc m) c h))

  pub others_stay : (m c : ℕ) (r : List ℕ) → IsPrefix n (suc m) r → (r ≡ place n (suc m) c → ⊥) → has (suc m) (after n m (suc c)) r ≡ has (suc m) (after n m c) r
  others_stay m c r v d =
      has_rank m (suc c) r v
      ∙ ltb_suc (rank n (suc m) r) c (λ z. d (sym (place_rank n (suc m) r v).1 ∙ ap (place n (suc m)) z))
      ∙ sym (has_rank m c r v)

  pub all_fitted : (m : ℕ) (r : List ℕ) → IsPrefix n (suc m) r → has (suc m) (after n m (racks n (suc m))) r ≡ true
  all_fitted m r v = has_rank m (racks n (suc m)) r v ∙ lt-ltb (rank n (suc m) r) (racks n (suc m)) (place_rank n (suc m) r v).0

  -- nothing else is fitted
  passes_none : {A : Type 0} (p : A → Bool) (s : List A) (i : ℕ) → ((a : A) → p a ≡ false) → passes p s i ≡ true → ⊥
  unfolding passes
  passes_none p [] i h e = true≢false (sym e)
  passes_none p (a ∷ s) zero h e = true≢false (sym e ∙ h a)
  passes_none p (a ∷ s) (suc i) h e = passes_none p s i h e

  passes_one : {A : Type 0} (f : ℕ → A) (p : A → Bool) (ks : List ℕ) (i : ℕ) → passes p (map f ks) i ≡ true → p (f (get_or ks i 0)) ≡ true
  unfolding passes
  passes_one f p [] i e = absurd (true≢false (sym e))
  passes_one f p (k ∷ ks) zero e = e
  passes_one f p (k ∷ ks) (suc i) e = passes_one f p ks i e

  below : (m q i c : ℕ) → c ≤ racks n (suc (suc m)) → before (t n 1 + 1) (racks n (suc m)) q i < c → q < t n (suc (suc m)) + 1
  unfolding racks
  below m q i c l b = cases (ltb q (t n (suc (suc m)) + 1))
      (λ z. ltb-true q (t n (suc (suc m)) + 1) z)
      (λ z. let g = ltb-false q (t n (suc (suc m)) + 1) z in
      let d = before_high (t n 1 + 1) (racks n (suc m)) (racks_pos n (suc m)) q i (omega (arith, t_up n 1 (suc (suc m)) (omega arith))) in
      let w = mul-le-mul_right (racks n (suc m)) g in
      absurd (omega arith))

  pub only_prefixes : (m c : ℕ) (r : List ℕ) → c ≤ racks n (suc m) → has (suc m) (after n m c) r ≡ true → IsPrefix n (suc m) r
  unfolding has
  only_prefixes m c [] l e = absurd (true≢false (sym e))
  only_prefixes zero c (q ∷ []) l e =
      let k = ltb-true q (length (after n zero c)) (sym (passes_two (after n zero c) q) ∙ e) in
      let w : racks n 1 ≡ t n 1 + 1 = unfold racks in (omega arith) in
      (omega (arith, after_two c), tt)
  only_prefixes zero c (q ∷ (b ∷ r)) l e = absurd (passes_none (λ a. has zero a (b ∷ r)) (after n zero c) q (λ a. refl) e)
  only_prefixes (suc m) c (q ∷ r) l e =
      let C = racks n (suc m) in
      let G = t n 1 + 1 in
      let N = t n (suc (suc m)) + 1 in
      let ks = run G C c in
      let e' : passes (λ a. has (suc m) a r) (map (after n m) ks) q ≡ true = rw (after_run m c) at e in
      let v = only_prefixes m (get_or ks q 0) r (bounded G C (racks_pos n (suc m)) c q) (passes_one (after n m) (λ a. has (suc m) a r) ks q e') in
      let h = passes_map (after n m) (λ a. has (suc m) a r) (rank n (suc m) r) (λ k. has_rank m k r v) ks q in
      let k = counted G C (racks_pos n (suc m)) c q (rank n (suc m) r) (place_rank n (suc m) r v).0 in
      let b = ltb-true (before G C q (rank n (suc m) r)) c (sym k ∙ sym h ∙ e') in
      (below m q (rank n (suc m) r) c l b, v)

  -- the DCell1s fitted after c additions are those placed by the first c, and no others
  pub fitted_placed : (m c : ℕ) (r : List ℕ) → c ≤ racks n (suc m) → (has (suc m) (after n m c) r ≡ true) ↔ ((i : ℕ) × (i < c) × (r ≡ place n (suc m) i))
  fitted_placed m c r l = (
    (λ e. let v = only_prefixes m c r l e in
        (rank n (suc m) r, ltb-true (rank n (suc m) r) c (sym (has_rank m c r v) ∙ e), sym (place_rank n (suc m) r v).1)),
    (λ p. let k : p.0 < racks n (suc m) = omega (arith, p.1) in
        rw p.2 (has_rank m c (place n (suc m) p.0) (place_fits n (suc m) p.0 k)
        ∙ lt-ltb (rank n (suc m) (place n (suc m) p.0)) c (omega (arith, p.1, rank_place n (suc m) p.0 k)))),
  )
