-- Laws of a round's tests: the switches one behind the other and the links level by level reach whom a link of level at most s reaches,
-- so the sweeps of a round make the round.
use mathlib.Core.Path.{◌≡◌, refl, sym, ◌∙◌, ap, fun_ext}
use mathlib.Core.Bool.{Bool, true, false}
use mathlib.Core.List.{List}
use Prim.Native.Nat.{ℕ, zero, suc, ◌+◌, ◌-◌, ◌*◌, ◌/◌, ◌≤◌, ◌<◌}
use native.Mathlib.Nat.{le_trans, div-mul-le_self, mod-lt}
use native.Mathlib.Numerals.{add-one}
use native.Mathlib.Omega.{arith}
use lib.Dec.{eqb, leb, ltb}
use lib.Arith.{digits_div}
use lib.ListN.{length, get_or}
use lib.Seq.{ext_get_or}
use borrow.Author.Tests.{eqb-true, ltb-true, ltb-false, lt-ltb, le-ltb, leb-true, le-leb, lt-leb}
use Rattle.combine.specs.Tests.{pick, both, either, any_below}
use Rattle.combine.proofs.Tests.{cases, never, both_ways, both_left, both_right, both_false, both_either, either_false, any_in, any_some}
use Rattle.hall.specs.declared.Hall.{Hall}
use Rattle.hall.specs.Cells.{t, cell, neighbour}
use Rattle.hall.proofs.Cells.{same_mono, neighbour_stays, t_pos}
use Rattle.hall.proofs.Place.{sub_below}
use Rattle.hall.proofs.Growth.{t_more, t_up}
use Rattle.ports.specs.Codes.{up}
use Rattle.ports.specs.Links.{both_up, joined, switch_has, touched}
use Rattle.ports.proofs.Links.{same_below, any_joined}
use Rattle.search.specs.Rounds.{leads, new, mark, round}
use Rattle.search.proofs.Rounds.{length-round, round_at}
use Rattle.search.proofs.Filled.{filled_behind}
use Rattle.broadcast.specs.Broadcasts.{none}
use Rattle.broadcast.specs.Sweeps.{reached_by, fresh, swept, Sweep, between, open_on, on_switch, on_switches, over_link, on_links, on_levels, within, place_at, neighbour_at, PlaceFits, RoundFits, LinksFit, Behind}
use Rattle.broadcast.specs.declared.places.Place.{Place}
use Rattle.broadcast.proofs.Marks.{below, swept_old, sweep_reads}

-- who fails the test is not fresh
pub fresh_fails : (q : ℕ → Bool) (old : List ℕ) (x : ℕ) → q x ≡ false → fresh q old x ≡ false
unfolding fresh
fresh_fails q old x e = rw e (both_false (eqb (get_or old x 0) none) false refl)

-- two tests that agree on x
pub fresh_at : (q p : ℕ → Bool) (old : List ℕ) (x : ℕ) → q x ≡ p x → fresh q old x ≡ fresh p old x
unfolding fresh
fresh_at q p old x e = ap (λ (b : Bool). both (eqb (get_or old x 0) none) b) e

-- a sweep leaves the answers to "who is reached before round r", as one function
pub reads_same : (q : ℕ → Bool) (r : ℕ) (old room : List ℕ) (any : Bool) → r < none → Sweep q r old room any → reached_by r room ≡ reached_by r old
reads_same q r old room any small s = fun_ext (λ y. sweep_reads q r old room any small s y)

-- where nobody from m on passes, those below m are all to ask
any_front : (p : ℕ → Bool) (m n : ℕ) → m ≤ n → ((y : ℕ) → m ≤ y → y < n → p y ≡ false) → any_below p m ≡ any_below p n
any_front p m n h f =
    both_ways (any_below p m) (any_below p n)
    (λ e. let k = any_some p m e in any_in p n k.0 (omega (arith, k.1)) k.2)
    (λ e.
    let k = any_some p n e in
    cases (ltb k.0 m)
    (λ b. any_in p m k.0 (ltb-true k.0 m b) k.2)
    (λ b. never k.2 (f k.0 (ltb-false k.0 m b) k.1)))

-- a to b and b to c
past : (a b x : ℕ) → a ≤ b → either (ltb x a) (between a b x) ≡ ltb x b
past a b x h =
    cases (ltb x a)
    (λ e. let l = ltb-true x a e in rw (e, lt-ltb x b (omega arith)))
    (λ e. let l = ltb-false x a e in rw (e, le-leb a x l))

factor : (a b c : Bool) → either (both a c) (both b c) ≡ both (either a b) c
factor true true true = refl
factor true true false = refl
factor true false true = refl
factor true false false = refl
factor false true true = refl
factor false true false = refl
factor false false true = refl
factor false false false = refl

absorb : (a c u : Bool) → both c (both (both a c) u) ≡ both (both a c) u
absorb a true u = refl
absorb true false u = refl
absorb false false u = refl

module _ (h : Hall) (table : List ℕ) where
  -- the servers of the switch s with port 0 up, from the first on
  pub open_start : (s : ℕ) (old : List ℕ) (x : ℕ) → fresh (below (open_on h table s) (s * h.n)) old x ≡ false
  unfolding open_on
  open_start s old x =
      fresh_fails (below (open_on h table s) (s * h.n)) old x
      (cases (ltb x (s * h.n))
      (λ e. rw (e, lt-leb (s * h.n) x (ltb-true x (s * h.n) e)))
      (λ e. rw e))

  pub open_here : (s : ℕ) (old : List ℕ) (x : ℕ) → s * h.n ≤ x → x < s * h.n + h.n → fresh (λ y. up h table y 0) old x ≡ fresh (open_on h table s) old x
  unfolding open_on
  open_here s old x a b = fresh_at (λ y. up h table y 0) (open_on h table s) old x (rw (le-leb (s * h.n) x a, lt-ltb x (s * h.n + h.n) b))

  pub open_end : (s : ℕ) (old : List ℕ) (x : ℕ) → fresh (below (open_on h table s) (s * h.n + h.n)) old x ≡ fresh (open_on h table s) old x
  unfolding open_on
  open_end s old x =
      fresh_at (below (open_on h table s) (s * h.n + h.n)) (open_on h table s) old x
      (absorb (leb (s * h.n) x) (ltb x (s * h.n + h.n)) (up h table x 0))

  -- a switch reaches its servers where one of them is ready
  switch_of : (s x : ℕ) → between (s * h.n) (s * h.n + h.n) x ≡ true → cell h.n 0 x ≡ s
  unfolding cell t
  switch_of s x e =
      let a = leb-true (s * h.n) x (both_left (leb (s * h.n) x) (ltb x (s * h.n + h.n)) e) in
      let b = ltb-true x (s * h.n + h.n) (both_right (leb (s * h.n) x) (ltb x (s * h.n + h.n)) e) in
      let i : ℕ = x - s * h.n in
      let l : i < h.n = omega arith in
      let q : x ≡ s * h.n + i = omega arith in
      ap (λ (k : ℕ). k / h.n) q ∙ digits_div s l

  module _ (p : ℕ → Bool) where
    pub dead_switch : (s : ℕ) (old : List ℕ) (x : ℕ) → switch_has h table p s ≡ false → fresh (on_switch h table p s) old x ≡ false
    unfolding on_switch touched
    dead_switch s old x e =
        fresh_fails (on_switch h table p s) old x
        (cases (between (s * h.n) (s * h.n + h.n) x)
        (λ b. rw (b, switch_of s x b, e) (both_false (up h table x 0) false refl))
        (λ b. rw b))

    pub live_switch : (s : ℕ) (old : List ℕ) (x : ℕ) → switch_has h table p s ≡ true → fresh (open_on h table s) old x ≡ fresh (on_switch h table p s) old x
    unfolding open_on on_switch touched
    live_switch s old x e =
        fresh_at (open_on h table s) (on_switch h table p s) old x
        (cases (between (s * h.n) (s * h.n + h.n) x)
        (λ b. rw (b, switch_of s x b, e) (both_yes (up h table x 0)))
        (λ b. rw b))
      where
        both_yes : (c : Bool) → c ≡ both c true
        both_yes true = refl
        both_yes false = refl

    -- switch by switch
    pub switches_start : (old : List ℕ) (x : ℕ) → fresh (on_switches h table p (0 * h.n)) old x ≡ false
    unfolding on_switches
    switches_start old x = fresh_fails (on_switches h table p (0 * h.n)) old x (rw (le-ltb x (0 * h.n) (omega arith)))

    pub switches_next : (s : ℕ) (old : List ℕ) (x : ℕ)
        → fresh (λ y. either (on_switches h table p (s * h.n) y) (on_switch h table p s y)) old x ≡ fresh (on_switches h table p ((s + 1) * h.n)) old x
    unfolding on_switches on_switch
    switches_next s old x =
        let b : ℕ = s * h.n in
        let c : (s + 1) * h.n ≡ b + h.n = omega arith in
        fresh_at (λ y. either (on_switches h table p (s * h.n) y) (on_switch h table p s y)) (on_switches h table p ((s + 1) * h.n)) old x
        (factor (ltb x b) (between b (b + h.n) x) (touched h table p 0 x)
        ∙ ap (λ (k : Bool). both k (touched h table p 0 x)) (past b (b + h.n) x (omega arith) ∙ ap (λ (k : ℕ). ltb x k) (sym c)))

    -- level by level
    pub links_start : (j : ℕ) (old : List ℕ) (x : ℕ) → fresh (below (over_link h table p j) 0) old x ≡ false
    links_start j old x = fresh_fails (below (over_link h table p j) 0) old x (rw (le-ltb x 0 (omega arith)))

    pub link_here : (j y : ℕ) (old : List ℕ) (x : ℕ) → y ≡ neighbour h.n j x → fresh (λ v. both (p y) (both_up h table (j + 1) y v)) old x ≡ fresh (over_link h table p j) old x
    unfolding over_link
    link_here j y old x e = fresh_at (λ v. both (p y) (both_up h table (j + 1) y v)) (over_link h table p j) old x (rw (e, add-one j))

    pub levels_start : (size : ℕ) (old : List ℕ) (x : ℕ) → fresh (on_levels h table p size 0) old x ≡ false
    unfolding on_levels
    levels_start size old x = fresh_fails (on_levels h table p size 0) old x refl

    pub levels_next : (size j : ℕ) (old : List ℕ) (x : ℕ) → fresh (λ y. either (on_levels h table p size j y) (on_links h table p size j y)) old x ≡ fresh (on_levels h table p size (j + 1)) old x
    unfolding on_levels
    levels_next size j old x = fresh_at (λ y. either (on_levels h table p size j y) (on_links h table p size j y)) (on_levels h table p size (j + 1)) old x (rw (add-one j))

    -- the switches, then the levels
    split : (size s x : ℕ) → either (on_switches h table p size x) (on_levels h table p size s x) ≡ within h table p size s x
    unfolding on_switches on_levels on_links over_link within touched
    split size zero x = either_false (both (ltb x size) (touched h table p 0 x))
    split size (suc j) x =
        let link : Bool = both (p (neighbour h.n j x)) (both_up h table (suc j) (neighbour h.n j x) x) in
        regroup (both (ltb x size) (touched h table p 0 x)) (on_levels h table p size j x) (both (ltb x size) link)
        ∙ ap (λ (k : Bool). either k (both (ltb x size) link)) (split size j x)
        ∙ sym (both_either (ltb x size) (touched h table p j x) link)
      where
        regroup : (a b c : Bool) → either a (either b c) ≡ either (either a b) c
        regroup true b c = refl
        regroup false b c = refl

    pub within_split : (size s : ℕ) (old : List ℕ) (x : ℕ)
        → fresh (λ y. either (on_switches h table p size y) (on_levels h table p size s y)) old x ≡ fresh (within h table p size s) old x
    within_split size s old x =
        fresh_at (λ y. either (on_switches h table p size y) (on_levels h table p size s y)) (within h table p size s) old x (split size s x)

  -- the sweeps of a round make the round, where nobody behind their places is reached
  module _ (s size r : ℕ) (old room : List ℕ) (any : Bool) (fits : RoundFits h s size r old) (behind : Behind h s size old)
      (made : Sweep (within h table (reached_by r old) size s) r old room any) where
    leads_front : (x : ℕ) → any_below (leads (joined h table s) r old x) size ≡ any_below (leads (joined h table s) r old x) (t h.n s)
    leads_front x =
        any_front (leads (joined h table s) r old x) size (t h.n s) fits.most
        (λ y l b. rw (behind y l b, lt-leb none r (omega (arith, fits.small))))

    new_is : (x : ℕ) → x < size → fresh (within h table (reached_by r old) size s) old x ≡ new (joined h table s) size none r old x
    unfolding fresh new within
    new_is x l =
        cases (eqb (get_or old x 0) none)
        (λ e.
        let z : reached_by r old x ≡ false = rw (eqb-true (get_or old x 0) none e) (lt-leb none r (omega (arith, fits.small))) in
        let b : x < t h.n s = omega (arith, fits.most) in
        let j = any_joined h table (omega (arith, fits.n_low)) (reached_by r old) s x b z in
        rw (e, lt-ltb x size l) (sym (leads_front x ∙ j)))
        (λ e. rw e)

    outside : (x : ℕ) → size ≤ x → fresh (within h table (reached_by r old) size s) old x ≡ false
    unfolding within
    outside x b = fresh_fails (within h table (reached_by r old) size s) old x (rw (le-ltb x size b))

    marked : (x : ℕ) → x < size → swept (within h table (reached_by r old) size s) r old x ≡ mark (joined h table s) size none r old x
    unfolding swept mark
    marked x b = ap (λ (k : Bool). pick k (r + 1) (get_or old x 0)) (new_is x b)

    same_number : (x : ℕ) → get_or room x 0 ≡ get_or (round (joined h table s) size none r old) x 0
    same_number x =
        cases (ltb x size)
        (λ e.
        let b = ltb-true x size e in
        made.each x ∙ marked x b ∙ sym (round_at (joined h table s) size none r old x b))
        (λ e.
        let b = ltb-false x size e in
        made.each x
        ∙ swept_old (within h table (reached_by r old) size s) r old x (outside x b)
        ∙ sym (filled_behind (mark (joined h table s) size none r old) old size x b))

    pub round_made : room ≡ round (joined h table s) size none r old
    round_made =
        ext_get_or {A = ℕ} 0 room (round (joined h table s) size none r old)
        (made.long ∙ sym (length-round (joined h table s) size none r old (omega (arith, fits.most, fits.inside))))
        (λ x l. same_number x)

    pub any_made : any ≡ any_below (new (joined h table s) size none r old) size
    any_made =
        made.told
        ∙ both_ways (any_below (fresh (within h table (reached_by r old) size s) old) (length old)) (any_below (new (joined h table s) size none r old) size)
        (λ e.
        let k = any_some (fresh (within h table (reached_by r old) size s) old) (length old) e in
        cases (ltb k.0 size)
        (λ b. let l = ltb-true k.0 size b in any_in (new (joined h table s) size none r old) size k.0 l (sym (new_is k.0 l) ∙ k.2))
        (λ b. never k.2 (outside k.0 (ltb-false k.0 size b))))
        (λ e.
        let k = any_some (new (joined h table s) size none r old) size e in
        any_in (fresh (within h table (reached_by r old) size s) old) (length old) k.0 (omega (arith, k.1, fits.most, fits.inside)) (new_is k.0 k.1 ∙ k.2))

-- the numbers of the largest scope
module _ (h : Hall) (s size r : ℕ) (room : List ℕ) (fits : RoundFits h s size r room) where
  pub scope_fits_lem : size ≤ 5256
  unfolding t
  scope_fits_lem = le_trans fits.most (le_trans (t_more h.n 8 s fits.n_high) (t_up 8 s 2 fits.scope_high))

  pub size_inside : size ≤ length room
  size_inside = le_trans fits.most fits.inside

  pub cell_fits : (j : ℕ) → j < s → t h.n j ≤ 72
  unfolding t
  cell_fits j l = le_trans (t_more h.n 8 j fits.n_high) (t_up 8 j 1 (omega (arith, fits.scope_high)))

  -- a neighbour is in the room, if behind the first `size` places
  pub neighbour_inside : (j x : ℕ) → j < s → x < size → neighbour h.n j x < length room
  neighbour_inside j x l b =
      let pos : 0 < h.n = omega (arith, fits.n_low) in
      let c : x < t h.n s = omega (arith, fits.most) in
      let d = same_below h.n s x (neighbour h.n j x) pos (same_mono h.n {i = suc j} {j = s} x (neighbour h.n j x) l (neighbour_stays h.n pos j x)) c in
      omega (arith, fits.inside)

  -- the same room behind a sweep, and the next round
  pub fits_again : (other : List ℕ) → length other ≡ length room → RoundFits h s size r other
  fits_again other e = record {
    n_low = fits.n_low;
    n_high = fits.n_high;
    scope_high = fits.scope_high;
    whole = fits.whole;
    most = fits.most;
    inside = omega (arith, fits.inside, e);
    small = fits.small;
  }

  pub fits_next : (other : List ℕ) (q : ℕ) → length other ≡ length room → q < 5256 → RoundFits h s size q other
  fits_next other q e l = record {
    n_low = fits.n_low;
    n_high = fits.n_high;
    scope_high = fits.scope_high;
    whole = fits.whole;
    most = fits.most;
    inside = omega (arith, fits.inside, e);
    small = l;
  }

-- a place of the largest scope
pub place_fits : (T x : ℕ) → 0 < T → T ≤ 72 → x ≤ 5256 → PlaceFits T (place_at T x)
place_fits T x pos small b = record {
  size_fits = small;
  base_fits = omega (arith, div-mul-le_self x ((T + 1) * T));
  sub_fits = omega (arith, sub_below T x);
  inside_fits = omega (arith, mod-lt x pos);
}

-- the neighbour that the code works out of the place
pub near_is : (n j T x y : ℕ) (p : Place) → T ≡ t n j → p ≡ place_at T x → y ≡ neighbour_at T p → y ≡ neighbour n j x
unfolding neighbour
near_is n j T x y p e f g = g ∙ rw (f, e)

-- a sweep over the links of a level: a sub-cell has servers, and the numbers of each place fit
module _ (h : Hall) (size j c r : ℕ) (room : List ℕ) (k : LinksFit h size j c r room) where
  pub links_pos : 0 < c
  links_pos = rw k.cell_is (t_pos h.n (omega (arith, k.fits.n_low)) j)

  pub links_place : (x : ℕ) → x < size → PlaceFits c (place_at c x)
  links_place x l =
      let small : c ≤ 72 = rw k.cell_is (cell_fits h k.scope size r room k.fits j k.below) in
      place_fits c x links_pos small (omega (arith, scope_fits_lem h k.scope size r room k.fits))
