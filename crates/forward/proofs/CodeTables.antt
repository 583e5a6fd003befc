-- The two tables that the code has for a step, the one that the step is lent and the whole hall table: from each it reads what is lent.
use mathlib.Core.Path.{◌≡◌, refl, sym, ◌∙◌, ap}
use mathlib.Core.Bool.{Bool, true, false}
use mathlib.Core.List.{List}
use Prim.Native.Nat.{ℕ, suc, ◌+◌, ◌-◌, ◌*◌, ◌/◌, ◌%◌, ◌≤◌, ◌<◌}
use native.Mathlib.Omega.{arith}
use lib.Dec.{eqb}
use lib.ListN.{length, get_or, take, drop, length-take}
use Rattle.combine.specs.Tests.{both}
use Rattle.combine.proofs.Tests.{both_false, both_alone, both_joined}
use Rattle.hall.specs.declared.Hall.{Hall}
use Rattle.hall.specs.Cells.{cell, same, neighbour}
use Rattle.hall.specs.Halls.{is_full, servers}
use Rattle.hall.proofs.Cells.{same_trans, neighbour_stays}
use Rattle.hall.proofs.Growth.{valid_known}
use Rattle.hall.proofs.Links.{neighbour_in}
use Rattle.ports.specs.Codes.{is_up, up, cell_length}
use Rattle.ports.specs.Links.{both_up}
use Rattle.ports.proofs.Parts as parts
use Rattle.local.specs.Local.{cell_size, place_of, first_of, counting}
use Rattle.local.proofs.Sizes.{place_fits}
use Rattle.local.proofs.Uids.{uid_made, uid_within}
use Rattle.plan.specs.Answers.{fitted, is_fitted}
use Rattle.plan.proofs.Halls.{fitted_same, fitted_full}
use Rattle.plan.proofs.Asks.{told_fitted}
use Rattle.counted.specs.Counted.{counted}
use Rattle.counted.proofs.Counted.{counted_sound, counted_part, cell_same, cell_fitted}
use Rattle.counted.proofs.Links.{ups_counted}
use Rattle.local.proofs.Asks.{bytes_are}
use Rattle.ends.specs.Tables.{levels, far_count, step_length, cell_part, far_place, far_in}
use Rattle.ends.proofs.Answers.{part_length}
use Rattle.ends.proofs.Tables.{near_part, far_below, far_within, step_shared}
use Rattle.forward.specs.Seen.{usable}
use Rattle.ends.proofs.Lent as lents
use Rattle.forward.specs.Inside.{Here, Above, Crossed, Servers, held, lent}
use Rattle.forward.proofs.Sight.{usable_hall, usable_own}

known : (h : Hall) (table : List ℕ) (me : ℕ) → Here h true table me → parts.Sound h table me
known h table me a = record { is_valid = a.sound; long = a.long; below = a.fits }

-- what a step is lent is longer than the codes of its DCell(b)
step_longer : (h : Hall) → cell_length h h.b ≤ step_length h
unfolding step_length
step_longer h = omega arith

pub own_long : (h : Hall) (whole : Bool) (table : List ℕ) (me : ℕ) → Here h whole table me → length (cell_part h (held h whole table me)) ≡ cell_length h h.b
unfolding cell_part
own_long h false table me a = omega (arith, length-take (cell_length h h.b) table, a.long, step_longer h)
own_long h true table me a = ap length (near_part h table me (known h table me a)) ∙ part_length h table me (known h table me a)

pub lent_shared : (h : Hall) (whole : Bool) (table : List ℕ) (x y : ℕ) → same h.n h.b x y ≡ true → lent h whole table x ≡ lent h whole table y
lent_shared h false table x y e = lents.lent_shared h table x y e
lent_shared h true table x y e = step_shared h (counted h 0 table) x y e

-- the hall table as its codes count is a hall table
counted_known : (h : Hall) (table : List ℕ) (me : ℕ) → Here h true table me → parts.Sound h (counted h 0 table) me
counted_known h table me a = counted_sound h table me (known h table me a)

-- the codes of the own DCell(b), as they count
pub counting_own : (h : Hall) (whole : Bool) (table : List ℕ) (me : ℕ) → Here h whole table me → counting h me (cell_part h (held h whole table me)) ≡ cell_part h (lent h whole table me)
unfolding first_of cell_size cell
counting_own h false table me a = sym (lents.lent_part h me table a.long)
counting_own h true table me a =
    let k = known h table me a in
    ap (counting h me) (near_part h table me k)
    ∙ sym (counted_part h table me h.b k (valid_known h a.sound).b_low)
    ∙ sym (near_part h (counted h 0 table) me (counted_known h table me a))

pub own_length : (h : Hall) (whole : Bool) (table : List ℕ) (me : ℕ) → Here h whole table me → whole ≡ false → length table ≡ step_length h
own_length h whole table me a w = a.long ∙ rw w

-- the first bytes of what is lent
module _ (h : Hall) (whole : Bool) (table : List ℕ) (me : ℕ) (a : Here h whole table me) (bytes : ℕ) (e : bytes ≡ cell_length h h.b) where
  pub own_within : whole ≡ false → bytes ≤ length table
  own_within w = omega (arith, own_length h whole table me a w, step_longer h)

  pub own_first : whole ≡ false → take (bytes - 0) (drop 0 table) ≡ cell_part h (held h whole table me)
  unfolding cell_part
  own_first w = let z : bytes - 0 ≡ cell_length h h.b = omega arith in rw (w, z)

  -- the part of the hall table
  module _ (w : whole ≡ true) (count : ℕ) (size : count ≡ cell_size h) where
    whole_known : parts.Sound h table me
    whole_known = known h table me (rw w at a)

    wide : bytes ≡ count * (h.k + 1)
    wide = e ∙ sym (bytes_are h count size)

    pub part_within : me / count * bytes + bytes ≤ length table
    unfolding cell_size
    part_within = parts.taken_within h table me whole_known count bytes size wide

    pub part_first : take (me / count * bytes + bytes - me / count * bytes) (drop (me / count * bytes) table) ≡ cell_part h (held h whole table me)
    unfolding cell_size
    part_first = parts.taken_is h table me whole_known count bytes size wide ∙ rw w (sym (near_part h table me whole_known))

-- of two tests in turn the first decides where it does not hold, else the second
first_decides : (a b near : Bool) → near ≡ a → near ≡ false → false ≡ both a b
first_decides a b near p e = rw (← p, e)

second_decides : (a b near far : Bool) → near ≡ a → near ≡ true → far ≡ b → far ≡ both a b
second_decides a b near far p e q = q ∙ rw (← p, e)

-- a link by the table that a step is lent
module _ (h : Hall) (place level : ℕ) (a : Above h place level) where
  pub far_first : place * levels h + (level - suc h.b) < far_count h
  far_first = far_below h place level a.inside a.low a.high

  pub far_at : (bytes : ℕ) → bytes ≡ cell_length h h.b → bytes + (place * (h.k - h.b) + (level - h.b - 1)) ≡ far_place h place level
  unfolding far_place
  far_at bytes e = let d : level - h.b - 1 ≡ level - suc h.b = omega arith in rw (e, d)

  pub far_there : (table : List ℕ) → length table ≡ step_length h → far_place h place level < length table
  far_there = far_within h place level a.inside a.low a.high

  module _ (table : List ℕ) (near : Bool) (p : near ≡ up h table place level) where
    pub open_not : near ≡ false → false ≡ usable h table level place
    unfolding usable
    open_not e = first_decides (up h table place level) (is_up (far_in h table place level)) near p e

    pub open_far : near ≡ true → (at : ℕ) → at ≡ far_place h place level → eqb (get_or table at 0) 1 ≡ usable h table level place
    unfolding usable far_in
    open_far e at q = second_decides (up h table place level) (is_up (far_in h table place level)) near (eqb (get_or table at 0) 1) p e (rw q)

-- a link by both its ends in the hall table
module _ (h : Hall) (whole : Bool) (table : List ℕ) (level : ℕ) where
  pub own_usable : (u count : ℕ) → whole ≡ false → count ≡ cell_size h → usable h table level (u % count) ≡ usable h (held h whole table u) level (place_of h u)
  unfolding place_of
  own_usable u count w e = rw (w, e)

  whole_usable : (u v : ℕ) → Crossed h whole table u v level → whole ≡ true → both_up h table level u v ≡ usable h (held h whole table u) level (place_of h u)
  whole_usable u v a w =
      ap (both_up h table level u) a.leads
      ∙ sym (rw w (usable_own h table u (known h table u (rw w at a.here)) level a.low a.high))

  whole_open : (me place : ℕ) → Here h whole table me → Above h place level → whole ≡ true
      → both_up h table level (first_of h me + place) (neighbour h.n (level - 1) (first_of h me + place)) ≡ usable h (held h whole table me) level place
  whole_open me place a p w =
      sym (rw w (usable_hall h table me (known h table me (rw w at a)) level place p.inside p.low p.high))

  -- the near end decides where it is not up, else the far one
  module _ (u v : ℕ) (near : Bool) (p : near ≡ up h table u level) where
    by_near : near ≡ false → false ≡ both_up h table level u v
    unfolding both_up
    by_near e = first_decides (up h table u level) (up h table v level) near p e

    by_far : near ≡ true → (r : Bool) → r ≡ up h table v level → r ≡ both_up h table level u v
    unfolding both_up
    by_far e r q = second_decides (up h table u level) (up h table v level) near r p e q

  module _ (u v : ℕ) (a : Crossed h whole table u v level) (w : whole ≡ true) (near : Bool) (p : near ≡ up h table u level) where
    pub near_closed : near ≡ false → false ≡ usable h (held h whole table u) level (place_of h u)
    near_closed e = by_near u v near p e ∙ whole_usable u v a w

    pub far_decides : near ≡ true → (r : Bool) → r ≡ up h table v level → r ≡ usable h (held h whole table u) level (place_of h u)
    far_decides e r q = by_far u v near p e r q ∙ whole_usable u v a w

  module _ (me place : ℕ) (a : Here h whole table me) (b : Above h place level) (w : whole ≡ true) (u : ℕ) (is : u ≡ first_of h me + place)
      (near : Bool) (p : near ≡ up h table u level) where
    pub place_closed : near ≡ false → false ≡ usable h (held h whole table me) level place
    place_closed e =
        by_near (first_of h me + place) (neighbour h.n (level - 1) (first_of h me + place)) near (p ∙ ap (λ (x : ℕ). up h table x level) is) e
        ∙ whole_open me place a b w

    pub neighbour_decides : near ≡ true → (v : ℕ) → v ≡ neighbour h.n (level - 1) (first_of h me + place) → (r : Bool) → r ≡ up h table v level
        → r ≡ usable h (held h whole table me) level place
    neighbour_decides e v f r q =
        by_far (first_of h me + place) (neighbour h.n (level - 1) (first_of h me + place)) near (p ∙ ap (λ (x : ℕ). up h table x level) is) e r
        (q ∙ ap (λ (x : ℕ). up h table x level) f)
        ∙ whole_open me place a b w

-- A LINK AS ITS CODES COUNT: BOTH ENDS UP, AND BOTH SERVERS FITTED
module _ (h : Hall) (table : List ℕ) (me place level : ℕ) (p : Above h place level) where
  abbrev own_uid : ℕ
  own_uid = first_of h me + place

  abbrev far_uid : ℕ
  far_uid = neighbour h.n (level - 1) (first_of h me + place)

  pub usable_counts : (whole : Bool) → Here h whole table me → usable h (lent h whole table me) level place
      ≡ both (both (fitted h me) (fitted h far_uid)) (usable h (held h whole table me) level place)
  unfolding usable first_of cell_size cell
  usable_counts false a =
      rw (
        lents.lent_near h me table a.long place level p.inside p.low p.high (valid_known h p.sound),
        lents.lent_far h me table a.long place level p.inside p.low p.high,
      )
      (sym (both_joined (both (fitted h me) (fitted h far_uid)) (up h table place level) (is_up (far_in h table place level))))
  usable_counts true a =
      let v = valid_known h p.sound in
      let e : suc (level - 1) ≡ level = omega (arith, p.low) in
      let c : both_up h (counted h 0 table) level own_uid far_uid ≡ both (both (fitted h own_uid) (fitted h far_uid)) (both_up h table level own_uid far_uid) =
      rw e at (ups_counted h (omega (arith, v.n_low)) table (level - 1) own_uid) in
      usable_hall h (counted h 0 table) me (counted_known h table me a) level place p.inside p.low p.high
      ∙ c
      ∙ rw (cell_fitted h (omega (arith, v.n_low)) h.b me v.b_high place p.inside, usable_hall h table me (known h table me a) level place p.inside p.low p.high)

-- a link of level 1 stays in a DCell1
near_together : (h : Hall) → 0 < h.n → (u level : ℕ) → 0 < level → level < 2 → same h.n 1 u (neighbour h.n (level - 1) u) ≡ true
near_together h pos u level low l =
    let z : level - 1 ≡ 0 = omega arith in
    rw z (neighbour_stays h.n pos 0 u)

-- the servers of a link are of the hall
pub crossed_servers : (h : Hall) (whole : Bool) (table : List ℕ) (u v level : ℕ) → Crossed h whole table u v level → Servers h level u v
unfolding servers
crossed_servers h whole table u v level a =
    let k = valid_known h a.here.sound in
    let pos : 0 < h.n = omega (arith, k.n_low) in
    record {
      sound = a.here.sound;
      u_fits = a.here.fits;
      v_fits = rw a.leads (neighbour_in h.n pos (level - 1) h.k u (omega (arith, a.low, a.high)) a.here.fits);
      together = λ l. rw a.leads (near_together h pos u level (omega (arith, a.low)) l);
    }

pub placed_servers : (h : Hall) (whole : Bool) (table : List ℕ) (me place level far : ℕ) → Here h whole table me → Above h place level
    → far ≡ neighbour h.n (level - 1) (first_of h me + place) → Servers h level me far
unfolding servers first_of cell_size cell
placed_servers h whole table me place level far a p e =
    let k = valid_known h a.sound in
    let pos : 0 < h.n = omega (arith, k.n_low) in
    let u : first_of h me + place < servers h = uid_within h me place k a.fits p.inside in
    record {
      sound = a.sound;
      u_fits = a.fits;
      v_fits = rw e (neighbour_in h.n pos (level - 1) h.k (first_of h me + place) (omega (arith, p.low, p.high)) u);
      together = λ l. rw e (same_trans h.n 1 me (first_of h me + place) (neighbour h.n (level - 1) (first_of h me + place))
          (cell_same h pos h.b me k.b_high place p.inside)
          (near_together h pos (first_of h me + place) level (omega (arith, p.low)) l));
    }

-- whether both are fitted, as the code asks: in a full hall every server is
all_fitted : (h : Hall) (u v : ℕ) → is_full h ≡ true → true ≡ both (fitted h u) (fitted h v)
all_fitted h u v f = rw (fitted_full h u f, fitted_full h v f)

module _ (h : Hall) (level u v : ℕ) (s : Servers h level u v) (near : Bool) (e : near ≡ is_fitted h u) where
  near_fitted : near ≡ fitted h u
  near_fitted = e ∙ told_fitted h u s.sound s.u_fits

  pub first_unfitted : near ≡ false → false ≡ both (fitted h u) (fitted h v)
  first_unfitted q = first_decides (fitted h u) (fitted h v) near near_fitted q

  -- in one DCell1 both are where one is
  pub first_fitted_lem : near ≡ true → level < 2 → true ≡ both (fitted h u) (fitted h v)
  first_fitted_lem q l = second_decides (fitted h u) (fitted h v) near true near_fitted q (sym q ∙ near_fitted ∙ fitted_same h u v (s.together l))

  pub second_fitted : near ≡ true → (r : Bool) → r ≡ is_fitted h v → r ≡ both (fitted h u) (fitted h v)
  second_fitted q r f = second_decides (fitted h u) (fitted h v) near r near_fitted q (f ∙ told_fitted h v s.sound s.v_fits)

-- what the code makes of the two tests
module _ (h : Hall) (whole : Bool) (table : List ℕ) (level : ℕ) (near : Bool) where
  module _ (me place : ℕ) (a : Here h whole table me) (b : Above h place level) (p : near ≡ usable h (held h whole table me) level place) where
    pub place_shut : near ≡ false → false ≡ usable h (lent h whole table me) level place
    place_shut e = sym (usable_counts h table me place level b whole a
        ∙ both_false (both (fitted h me) (fitted h (neighbour h.n (level - 1) (first_of h me + place)))) (usable h (held h whole table me) level place) (sym p ∙ e))

    pub place_fitted : near ≡ true → (far : ℕ) → far ≡ neighbour h.n (level - 1) (first_of h me + place) → (r : Bool) → r ≡ both (fitted h me) (fitted h far)
        → r ≡ usable h (lent h whole table me) level place
    place_fitted e far f r q = q ∙ rw f (sym (usable_counts h table me place level b whole a ∙ rw (← p, e) (both_alone (both (fitted h me) (fitted h (neighbour h.n (level - 1) (first_of h me + place)))))))

    pub place_full : near ≡ true → is_full h ≡ true → true ≡ usable h (lent h whole table me) level place
    place_full e f = place_fitted e (neighbour h.n (level - 1) (first_of h me + place)) refl true (all_fitted h me (neighbour h.n (level - 1) (first_of h me + place)) f)

  -- by the uids of a crossing
  module _ (u v : ℕ) (a : Crossed h whole table u v level) (p : near ≡ usable h (held h whole table u) level (place_of h u)) where
    above : Above h (place_of h u) level
    above = record { sound = a.here.sound; inside = place_fits h (valid_known h a.here.sound) u; low = a.low; high = a.high }

    leads_on : v ≡ neighbour h.n (level - 1) (first_of h u + place_of h u)
    leads_on = a.leads ∙ ap (neighbour h.n (level - 1)) (sym (uid_made h u))

    pub link_shut : near ≡ false → false ≡ usable h (lent h whole table u) level (place_of h u)
    link_shut = place_shut u (place_of h u) a.here above p

    pub link_full : near ≡ true → is_full h ≡ true → true ≡ usable h (lent h whole table u) level (place_of h u)
    link_full = place_full u (place_of h u) a.here above p

    pub link_fitted : near ≡ true → (r : Bool) → r ≡ both (fitted h u) (fitted h v) → r ≡ usable h (lent h whole table u) level (place_of h u)
    link_fitted e r q = place_fitted u (place_of h u) a.here above p e v leads_on r q
