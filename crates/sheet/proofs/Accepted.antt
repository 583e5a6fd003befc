-- Laws of a sheet that is read to its end: what each of its fields then is, and where each section stands.
use mathlib.Core.Path.{◌≡◌, refl, sym, ◌∙◌, ap}
use mathlib.Core.Bool.{Bool, true}
use mathlib.Core.List.{List}
use Prim.Native.Nat.{ℕ, zero, suc, ◌+◌, ◌*◌, ◌≤◌, ◌<◌}
use native.Mathlib.Omega.{arith}
use lib.Dec.{leb, ltb}
use lib.ListN.{length}
use borrow.Author.Tests.{ltb-true, leb-true, lt-ltb, le-leb}
use Rattle.hall.specs.Refusals.{bad_uid, bad_retry, bad_sheet, most_retry}
use Rattle.sheet.specs.declared.Field.{Field}
use Rattle.sheet.specs.declared.Field.TheVariants.{Value, Refused}
use Rattle.words.specs.Words.{value}
use Rattle.sheet.specs.Formats.{Format, done, field, and_then, read}
use Rattle.sheet.specs.Sheets.{retry, times, packet}
use Rattle.sheet.proofs.Reading.{onward, read_done, read_sound, read_wrong, read_cut, read_cases, read_then, field_read, then_value, any_there, times_none}

-- a format behind another that was read to its end: so was each
onward_value : (r : Field) (k : ℕ → ℕ → Field) (v next : ℕ) → onward r k ≡ Value v next
    → (u : ℕ) × (m : ℕ) × (r ≡ Value u m) × (k u m ≡ Value v next)
onward_value (Value u m) k v next e = (u, m, refl, e)
onward_value (Refused number place) k v next e = let z : ◌≡◌ {A = ℕ} 0 1 = cc e in absurd (omega arith)

pub then_read : (f : Format) (g : ℕ → Format) (s : List ℕ) (at v next : ℕ) → read (and_then f g) s at ≡ Value v next
    → (u : ℕ) × (m : ℕ) × (read f s at ≡ Value u m) × (read (g u) s m ≡ Value v next)
then_read f g s at v next e = onward_value (read f s at) (λ u m. read (g u) s m) v next (sym (read_then f g s at) ∙ e)

-- a field with a format behind it that was read to its end: the field is whole and sound, and what is behind it was read
pub field_then : (width : ℕ) (sound : ℕ → Bool) (number : ℕ) (g : ℕ → Format) (s : List ℕ) (at v next : ℕ)
    → read (and_then (field width sound number done) g) s at ≡ Value v next
    → (at + width ≤ length s) × (sound (value s at width) ≡ true) × (read (g (value s at width)) s (at + width) ≡ Value v next)
unfolding and_then
field_then width sound number g s at v next e =
    read_cases s width sound number g at
    (λ h t. (h, t, sym (read_sound s width sound number g at h t) ∙ e))
    (λ h t. let q : Refused number at ≡ Value v next = sym (read_wrong s width sound number g at h t) ∙ e in
    let z : ◌≡◌ {A = ℕ} 0 1 = cc q in absurd (omega arith))
    (λ h. let q : Refused bad_sheet (length s) ≡ Value v next = sym (read_cut s width sound number g at h) ∙ e in
    let z : ◌≡◌ {A = ℕ} 0 1 = cc q in absurd (omega arith))

-- and the other way round
pub then_sound : (width : ℕ) (sound : ℕ → Bool) (number : ℕ) (g : ℕ → Format) (s : List ℕ) (at : ℕ)
    → at + width ≤ length s → sound (value s at width) ≡ true
    → read (and_then (field width sound number done) g) s at ≡ read (g (value s at width)) s (at + width)
unfolding and_then
then_sound width sound number g s at h t = read_sound s width sound number g at h t

-- a packet that was read: what its fields are
pub record PacketRead (limit : ℕ) (s : List ℕ) (at next : ℕ) : Type 0 where
  pub source : value s at 4 < limit
  pub dst : value s (at + 4) 4 < limit
  pub retry : value s (at + 8) 1 ≤ most_retry
  pub next_place : next ≡ at + 10
  pub there : at + 10 ≤ length s

pub packet_read : (limit : ℕ) (s : List ℕ) (at v next : ℕ) → read (packet limit) s at ≡ Value v next → PacketRead limit s at next
unfolding packet
packet_read limit s at v next e =
    let a = field_then 4 (λ x. ltb x limit) bad_uid _ s at v next e in
    let b = field_then 4 (λ x. ltb x limit) bad_uid _ s (at + 4) v next a.2 in
    let d = field_then 1 (λ x. leb x most_retry) bad_retry _ s (at + 4 + 4) v next b.2 in
    let f = field_read 1 (λ x. true) 0 s (at + 4 + 4 + 1) v next d.2 in
    let q : at + 4 + 4 ≡ at + 8 = omega arith in
    record {
      source = ltb-true (value s at 4) limit a.1;
      dst = ltb-true (value s (at + 4) 4) limit b.1;
      retry = rw (← q) (leb-true (value s (at + 4 + 4) 1) most_retry d.1);
      next_place = omega (arith, f.3);
      there = omega (arith, f.0);
    }

pub packet_sound : (limit : ℕ) (s : List ℕ) (at : ℕ) → value s at 4 < limit → value s (at + 4) 4 < limit → value s (at + 8) 1 ≤ most_retry
    → at + 10 ≤ length s → read (packet limit) s at ≡ Value (value s (at + 9) 1) (at + 10)
unfolding packet
packet_sound limit s at source dst retry there =
    let q : at + 8 ≡ at + 4 + 4 = omega arith in
    let p : at + 4 + 4 + 1 ≡ at + 9 = omega arith in
    let n : at + 9 + 1 ≡ at + 10 = omega arith in
    then_sound 4 (λ x. ltb x limit) bad_uid _ s at (omega arith) (lt-ltb (value s at 4) limit source)
    ∙ then_sound 4 (λ x. ltb x limit) bad_uid _ s (at + 4) (omega arith) (lt-ltb (value s (at + 4) 4) limit dst)
    ∙ then_sound 1 (λ x. leb x most_retry) bad_retry _ s (at + 4 + 4) (omega arith) (le-leb (value s (at + 4 + 4) 1) most_retry (rw (← q) retry))
    ∙ rw p (any_there s 1 (at + 9) (omega arith) ∙ ap (λ (m : ℕ). Value (value s (at + 9) 1) m) n)

-- a format of one width, so many times
module _ (f : Format) (width : ℕ) (s : List ℕ) (wide : (at v next : ℕ) → read f s at ≡ Value v next → next ≡ at + width) where
  pub times_width : (so-many at v next : ℕ) → read (times so-many f) s at ≡ Value v next → next ≡ at + width * so-many
  unfolding times
  times_width zero at v next e =
      let q : Value 0 at ≡ Value v next = sym (read_done 0 s at) ∙ e in
      let z : at ≡ next = cc q in
      omega arith
  times_width (suc rest) at v next e =
      let a = then_read f (λ x. times rest f) s at v next e in
      omega (arith, wide at a.0 a.1 a.2, times_width rest a.1 v next a.3)

  -- each of them was read
  pub times_each : (so-many at v next : ℕ) → read (times so-many f) s at ≡ Value v next → (i : ℕ) → i < so-many
      → (u : ℕ) × (m : ℕ) × (read f s (at + width * i) ≡ Value u m)
  unfolding times
  times_each zero at v next e i h = absurd (omega arith)
  times_each (suc rest) at v next e zero h =
      let a = then_read f (λ x. times rest f) s at v next e in
      let q : at + width * 0 ≡ at = omega arith in
      (a.0, a.1, rw q a.2)
  times_each (suc rest) at v next e (suc i) h =
      let a = then_read f (λ x. times rest f) s at v next e in
      let b = times_each rest a.1 v next a.3 i (omega arith) in
      let q : at + width * suc i ≡ a.1 + width * i = omega (arith, wide at a.0 a.1 a.2) in
      (b.0, b.1, rw q b.2)

  -- reading goes on behind the first ones, where each of them is read
  pub times_past : (i rest at : ℕ) → ((j : ℕ) → j < i → (u : ℕ) × (m : ℕ) × (read f s (at + width * j) ≡ Value u m))
      → read (times (i + rest) f) s at ≡ read (times rest f) s (at + width * i)
  unfolding times
  times_past zero rest at each =
      let q : at + width * 0 ≡ at = omega arith in
      let p : 0 + rest ≡ rest = omega arith in
      rw (q, p)
  times_past (suc i) rest at each =
      let a = each 0 (omega arith) in
      let z : at + width * 0 ≡ at = omega arith in
      let e : read f s at ≡ Value a.0 a.1 = rw z at a.2 in
      let w = wide at a.0 a.1 e in
      let n : at + width * suc i ≡ at + width + width * i = omega arith in
      let p : suc i + rest ≡ suc (i + rest) = omega arith in
      ap (λ (m : ℕ). read (times m f) s at) p
      ∙ then_value f (λ x. times (i + rest) f) s at a.0 a.1 e
      ∙ rw (w, n) (times_past i rest (at + width) (λ j l.
      let b = each (suc j) (omega arith) in
      let p : at + width + width * j ≡ at + width * suc j = omega arith in
      (b.0, b.1, rw p b.2)))

  -- all are read where each is
  pub times_all : (so-many at : ℕ) → ((i : ℕ) → i < so-many → (u : ℕ) × (m : ℕ) × (read f s (at + width * i) ≡ Value u m))
      → read (times so-many f) s at ≡ Value 0 (at + width * so-many)
  times_all so-many at each =
      let q : so-many ≡ so-many + 0 = omega arith in
      ap (λ (n : ℕ). read (times n f) s at) q ∙ times_past so-many 0 at each ∙ sym (times_none f s (at + width * so-many))
