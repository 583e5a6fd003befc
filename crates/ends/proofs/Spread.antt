-- Lists that are spread over a room one by one stand there as their members one behind the other: a place is a list's number and a place in
-- it, in one way alone.
use mathlib.Core.Path.{◌≡◌, refl, sym, ◌∙◌, ap}
use mathlib.Core.List.{List, ◌++◌}
use Prim.Native.Nat.{ℕ, zero, suc, ◌+◌, ◌-◌, ◌*◌, ◌/◌, ◌%◌, ◌≤◌, ◌<◌}
use native.Mathlib.Nat.{mod-lt, div-add-mod', div-lt_iff_lt-mul, mul-le-mul_right}
use native.Mathlib.Omega.{arith}
use lib.Dec.{eqb, ltb}
use lib.Arith.{digits_lt, digits_mod}
use lib.ListN.{length, get_or, take, drop, length-set, length-append, get_or-append}
use lib.Seq.{ext_get_or, get_or-set_same, get_or-set_other, get_or-append-add, get_or-take, get_or-drop, length-take-le}
use borrow.Author.Tests.{eqb-true, eqb-false, ltb-true, ltb-false}
use Rattle.combine.specs.Lists.{up_to}
use Rattle.combine.proofs.Tests.{cases}
use Rattle.combine.proofs.Lists.{length-up_to, get_or-up_to, up_to_cong}
use Rattle.words.specs.Rooms.{put}
use Rattle.words.proofs.Rooms.{put_none, length-put}
use Rattle.ends.specs.Filling.{spread, layered}

module _ (m : ℕ) where
  pub length-spread : (room : List ℕ) (at : ℕ) (f : ℕ → ℕ) (count : ℕ) → length (spread room at m f count) ≡ length room
  unfolding spread
  length-spread room at f zero = refl
  length-spread room at f (suc p) = length-set (spread room at m f p) (at + p * m) (f p) ∙ length-spread room at f p

  -- what is not written stays
  spread_other : (room : List ℕ) (at : ℕ) (f : ℕ → ℕ) (count i : ℕ) → ((p : ℕ) → p < count → i ≡ at + p * m → ⊥)
      → get_or (spread room at m f count) i 0 ≡ get_or room i 0
  unfolding spread
  spread_other room at f zero i h = refl
  spread_other room at f (suc p) i h =
      get_or-set_other {A = ℕ} (spread room at m f p) (at + p * m) i (f p) 0 (h p (omega arith))
      ∙ spread_other room at f p i (λ q l. h q (omega arith))

  -- what is written is read
  spread_at : (room : List ℕ) (at : ℕ) (f : ℕ → ℕ) (count p : ℕ) → 0 < m → p < count → at + p * m < length room
      → get_or (spread room at m f count) (at + p * m) 0 ≡ f p
  unfolding spread
  spread_at room at f zero p pos l w = absurd (omega arith)
  spread_at room at f (suc q) p pos l w = cases (eqb p q)
      (λ e. let z = eqb-true p q e in rw z (get_or-set_same {A = ℕ} (spread room at m f q) (at + q * m) (f q) 0 (rw (length-spread room at f q, ← z) w)))
      (λ e. let z = eqb-false p q e in
      let d : p < q = omega arith in
      get_or-set_other {A = ℕ} (spread room at m f q) (at + q * m) (at + p * m) (f q) 0 (λ k. omega (arith, mul-le-mul_right m d))
      ∙ spread_at room at f q p pos d w)

  -- a place behind those written is as it was
  pub spread_ahead : (room : List ℕ) (at : ℕ) (f : ℕ → ℕ) (count p : ℕ) → 0 < m → count ≤ p
      → get_or (spread room at m f count) (at + p * m) 0 ≡ get_or room (at + p * m) 0
  spread_ahead room at f count p pos l = spread_other room at f count (at + p * m) (λ q k e. let d : q < p = omega arith in omega (arith, mul-le-mul_right m d))

  -- and so are the places of another list
  spread_apart : (room : List ℕ) (at : ℕ) (f : ℕ → ℕ) (count d p e : ℕ) → d < m → e < m → (e ≡ d → ⊥)
      → get_or (spread room (at + d) m f count) (at + (p * m + e)) 0 ≡ get_or room (at + (p * m + e)) 0
  spread_apart room at f count d p e l k z = spread_other room (at + d) f count (at + (p * m + e))
      (λ r o g. let s : p * m + e ≡ r * m + d = omega arith in
      z (sym (digits_mod p k) ∙ ap (λ (y : ℕ). y % m) s ∙ digits_mod r l))

  -- equal members are spread alike
  pub spread_cong : (room : List ℕ) (at : ℕ) (f g : ℕ → ℕ) (count : ℕ) → ((p : ℕ) → p < count → f p ≡ g p)
      → spread room at m f count ≡ spread room at m g count
  unfolding spread
  spread_cong room at f g zero e = refl
  spread_cong room at f g (suc p) e = rw (spread_cong room at f g p (λ q l. e q (omega arith)), e p (omega arith))

  pub length-layered : (room : List ℕ) (at : ℕ) (f : ℕ → ℕ → ℕ) (count d : ℕ) → length (layered room at m f count d) ≡ length room
  unfolding layered
  length-layered room at f count zero = refl
  length-layered room at f count (suc d) = length-spread (layered room at m f count d) (at + d) (f d) count ∙ length-layered room at f count d

  -- outside of the m × count places nothing is written
  layered_outside : (room : List ℕ) (at : ℕ) (f : ℕ → ℕ → ℕ) (count d i : ℕ) → d ≤ m
      → ((q : ℕ) → q < count * m → i ≡ at + q → ⊥) → get_or (layered room at m f count d) i 0 ≡ get_or room i 0
  unfolding layered
  layered_outside room at f count zero i l h = refl
  layered_outside room at f count (suc d) i l h =
      spread_other (layered room at m f count d) (at + d) (f d) count i
      (λ p k e. h (p * m + d) (digits_lt k l) (e ∙ omega arith))
      ∙ layered_outside room at f count d i (omega arith) h

  -- place p of list e: written once the lists up to it are
  layered_at : (room : List ℕ) (at : ℕ) (f : ℕ → ℕ → ℕ) (count d p e : ℕ) → d ≤ m → p < count → e < d → at + count * m ≤ length room
      → get_or (layered room at m f count d) (at + (p * m + e)) 0 ≡ f e p
  unfolding layered
  layered_at room at f count zero p e l k h w = absurd (omega arith)
  layered_at room at f count (suc d) p e l k h w = cases (eqb e d)
      (λ q. let z = eqb-true e d q in
      let a : at + (p * m + d) ≡ at + d + p * m = omega arith in
      let b : p * m + d < count * m = digits_lt k l in
      rw (z, a) (spread_at (layered room at m f count d) (at + d) (f d) count p (omega arith) k (rw (length-layered room at f count d) (omega arith))))
      (λ q. let z = eqb-false e d q in
      spread_apart (layered room at m f count d) at (f d) count d p e l (omega arith) z
      ∙ layered_at room at f count d p e (omega arith) k (omega arith) w)

  -- place p of list e: as it was until that list is written
  pub layered_later : (room : List ℕ) (at : ℕ) (f : ℕ → ℕ → ℕ) (count d p e : ℕ) → d ≤ e → e < m
      → get_or (layered room at m f count d) (at + (p * m + e)) 0 ≡ get_or room (at + (p * m + e)) 0
  unfolding layered
  layered_later room at f count zero p e l k = refl
  layered_later room at f count (suc d) p e l k =
      spread_apart (layered room at m f count d) at (f d) count d p e (omega arith) k (λ q. omega arith)
      ∙ layered_later room at f count d p e (omega arith) k

-- what stands in a room with bytes put at a place
module _ (room : List ℕ) (at : ℕ) (bytes : List ℕ) (w : at + length bytes ≤ length room) where
  head_long : length (take at room) ≡ at
  head_long = length-take-le at room (omega arith)

  put_at : (q : ℕ) → q < length bytes → get_or (put room at bytes) (at + q) 0 ≡ get_or bytes q 0
  unfolding put
  put_at q l =
      let e : at + q ≡ length (take at room) + q = omega (arith, head_long) in
      let k : at + q < length (take at room ++ bytes) = omega (arith, head_long, length-append (take at room) bytes) in
      get_or-append {A = ℕ} (take at room ++ bytes) (drop (at + length bytes) room) 0 (at + q) k
      ∙ ap (λ (i : ℕ). get_or (take at room ++ bytes) i 0) e
      ∙ get_or-append-add {A = ℕ} (take at room) bytes q 0

  put_before : (i : ℕ) → i < at → get_or (put room at bytes) i 0 ≡ get_or room i 0
  unfolding put
  put_before i l =
      let a : i < length (take at room) = omega (arith, head_long) in
      let k : i < length (take at room ++ bytes) = omega (arith, length-append (take at room) bytes) in
      get_or-append {A = ℕ} (take at room ++ bytes) (drop (at + length bytes) room) 0 i k
      ∙ get_or-append {A = ℕ} (take at room) bytes 0 i a
      ∙ get_or-take {A = ℕ} at room i 0 l

  pub put_behind : (i : ℕ) → at + length bytes ≤ i → get_or (put room at bytes) i 0 ≡ get_or room i 0
  unfolding put
  put_behind i l =
      let n : length (take at room ++ bytes) ≡ at + length bytes = omega (arith, head_long, length-append (take at room) bytes) in
      let e : i ≡ length (take at room ++ bytes) + (i - (at + length bytes)) = omega arith in
      let r : at + length bytes + (i - (at + length bytes)) ≡ i = omega arith in
      ap (λ (v : ℕ). get_or ((take at room ++ bytes) ++ drop (at + length bytes) room) v 0) e
      ∙ get_or-append-add {A = ℕ} (take at room ++ bytes) (drop (at + length bytes) room) (i - (at + length bytes)) 0
      ∙ get_or-drop {A = ℕ} (at + length bytes) room (i - (at + length bytes)) 0
      ∙ ap (λ (v : ℕ). get_or room v 0) r

-- all m lists together
module _ (room : List ℕ) (at m : ℕ) (f : ℕ → ℕ → ℕ) (count : ℕ) (pos : 0 < m) (w : at + count * m ≤ length room) where
  bytes : List ℕ
  bytes = up_to (λ q. f (q % m) (q / m)) (count * m)

  many : length bytes ≡ count * m
  unfolding bytes
  many = length-up_to (λ q. f (q % m) (q / m)) (count * m)

  inside : (q : ℕ) → q < count * m → get_or (layered room at m f count m) (at + q) 0 ≡ get_or (put room at bytes) (at + q) 0
  unfolding bytes
  inside q l =
      let e : q / m * m + q % m ≡ q = div-add-mod' q m in
      ap (λ (i : ℕ). get_or (layered room at m f count m) (at + i) 0) (sym e)
      ∙ layered_at m room at f count m (q / m) (q % m) (omega arith) ((div-lt_iff_lt-mul pos).1 l) (mod-lt q pos) w
      ∙ sym (put_at room at bytes (rw many w) q (rw many l) ∙ get_or-up_to (λ q. f (q % m) (q / m)) (count * m) q 0 l)

  each : (i : ℕ) → get_or (layered room at m f count m) i 0 ≡ get_or (put room at bytes) i 0
  each i = cases (ltb i at)
      (λ e. let l = ltb-true i at e in
      layered_outside m room at f count m i (omega arith) (λ q _ k. omega arith) ∙ sym (put_before room at bytes (rw many w) i l))
      (λ e. cases (ltb i (at + count * m))
      (λ g. let q : ℕ = i - at in
      let k : at + (i - at) ≡ i = omega (arith, ltb-false i at e) in
      let l : i - at < count * m = omega (arith, ltb-false i at e, ltb-true i (at + count * m) g) in
      rw k at (inside (i - at) l))
      (λ g. let l = ltb-false i (at + count * m) g in
      layered_outside m room at f count m i (omega arith) (λ q o k. omega arith) ∙ sym (put_behind room at bytes (rw many w) i (rw many l))))

  layered_put : layered room at m f count m ≡ put room at (up_to (λ q. f (q % m) (q / m)) (count * m))
  unfolding bytes
  layered_put = ext_get_or {A = ℕ} 0 (layered room at m f count m) (put room at bytes)
      (length-layered m room at f count m ∙ sym (length-put room at bytes (rw many w)))
      (λ i _. each i)

-- with no list nothing is put
layered_none : (room : List ℕ) (at m : ℕ) (f : ℕ → ℕ → ℕ) (g : ℕ → ℕ) (count bytes : ℕ) → m ≡ 0 → bytes ≡ 0
    → layered room at m f count m ≡ put room at (up_to g bytes)
unfolding layered up_to
layered_none room at m f g count bytes e z = rw (e, z) (sym (put_none room at))

-- any number of lists together are their members one behind the other
pub layered_all : (room : List ℕ) (at m : ℕ) (f : ℕ → ℕ → ℕ) (g : ℕ → ℕ) (count : ℕ) → at + count * m ≤ length room
    → ((q : ℕ) → q < count * m → f (q % m) (q / m) ≡ g q) → layered room at m f count m ≡ put room at (up_to g (count * m))
layered_all room at m f g count w same = cases (ltb 0 m)
    (λ e. layered_put room at m f count (ltb-true 0 m e) w ∙ ap (put room at) (up_to_cong (λ q. f (q % m) (q / m)) g (count * m) same))
    (λ e. let z : m ≡ 0 = omega (arith, ltb-false 0 m e) in layered_none room at m f g count (count * m) z (rw z (omega arith)))
