-- A number and its bytes: how many there are, and that the number is read from them wherever they stand.
use mathlib.Core.Path.{◌≡◌, refl, sym, ◌∙◌, ap}
use mathlib.Core.List.{List, [], ◌∷◌, ◌++◌}
use Prim.Native.Nat.{ℕ, zero, suc, ◌+◌, ◌^◌, ◌/◌, ◌%◌, ◌<◌}
use native.Mathlib.Nat.{div-add-mod', div-lt_iff_lt-mul, pow-suc}
use native.Mathlib.Omega.{arith}
use lib.Arith.{digits_lt}
use lib.ListN.{length, get_or, drop, length-append}
use lib.Seq.{append_snoc, get_or_at, get_or-drop, drop_at, drop-drop}
use Rattle.words.specs.Words.{Bytes, bytes_of, value}

pub bytes_long : (width v : ℕ) → length (bytes_of width v) ≡ width
unfolding bytes_of
bytes_long zero v = refl
bytes_long (suc width) v = omega (arith, length-append (bytes_of width (v / 256)) (v % 256 ∷ []), bytes_long width (v / 256))

-- a number is read from its bytes
pub value_laid : (s : List ℕ) (at width v : ℕ) (post : List ℕ) → v < 256 ^ width → drop at s ≡ bytes_of width v ++ post → value s at width ≡ v
unfolding value bytes_of
value_laid s at zero v post h e = omega arith
value_laid s at (suc width) v post h e =
    let d : drop at s ≡ bytes_of width (v / 256) ++ (v % 256 ∷ post) = e ∙ append_snoc (bytes_of width (v / 256)) (v % 256) post in
    let g : get_or s (at + width) 0 ≡ v % 256 =
    sym (get_or-drop at s width 0) ∙ ap (λ (l : List ℕ). get_or l width 0) d
    ∙ get_or_at (bytes_of width (v / 256)) (v % 256) post 0 width (bytes_long width (v / 256)) in
    let q : value s at width ≡ v / 256 = value_laid s at width (v / 256) (v % 256 ∷ post) ((div-lt_iff_lt-mul {k = 256} (omega arith)).1 (rw (← pow-suc 256 width) h)) d in
    rw (q, g) (div-add-mod' v 256)

-- what stands behind them
pub drop-laid : (s : List ℕ) (at width v : ℕ) (post : List ℕ) → drop at s ≡ bytes_of width v ++ post → drop (at + width) s ≡ post
drop-laid s at width v post e = sym (drop-drop width at s) ∙ ap (drop width) e ∙ drop_at (bytes_of width v) post width (bytes_long width v)

-- a value of bytes fits
pub value_fits : (s : List ℕ) → Bytes s → (at width : ℕ) → value s at width < 256 ^ width
unfolding value
value_fits s b at zero = omega arith
value_fits s b at (suc width) = rw (pow-suc 256 width) (digits_lt (value_fits s b at width) (b.below (at + width)))
