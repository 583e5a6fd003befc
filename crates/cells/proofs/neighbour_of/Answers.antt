-- `cells::neighbour_of` meets its contract: sub-cells of level i - 1 have t(i - 1) servers, and a neighbour is in the hall.
use mathlib.Core.Path.{◌≡◌, sym, ◌∙◌, ap}
use Prim.Native.Nat.{ℕ, ◌-◌, ◌<◌}
use native.Mathlib.Omega.{arith}
use Rattle.hall.specs.declared.Hall.{Hall}
use Rattle.hall.specs.Cells.{t, neighbour_over, neighbour}
use Rattle.hall.specs.Halls.{servers}
use Rattle.hall.proofs.Growth.{valid_size, size_of_lem}
use Rattle.hall.proofs.Links.{neighbour_in}
use Rattle.cells.proofs.Asks.{SoundLevel, level_known}
use Rattle.cells.proofs.neighbour_of.Goals.{After-neighbour_over-joined, After-size_of, In_ok-refused_level}
use Rattle.cells.proofs.neighbour_of.Goals as goal

known : (c : In_ok-refused_level) → let a = c.args in SoundLevel a.h a.uid 1 a.level
known c = level_known _ _ _ _ (sym c.in_ok-refused_level.ensures)

sized : (c : After-size_of) → let a = c.args in c.size_of.result ≡ t a.h.n (a.level - 1)
sized c = let k = known c.before in size_of_lem _ _ _ k.sound (omega (arith, k.high)) c.size_of.ensures

-- what the kernel answers at the size of level i - 1
is_neighbour : (n u i s r : ℕ) → s ≡ t n (i - 1) → r ≡ neighbour_over s u → r ≡ neighbour n (i - 1) u
unfolding neighbour
is_neighbour n u i s r e f = f ∙ ap (λ (k : ℕ). neighbour_over k u) e

fits : (h : Hall) (u i r : ℕ) → SoundLevel h u 1 i → r ≡ neighbour h.n (i - 1) u → r < 4294967296
unfolding servers
fits h u i r k e =
    let b = neighbour_in h.n (omega (arith, k.known.n_low)) (i - 1) h.k u (omega (arith, k.low, k.high)) k.below in
    omega (arith, valid_size h k.known h.k (omega arith))

joined : (c : After-neighbour_over-joined) → let a = c.args in c.neighbour_over-joined.result ≡ neighbour a.h.n (a.level - 1) a.uid
joined c = let a = c.args in
    is_neighbour a.h.n a.uid a.level _ _ (sized c.before) c.neighbour_over-joined.ensures

pub overflow_sub-level : goal.overflow_sub-level
overflow_sub-level c = omega (arith, (known (goal.at.overflow_sub-level c).In_ok-refused_level).low)

pub overflow_cast-result : goal.overflow_cast-result
overflow_cast-result c =
    let a = c.args in
    let f = fits a.h a.uid a.level _ (known (goal.at.overflow_cast-result c).In_ok-refused_level) (joined (goal.at.overflow_cast-result c).After-neighbour_over-joined) in
    omega arith

pub returns : goal.returns
returns c = rw (← c.in_ok-refused_level.ensures, joined (goal.at.returns c).After-neighbour_over-joined)
