-- `route::fill` meets its contract: a route is made as its definition recurses, the second part written behind the first. The measure
-- is the level.
use mathlib.Core.Path.{◌≡◌}
use Prim.Native.Nat.{ℕ, ◌<◌}
use native.Mathlib.Omega.{arith}
use Rattle.route.specs.Filling.{per_switch}
use Rattle.route.proofs.Inside.{size_pos}
use Rattle.route.proofs.Filling.{room_low, room_below, room_behind, put_filled, one_inside, one_route, here_inside, there_inside, two_route, stored_join}
use Rattle.route.proofs.+fill.Goals as goal

above_zero : {level : ℕ} → (level ≡ 0 → ⊥) → 0 < level
above_zero d = omega arith

pub put-requires : goal.put-requires
put-requires t c = room_low c.requires.1 c.if-level-eq0.true

pub returns-then-level-eq0 : goal.returns-then-level-eq0
returns-then-level-eq0 t c =
    let it = put_filled (per_switch c.args.sizes.now) _ _ _ _ c.if-level-eq0.true (c.put.ensures.next, c.put.ensures.filled) in record { next = it.0; filled = it.1 }

pub nonzero_div-p : goal.nonzero_div-p
nonzero_div-p t c = size_pos c.requires.0 (above_zero c.if-level-eq0.false)

pub nonzero_div-q : goal.nonzero_div-q
nonzero_div-q t c = size_pos c.requires.0 (above_zero c.if-level-eq0.false)

pub nonzero_rem-from_inside : goal.nonzero_rem-from_inside
nonzero_rem-from_inside t c = size_pos c.requires.0 (above_zero c.if-level-eq0.false)

pub nonzero_rem-to_inside : goal.nonzero_rem-to_inside
nonzero_rem-to_inside t c = size_pos c.requires.0 (above_zero c.if-level-eq0.false)

pub fill-requires : goal.fill-requires
fill-requires t c =
    let h = above_zero c.if-level-eq0.false in (omega arith, (one_inside c.requires.0 c.requires.1 h c.if-p-q.true, room_below c.requires.1 h))

pub returns-then-p-q : goal.returns-then-p-q
returns-then-p-q t c =
    let e = one_route c.requires.0 c.requires.1 (above_zero c.if-level-eq0.false) c.if-p-q.true in record { next = rw e c.fill.ensures.next; filled = rw e c.fill.ensures.filled }

pub overflow_add-here-then-below-eq0-2 : goal.overflow_add-here-then-below-eq0-2
overflow_add-here-then-below-eq0-2 t c =
    let j = here_inside c.requires.0 c.requires.1 (above_zero c.if-level-eq0.false) c.if-p-q.false c.port_to-out.ensures in omega (arith, j.fits, j.to_in)

pub put-middle-requires : goal.put-middle-requires
put-middle-requires t c = room_low (room_below c.requires.1 (above_zero c.if-level-eq0.false)) c.if-below-eq0.true

pub overflow_add-there-then-below-eq0 : goal.overflow_add-there-then-below-eq0
overflow_add-there-then-below-eq0 t c =
    let j = there_inside c.requires.0 c.requires.1 (above_zero c.if-level-eq0.false) c.if-p-q.false c.port_to-into.ensures in omega (arith, j.fits, j.from_in)

pub put-requires-then-below-eq0 : goal.put-requires-then-below-eq0
put-requires-then-below-eq0 t c =
    let f = c.put-middle.ensures in
    let p = put_filled (per_switch c.args.sizes.now) _ _ _ _ c.if-below-eq0.true (f.next, f.filled) in
    room_low (room_behind c.requires.0 c.requires.1 (above_zero c.if-level-eq0.false) c.if-p-q.false c.port_to-out.ensures p.0 p.1) c.if-below-eq0.true

pub returns-then-below-eq0 : goal.returns-then-below-eq0
returns-then-below-eq0 t c =
    let f = c.put-middle.ensures in
    let z = c.put-then-below-eq0.ensures in
    let p = put_filled (per_switch c.args.sizes.now) _ _ _ _ c.if-below-eq0.true (f.next, f.filled) in
    let q = put_filled (per_switch c.args.sizes.now) _ _ _ _ c.if-below-eq0.true (z.next, z.filled) in
    let it = stored_join _ _ _ _ (two_route c.requires.0 c.requires.1 (above_zero c.if-level-eq0.false) c.if-p-q.false c.port_to-out.ensures c.port_to-into.ensures) p.0 p.1 q.0 q.1 in
    record { next = it.0; filled = it.1 }

pub fill-middle-requires : goal.fill-middle-requires
fill-middle-requires t c =
    let h = above_zero c.if-level-eq0.false in
    (omega arith, (here_inside c.requires.0 c.requires.1 h c.if-p-q.false c.port_to-out.ensures, room_below c.requires.1 h))

pub fill-requires-2 : goal.fill-requires-2
fill-requires-2 t c =
    let h = above_zero c.if-level-eq0.false in
    let f = c.fill-middle.ensures in (
      omega arith,
      (
        there_inside c.requires.0 c.requires.1 h c.if-p-q.false c.port_to-into.ensures,
        room_behind c.requires.0 c.requires.1 h c.if-p-q.false c.port_to-out.ensures f.next f.filled,
      ),
    )

pub returns : goal.returns
returns t c =
    let f = c.fill-middle.ensures in
    let z = c.fill-2.ensures in
    let it = stored_join _ _ _ _ (two_route c.requires.0 c.requires.1 (above_zero c.if-level-eq0.false) c.if-p-q.false c.port_to-out.ensures c.port_to-into.ensures)
    f.next f.filled z.next z.filled in
    record { next = it.0; filled = it.1 }
