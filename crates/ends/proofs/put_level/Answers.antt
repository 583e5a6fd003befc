-- `ends::put_level` meets its contract: after p turns the codes for the first p places of the cell stand in the room.
use mathlib.Core.Path.{◌≡◌, refl, ◌∙◌, ap}
use Prim.Native.Nat.{suc, ◌+◌, ◌-◌, ◌*◌, ◌/◌, ◌≤◌, ◌<◌}
use native.Mathlib.Nat.{mod-lt, mul-le-mul_right}
use native.Mathlib.Numerals.{add-one}
use native.Mathlib.Omega.{arith}
use lib.ListN.{length}
use Rattle.hall.specs.Cells.{t, neighbour}
use Rattle.hall.specs.Halls.{servers}
use Rattle.hall.proofs.Growth.{valid_known, valid_size, size_of_lem}
use Rattle.cells.proofs.Stated.{neighbour_known, neighbour_is}
use Rattle.local.specs.Local.{cell_size, first_of}
use Rattle.local.proofs.Sizes.{cell_size_lem, size_pos}
use Rattle.ends.specs.Tables.{levels, far_code}
use Rattle.ends.specs.Filling.{spread}
use Rattle.ends.proofs.Codes.{first_by, first_in_lem, size_some, far_is, far_fits, far_read, cell_few, all_far}
use Rattle.ends.proofs.put_level.Goals.{In-loop-p, After-unwrap-far, After-struct_known-1}
use Rattle.ends.proofs.put_level.Goals as goal

counted : (c : After-struct_known-1) → c.size_of-count.result ≡ cell_size c.args.h
counted c = cell_size_lem _ _ c.requires.0 c.size_of-count.ensures

sized : (c : After-struct_known-1) → let a = c.args in c.size_of-size.result ≡ t a.h.n (a.level - 1)
sized c = let p = c.requires in size_of_lem _ _ _ p.0 (omega (arith, p.3)) c.size_of-size.ensures

first_is : (c : After-struct_known-1) → let a = c.args in
    a.uid / c.size_of-count.result * c.size_of-count.result ≡ first_of a.h a.uid
first_is c = first_by c.args.h c.args.uid _ (counted c)

far_told : (c : After-unwrap-far) → let a = c.args in
    let first = a.uid / c.size_of-count.result * c.size_of-count.result in
    c.unwrap-far.result ≡ neighbour a.h.n (a.level - 1) first
far_told c = neighbour_is _ _ _ c.requires.0 (rw (first_by c.args.h c.args.uid _ (cell_size_lem _ _ c.requires.0 c.size_of-count.ensures)) (first_in_lem c.args.h c.requires.0 c.args.uid c.args.level c.requires.1 c.requires.2 c.requires.3)) (omega (arith, c.requires.2)) c.requires.3
    _ _ c.neighbour_of.ensures c.unwrap-far.ensures

some : (c : After-unwrap-far) → 0 < c.size_of-size.result
some c = size_some c.args.h c.requires.0 c.args.uid c.args.level c.requires.1 c.requires.2 c.requires.3 _ _ _ _ (cell_size_lem _ _ c.requires.0 c.size_of-count.ensures) (size_of_lem _ _ _ c.requires.0 (omega (arith, c.requires.3)) c.size_of-size.ensures) (first_by c.args.h c.args.uid _ (cell_size_lem _ _ c.requires.0 c.size_of-count.ensures)) (far_told c)

-- the next place is in the room
stands_in : (c : In-loop-p) → c.args.at + c.loop-p.p * levels c.args.h < length c.args.room.now
stands_in c =
    let l = c.loop-p in
    let m : suc l.p * levels c.args.h ≤ c.size_of-count.result * levels c.args.h = mul-le-mul_right (levels c.args.h) c.loop-p-test.true in
    omega (arith, m, all_far c.args.h c.requires.0 _ (cell_size_lem _ _ c.requires.0 c.size_of-count.ensures), c.requires.4)

pub nonzero_div-first : goal.nonzero_div-first
nonzero_div-first c = omega (arith, counted (goal.at.nonzero_div-first c).After-struct_known-1, size_pos _ (valid_known _ c.requires.0))

pub unwrap-far-requires : goal.unwrap-far-requires
unwrap-far-requires c =
    let n = c.size_of-count.result in
    let low : c.args.uid / n * n < servers c.args.h =
    rw (first_is (goal.at.unwrap-far-requires c).After-struct_known-1) (first_in_lem c.args.h c.requires.0 c.args.uid c.args.level c.requires.1 c.requires.2 c.requires.3) in
    neighbour_known _ _ _ c.requires.0 low (omega (arith, c.requires.2)) c.requires.3 _ c.neighbour_of.ensures

pub nonzero_rem-inside : goal.nonzero_rem-inside
nonzero_rem-inside c = some (goal.at.nonzero_rem-inside c).After-unwrap-far

pub nonzero_div-sub : goal.nonzero_div-sub
nonzero_div-sub c = some (goal.at.nonzero_div-sub c).After-unwrap-far

pub overflow_add-sub : goal.overflow_add-sub
overflow_add-sub c = omega (arith, sized (goal.at.overflow_add-sub c).After-struct_known-1, valid_size c.args.h (valid_known c.args.h c.requires.0) (c.args.level - 1) (omega (arith, c.requires.3)))

pub loop-p-init : goal.loop-p-init
unfolding spread
loop-p-init c = refl

pub far_behind-requires : goal.far_behind-requires
far_behind-requires c =
    let m = mod-lt (c.args.uid / c.size_of-count.result * c.size_of-count.result) (some (goal.at.far_behind-requires c).After-unwrap-far) in
    let f = far_fits c.args.h c.requires.0 c.args.uid c.args.level c.requires.1 c.requires.2 c.requires.3 _ _ _ _ (counted (goal.at.far_behind-requires c).After-struct_known-1) (sized (goal.at.far_behind-requires c).After-struct_known-1) (first_is (goal.at.far_behind-requires c).After-struct_known-1) (far_told (goal.at.far_behind-requires c).After-unwrap-far)
    c.loop-p.p c.loop-p-test.true in
    (omega (arith, m, c.loop-p-test.true, counted (goal.at.far_behind-requires c).After-struct_known-1, cell_few c.args.h c.requires.0, sized (goal.at.far_behind-requires c).After-struct_known-1, valid_size c.args.h (valid_known c.args.h c.requires.0) (c.args.level - 1) (omega (arith, c.requires.3))), omega (arith, f))

pub overflow_add-place : goal.overflow_add-place
overflow_add-place c = omega (arith, stands_in (goal.at.overflow_add-place c).In-loop-p)

pub bounds-room-place : goal.bounds-room-place
bounds-room-place c = omega (arith, stands_in (goal.at.bounds-room-place c).In-loop-p, c.loop-p.auto.room)

pub loop-p-preserved : goal.loop-p-preserved
unfolding spread
loop-p-preserved c =
    let l = c.loop-p in
    let f = far_is c.args.h c.requires.0 c.args.uid c.args.level c.requires.1 c.requires.2 c.requires.3 _ _ _ _ (counted (goal.at.loop-p-preserved c).After-struct_known-1) (sized (goal.at.loop-p-preserved c).After-struct_known-1) (first_is (goal.at.loop-p-preserved c).After-struct_known-1) (far_told (goal.at.loop-p-preserved c).After-unwrap-far)
    l.p c.loop-p-test.true in
    let r = far_read c.args.h c.args.table.now (first_of c.args.h c.args.uid + l.p) c.args.level _ c.code_at.result c.code_at.ensures (c.far_behind.ensures ∙ f) in
    rw (l.invariant, r, add-one l.p)

pub returns : goal.returns
returns c =
    let l = c.loop-p in
    let e : l.p ≡ cell_size c.args.h = omega (arith, l.auto.p-end, c.loop-p-test.false, counted (goal.at.returns c).After-struct_known-1) in
    l.invariant ∙ ap (spread c.args.room.now c.args.at (levels c.args.h) (λ q. far_code c.args.h c.args.table.now (first_of c.args.h c.args.uid + q) c.args.level)) e
