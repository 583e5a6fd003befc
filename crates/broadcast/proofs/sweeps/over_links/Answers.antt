-- `broadcast::sweeps::over_links` meets its contract: the loop has swept the servers that it has passed, and keeps the place of the next.
use mathlib.Core.Path.{◌≡◌, ◌∙◌, sym, ap}
use mathlib.Core.Bool.{Bool}
use mathlib.Core.List.{List}
use Prim.Native.Nat.{ℕ, ◌+◌}
use native.Mathlib.Omega.{arith}
use Rattle.combine.specs.Tests.{both}
use Rattle.ports.specs.Links.{both_up}
use Rattle.broadcast.specs.Sweeps.{Sweep, reached_by, over_link, on_links, fresh}
use Rattle.broadcast.proofs.Marks.{below, sweep_none, sweep_skip, sweep_store, fresh_now}
use Rattle.broadcast.proofs.Grid.{place_start, place_next}
use Rattle.broadcast.proofs.Reaches.{links_start, link_here, reads_same, size_inside, neighbour_inside, near_is, links_pos, links_place}
use Rattle.broadcast.proofs.sweeps.over_links.Goals.{then-is_reached, else-is_reached}
use Rattle.broadcast.proofs.sweeps.over_links.Goals as goal

pub loop-x-init : goal.loop-x-init
loop-x-init c =
    let a = c.args in (
      place_start a.cell (links_pos a.h a.size a.j a.cell a.r a.room.now c.requires),
      sweep_none (below (over_link a.h a.table.now (reached_by a.r a.room.now) a.j) 0) a.r a.room.now (links_start a.h a.table.now (reached_by a.r a.room.now) a.j a.room.now),
    )

pub neighbour_at-requires : goal.neighbour_at-requires
neighbour_at-requires c =
    let a = c.args in
    rw c.loop-x.invariant.0 (links_place a.h a.size a.j a.cell a.r a.room.now c.requires c.loop-x.x c.loop-x-test.true)

pub is_reached-requires : goal.is_reached-requires
is_reached-requires c =
    let a = c.args in
    let k = c.requires in
    let w = c.loop-x in
    let y = near_is a.h.n a.j a.cell w.x c.neighbour_at.result w.p k.cell_is w.invariant.0 c.neighbour_at.ensures in
    let b = neighbour_inside a.h k.scope a.size a.r a.room.now k.fits a.j w.x k.below c.loop-x-test.true in
    (omega (arith, size_inside a.h k.scope a.size a.r a.room.now k.fits), omega (arith, y, b))

pub next_place-p-requires : goal.next_place-p-requires
next_place-p-requires c =
    let a = c.args in
    rw c.loop-x.invariant.0 (links_place a.h a.size a.j a.cell a.r a.room.now c.requires c.loop-x.x c.loop-x-test.true)

pub loop-x-preserved : goal.loop-x-preserved
loop-x-preserved c =
    let a = c.args in
    let k = c.requires in
    let w = c.loop-x in
    let test = c.is_reached in
    let near = c.neighbour_at in
    let old : List ℕ = a.room.now in
    let p : ℕ → Bool = reached_by a.r old in
    let q : ℕ → Bool = over_link a.h a.table.now p a.j in
    let same = reads_same (below q w.x) a.r old w.room w.any (omega (arith, k.fits.small)) w.invariant.1 in
    let y = near_is a.h.n a.j a.cell w.x near.result w.p k.cell_is w.invariant.0 near.ensures in
    let e : test.result ≡ fresh q old w.x =
    test.ensures
    ∙ ap (λ (f : ℕ → Bool). fresh (λ v. both (f near.result) (both_up a.h a.table.now (a.j + 1) near.result v)) w.room w.x) same
    ∙ fresh_now q a.r old w.room w.any w.x (λ v. both (p near.result) (both_up a.h a.table.now (a.j + 1) near.result v)) w.invariant.1
    ∙ link_here a.h a.table.now p a.j near.result old w.x y in
    let swept : Sweep (below q (w.x + 1)) a.r old c.if-is_reached.room c.if-is_reached.any =
    elim c.if-is_reached.branch [
      | then-is_reached b ↦ rw (b.room-is, b.any-is) (sweep_store q a.r old w.room w.any w.x w.invariant.1 (sym e ∙ b.if-is_reached.true))
      | else-is_reached b ↦ rw (b.room-is, b.any-is) (sweep_skip q a.r old w.room w.any w.x w.invariant.1 (sym e ∙ b.if-is_reached.false))
    ] in
    (c.next_place-p.ensures ∙ rw w.invariant.0 (place_next a.cell w.x (links_pos a.h a.size a.j a.cell a.r a.room.now k)), swept)

pub returns : goal.returns
unfolding on_links
returns c =
    let e : c.loop-x.x ≡ c.args.size = omega arith in
    rw e at c.loop-x.invariant.1
