-- `forward::choose` meets its contract: what is left of the search is the whole search, and no candidate is passed over, so the first that
-- is met at a level is its nearest, then its lowest.
use mathlib.Core.Path.{◌≡◌, refl, sym, ◌∙◌}
use Prim.Native.Nat.{◌+◌, ◌<◌}
use native.Mathlib.Omega.{arith}
use Rattle.std.proofs.Common.{None}
use Rattle.local.specs.Local.{cell_size, place_of}
use Rattle.forward.specs.Seen.{seen}
use Rattle.forward.specs.Inside.{lent}
use Rattle.forward.specs.Proxies.{best_below}
use Rattle.forward.proofs.CodeChoice.{distances_there, choice_whole, found_here, found_later, found_never, count_is, count_fits, distance_is, distance_small, look_finds, look_passes, passed_more, none_behind, nearest_best, none_best}
use Rattle.forward.proofs.choose.Goals.{Left-loop-d, else-loop-d-test, then-loop-d-test+else-loop-place-test+else-d-last}
use Rattle.forward.proofs.choose.Goals as goal

-- behind the last distance, no candidate of the level is left
level_done : (c : Left-loop-d) → let s = seen c.args.h (lent c.args.h c.args.whole c.args.table.now c.args.me) in
    (best_below s (place_of c.args.h c.args.me) c.search.level (cell_size c.args.h) ≡ None) × (c.loop-d-test.chosen ≡ None)
level_done c =
    let r = c.distances_of in
    let o = c.own_part.ensures in
    let n = count_is _ _ _ c.requires.0 _ o _ r.ensures _ c.unwrap-from.ensures in
    elim c.loop-d-test.branch [
      | else-loop-d-test w ↦ absurd (omega arith)
      | then-loop-d-test+else-loop-place-test+else-d-last w ↦ (
        none_best (seen c.args.h (lent c.args.h c.args.whole c.args.table.now c.args.me)) (place_of c.args.h c.args.me) c.search.level (cell_size c.args.h) (λ q k.
            let z : q < c.unwrap-from.result.count = omega (arith, n) in
            none_behind _ _ _ q _ (c.loop-d.d + 1) _ (distance_is _ _ _ c.requires.0 _ o _ r.ensures _ c.unwrap-from.ensures q z) (distance_small _ _ _ c.requires.0 _ o _ r.ensures _ c.unwrap-from.ensures q z) (c.farthest-last.ensures.1 q z) (omega arith)
            (λ v. omega (arith, w.loop-place.invariant.1 q (omega arith) v))),
        w.chosen-is ∙ w.loop-place.invariant.0,
      )
    ]

pub unwrap-from-requires : goal.unwrap-from-requires
unwrap-from-requires c = distances_there _ _ _ c.requires.0 _ c.own_part.ensures _ c.distances_of.ensures

pub farthest-last-requires : goal.farthest-last-requires
farthest-last-requires c = count_fits _ _ _ c.requires.0 _ c.own_part.ensures _ c.distances_of.ensures _ c.unwrap-from.ensures

pub search-init : goal.search-init
search-init c = (choice_whole _ _ _ _, refl)

pub loop-d-init : goal.loop-d-init
loop-d-init c = (c.search.invariant.1, λ q l w. omega arith)

pub loop-place-init : goal.loop-place-init
loop-place-init c = (c.loop-d.invariant.0, λ q l. absurd (omega arith))

pub bounds-from-place : goal.bounds-from-place
bounds-from-place c = omega (arith, count_fits _ _ _ c.requires.0 _ c.own_part.ensures _ c.distances_of.ensures _ c.unwrap-from.ensures)

pub loop-place-preserved : goal.loop-place-preserved
loop-place-preserved c =
    let l2 = c.loop-place in
    let l1 = c.loop-d in
    let f = c.farthest-last.ensures in
    let z : l2.place < c.unwrap-from.result.count = omega arith in
    let x = distance_is _ _ _ c.requires.0 _ c.own_part.ensures _ c.distances_of.ensures _ c.unwrap-from.ensures l2.place z in (
      l2.invariant.0,
      passed_more (seen c.args.h (lent c.args.h c.args.whole c.args.table.now c.args.me)) (place_of c.args.h c.args.me) c.search.level l1.d l2.place l2.invariant.1
          (λ w. look_passes _ _ _ _ l1.d (omega (arith, f.0)) _ x _ c.is_candidate.ensures c.if-is_candidate.false w (l1.invariant.1 l2.place z w)),
    )

pub search-preserved : goal.search-preserved
search-preserved c =
    let d = level_done (goal.at.search-preserved c).Left-loop-d in
    (found_later _ _ _ (omega arith) d.0 ∙ c.search.invariant.0, d.1)

pub returns : goal.returns
returns c = c.search.invariant.1 ∙ sym (sym c.search.invariant.0 ∙ found_never _ _ _ (omega arith))

pub returns-2 : goal.returns-2
returns-2 c =
    let d = level_done (goal.at.returns-2 c).Left-loop-d in
    d.1 ∙ sym (sym c.search.invariant.0 ∙ sym (found_later _ _ _ (omega arith) d.0) ∙ found_never _ _ _ (omega arith))

pub returns-then-is_candidate : goal.returns-then-is_candidate
returns-then-is_candidate c =
    let r = c.distances_of in
    let o = c.own_part.ensures in
    let f = c.farthest-last.ensures in
    let l1 = c.loop-d in
    let l2 = c.loop-place in
    let n = count_is _ _ _ c.requires.0 _ o _ r.ensures _ c.unwrap-from.ensures in
    let z : l2.place < c.unwrap-from.result.count = omega arith in
    let x = distance_is _ _ _ c.requires.0 _ o _ r.ensures _ c.unwrap-from.ensures l2.place z in
    let w = look_finds (seen c.args.h (lent c.args.h c.args.whole c.args.table.now c.args.me)) (place_of c.args.h c.args.me) c.search.level l2.place l1.d (omega (arith, f.0)) _ x
    _ c.is_candidate.ensures c.if-is_candidate.true in
    sym (sym c.search.invariant.0 ∙ found_here _ _ _ _ _ (omega arith)
    (nearest_best _ _ _ (cell_size c.args.h) l2.place (record {
      below = omega (arith, n);
      candidate = w.0;
      nearest = λ q k v. omega (arith, w.1, l1.invariant.1 q (omega (arith, n)) v);
      lowest = λ q k v. omega (arith, w.1, l2.invariant.1 q k v);
    })))
