-- What is promised of the planner, each from its law.
use mathlib.Core.Path.{◌≡◌, sym, ◌∙◌}
use mathlib.Core.Bool.{true}
use Prim.Native.Nat.{suc, ◌-◌, ◌≤◌}
use native.Mathlib.Omega.{arith}
use lib.Dec.{eqb}
use borrow.Author.Tests.{eq-eqb, eqb-true, lt-leb}
use Rattle.hall.specs.Halls.{racks, capacity, count_fits, is_full}
use Rattle.hall.proofs.Growth.{valid_known}
use Rattle.hall.proofs.Racks.{capacity_is, capacity_low, count_most}
use Rattle.plan.specs.Plan.{rank}
use Rattle.plan.specs.Planned.{ByFigure, ByTuple, NeverTwice, NeverMoves, AllPlaced, FittedAsAdded, FullFitted, Worded}
use Rattle.plan.proofs.Place.{place_fits, place_rank, place_once}
use Rattle.plan.proofs.Adding.{add-place, stays, new_free, new_fitted, others_stay, fitted_placed}
use Rattle.plan.proofs.Asks.{room}
use Rattle.plan.proofs.Halls.{fitted_full, fitted_adding, prefix_tuple}
use Rattle.plan.proofs.Words.{place_two, place_three_new, place_three_fill, place_three_more}

pub by_figure : ByFigure
by_figure n m count = add-place n m count

pub by_tuple : ByTuple
unfolding capacity
by_tuple h e =
    let r = room h e in
    rw e (prefix_tuple h.n (omega (arith, r.known.n_low)) h.k h.count r.high r.below)

pub never_twice : NeverTwice
never_twice n m c d h k e = place_once n m c d h k e

pub never_moves : NeverMoves
never_moves n m count = record {
  stays = stays n m count;
  was_free = new_free n m count;
  is_fitted_lem = new_fitted n m count;
  others_stay = others_stay n m count;
}

pub all_placed : AllPlaced
unfolding capacity
all_placed n k pos l = record {
  capacity_is = capacity_is n k pos l;
  each_placed = λ r v. let p = place_rank n (k - 1) r v in (rank n (k - 1) r, p.0, p.1);
  is_prefix = λ c h. place_fits n (k - 1) c h;
}

pub fitted_as_added : FittedAsAdded
unfolding capacity
fitted_as_added h m v e =
    let z : h.k - 1 ≡ suc m = omega arith in
    let c : h.count ≤ racks h.n (suc m) = rw z at (count_most h.n h.k h.count (valid_known h v).count_fits) in
    record {
      racks_placed = λ r. fitted_placed h.n m h.count r c;
      servers_fitted = λ u. fitted_adding h m u e;
    }

pub full_fitted : FullFitted
unfolding count_fits is_full
full_fitted h v = record {
  all_fitted = λ f u. fitted_full h u f;
  low_full = λ l.
      let w : eqb h.count 1 ≡ true = rw (lt-leb 2 h.k l) at (valid_known h v).count_fits in
      eq-eqb h.count (capacity h.n h.k) (eqb-true h.count 1 w ∙ sym (capacity_low h.n h.k l));
}

pub in_words : Worded
in_words n = record {
  level_two = place_two n;
  level_three_new = place_three_new n;
  level_three_fill = place_three_fill n;
  level_three_more = place_three_more n;
}
