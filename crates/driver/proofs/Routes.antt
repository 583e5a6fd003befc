-- A route that is answered has fewer links than the longest has servers, refused or not, so its uids are a part of the answer's array.
use mathlib.Core.Path.{refl}
use mathlib.Core.List.{[], ◌∷◌}
use Prim.Native.Nat.{ℕ, ◌<◌}
use native.Mathlib.Omega.{arith}
use lib.Dec.{eqb}
use borrow.Author.Tests.{eqb-true, ltb-true}
use Rattle.combine.proofs.Tests.{cases}
use Rattle.hall.specs.declared.Hall.{Hall}
use Rattle.hall.specs.Refusals.{refusal}
use Rattle.hall.specs.Halls.{servers, asks_hall, asks_uid}
use Rattle.hall.proofs.Asks.{unrefused_hold}
use Rattle.hall.proofs.Growth.{valid_known}
use Rattle.route.specs.Answers.{longest, route_between}
use Rattle.route.proofs.Answers.{in_hall_length}

pub route_short : (h : Hall) (x y : ℕ) → (route_between h x y).links < longest
route_short h x y =
    cases (eqb (refusal (asks_hall h ∷ asks_uid h x ∷ asks_uid h y ∷ [])) 0)
    (λ e.
    let s = unrefused_hold (asks_hall h ∷ asks_uid h x ∷ asks_uid h y ∷ []) refl (eqb-true _ 0 e) in
    let l = in_hall_length h x y (valid_known h s.0) (ltb-true x (servers h) s.1.0) (ltb-true y (servers h) s.1.1.0) in
    rw e (omega arith))
    (λ e. rw e (omega arith))
