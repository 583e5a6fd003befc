-- What the planner answers, and which servers of a hall are fitted.
-- Request K5; section "Refusal numbers".
use Rattle.std.specs.Prelude.{◌≡◌, Bool, true, not, List, [], ◌∷◌, ℕ, zero, suc, ◌+◌, ◌-◌, ◌*◌, ◌≤◌, eqb, leb, ltb, get_or, replicate, Result}
use Rattle.combine.specs.Tests.{pick, both, either}
use Rattle.combine.specs.Lists.{up_to}
use Rattle.hall.specs.declared.Hall.{Hall}
use Rattle.hall.specs.declared.refusals.Refusal.{Refusal}
use Rattle.hall.specs.Refusals.{Ask, refusal, answered, stated, bad_hall, hall_full}
use Rattle.hall.specs.Cells.{t, cell}
use Rattle.hall.specs.Halls.{places, valid, is_full, servers, asks_hall}
use Rattle.plan.specs.Plan.{place, fitted_by}

-- server u is fitted: its DCell1 is among the first `count`
unfoldable pub fitted : Hall → ℕ → Bool
fitted h u = fitted_by h.n (h.k - 1) h.count u

-- there is such a server, and it is fitted
abbrev pub is_fitted : Hall → ℕ → Bool
is_fitted h u = both (valid h) (both (ltb u (servers h)) (fitted h u))

-- the fitted servers are the first of the hall: in a DCell2, and in a DCell3 once the t(1) + 1 DCell2s that it began with are full
unfoldable pub first_fitted : ℕ → ℕ → ℕ → Bool
first_fitted n k count = either (eqb k 2) (both (eqb k 3) (leb ((t n 1 + 1) * (t n 1 + 1)) count))

-- how many of `most` DCell1s, from uid `first` on, are fitted
unfoldable pub front : Hall → ℕ → ℕ → ℕ
front h first zero = 0
front h first (suc most) = front h first most + pick (fitted h (first + most * t h.n 1)) 1 0

-- the fitted servers of the DCell2 around a server, which are its first; 0 where there is no such server or k is below 2
abbrev pub fitted_servers : Hall → ℕ → ℕ
fitted_servers h u =
    pick (both (valid h) (both (leb 2 h.k) (ltb u (servers h))))
    (front h (cell h.n 2 u * t h.n 2) (t h.n 1 + 1) * t h.n 1)
    0

-- `most` DCell1s from uid `first` on are of the hall
pub record Racks (h : Hall) (first most : ℕ) : Type 0 where
  pub sound : valid h ≡ true
  pub fit : first + most * t h.n 1 ≤ servers h

-- 1 for no such hall, a count too high among it, or a planner asked with k below 2; then 12 where the hall is full
abbrev pub asks_plan : Hall → List Ask
asks_plan h = asks_hall h ∷ (bad_hall, leb 2 h.k) ∷ (hall_full, not (is_full h)) ∷ []

-- a(i) of the next DCell1 for i from 2 to k, 0 elsewhere
unfoldable pub prefix_at : ℕ → ℕ → ℕ → ℕ → ℕ
prefix_at n k count i = pick (both (leb 2 i) (leb i k)) (get_or (place n (k - 1) count) (k - i) 0) 0

-- the prefix of the next DCell1, its entries in their places of a tuple, and what a refusal answers
pub record PrefixAnswer : Type 0 where
  pub refusal : ℕ
  pub entries : List ℕ

abbrev pub no_prefix : ℕ → PrefixAnswer
no_prefix number = record { refusal = number; entries = replicate places 0 }

abbrev pub next_prefix : Hall → PrefixAnswer
next_prefix h =
    answered (refusal (asks_plan h))
    (record { refusal = 0; entries = up_to (prefix_at h.n h.k h.count) places })
    no_prefix

-- the number and the entries of an answer
abbrev pub prefix_stated : Result (List ℕ) Refusal → PrefixAnswer
prefix_stated = stated (λ entries. record { refusal = 0; entries = entries }) no_prefix
