-- What is promised of the planner. m is the level less 1, as everywhere here.
-- Request K5; source document 000, section 5, figure 6.
use Rattle.std.specs.Prelude.{◌≡◌, true, false, List, [], ◌∷◌, ◌↔◌, ℕ, suc, ◌+◌, ◌-◌, ◌*◌, ◌/◌, ◌%◌, ◌<◌, ◌≤◌}
use Rattle.hall.specs.declared.Hall.{Hall}
use Rattle.hall.specs.Refusals.{refusal}
use Rattle.hall.specs.Cells.{t}
use Rattle.hall.specs.Halls.{racks, capacity, valid, is_full}
use Rattle.hall.specs.Tuples.{tuple}
use Rattle.plan.specs.Plan.{place, IsPrefix, prefix_of, start}
use Rattle.plan.specs.Adding.{add, after, has}
use Rattle.plan.specs.Answers.{fitted, asks_plan, next_prefix}

-- the place by its closed form is what figure 6 gives, run step by step
abbrev pub ByFigure : Type 0
ByFigure = (n m count : ℕ) → (add n m (after n m count)).0 ≡ place n (suc m) count

-- and the planner's answer is the tuple of the first server of that DCell1
abbrev pub ByTuple : Type 0
ByTuple = (h : Hall) → refusal (asks_plan h) ≡ 0 → (next_prefix h).entries ≡ tuple h.n h.k (start h.n (h.k - 1) (place h.n (h.k - 1) h.count))

-- no prefix comes twice
abbrev pub NeverTwice : Type 0
NeverTwice = (n m c d : ℕ) → c < racks n m → d < racks n m → place n m c ≡ place n m d → c ≡ d

-- earlier ones never move; one addition fits the DCell1 that was planned, in a place that was free, and changes no other
pub record Adds (n m count : ℕ) : Type 0 where
  pub stays : (r : List ℕ) → IsPrefix n (suc m) r → has (suc m) (after n m count) r ≡ true → has (suc m) (after n m (suc count)) r ≡ true
  pub was_free : count < racks n (suc m) → has (suc m) (after n m count) (place n (suc m) count) ≡ false
  pub is_fitted_lem : count < racks n (suc m) → has (suc m) (after n m (suc count)) (place n (suc m) count) ≡ true
  pub others_stay : (r : List ℕ) → IsPrefix n (suc m) r → (r ≡ place n (suc m) count → ⊥) → has (suc m) (after n m (suc count)) r ≡ has (suc m) (after n m count) r

abbrev pub NeverMoves : Type 0
NeverMoves = (n m count : ℕ) → Adds n m count

-- exactly t(k) / t(1) can be placed: there are so many, and each prefix gets its turn among them
pub record Places (n k : ℕ) : Type 0 where
  pub capacity_is : capacity n k ≡ t n k / t n 1
  pub each_placed : (r : List ℕ) → IsPrefix n (k - 1) r → (c : ℕ) × (c < capacity n k) × (place n (k - 1) c ≡ r)
  pub is_prefix : (c : ℕ) → c < capacity n k → IsPrefix n (k - 1) (place n (k - 1) c)

abbrev pub AllPlaced : Type 0
AllPlaced = (n k : ℕ) → 0 < n → 0 < k → Places n k

-- what is fitted after so many additions are the DCell1s placed by these, and a server is fitted exactly where its DCell1 is
pub record AsAdded (h : Hall) (m : ℕ) : Type 0 where
  pub racks_placed : (r : List ℕ) → (has (suc m) (after h.n m h.count) r ≡ true) ↔ ((i : ℕ) × (i < h.count) × (r ≡ place h.n (suc m) i))
  pub servers_fitted : (u : ℕ) → has (suc m) (after h.n m h.count) (prefix_of h.n (suc m) u) ≡ fitted h u

abbrev pub FittedAsAdded : Type 0
FittedAsAdded = (h : Hall) (m : ℕ) → valid h ≡ true → h.k ≡ suc (suc m) → AsAdded h m

-- every server of a full hall is fitted; with k below 2 every hall is full
pub record WhenFull (h : Hall) : Type 0 where
  pub all_fitted : is_full h ≡ true → (u : ℕ) → fitted h u ≡ true
  pub low_full : h.k < 2 → is_full h ≡ true

abbrev pub FullFitted : Type 0
FullFitted = (h : Hall) → valid h ≡ true → WhenFull h

-- in the request's words: in a DCell2 the next free index; at level 3 new DCell2s until there are t(1) + 1 of them, then the first that isn't full is
-- filled, and a new one starts only when all are
pub record InWords (n : ℕ) : Type 0 where
  pub level_two : (c : ℕ) → place n 1 c ≡ c ∷ []
  pub level_three_new : (c : ℕ) → c < t n 1 + 1 → place n 2 c ≡ c ∷ 0 ∷ []
  pub level_three_fill : (c : ℕ) → t n 1 + 1 ≤ c → c < (t n 1 + 1) * (t n 1 + 1) → place n 2 c ≡ (c - (t n 1 + 1)) / t n 1 ∷ ((c - (t n 1 + 1)) % t n 1 + 1) ∷ []
  pub level_three_more : (c : ℕ) → (t n 1 + 1) * (t n 1 + 1) ≤ c → place n 2 c ≡ c / (t n 1 + 1) ∷ c % (t n 1 + 1) ∷ []

abbrev pub Worded : Type 0
Worded = (n : ℕ) → InWords n
