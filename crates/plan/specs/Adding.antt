-- The paper's procedure AddDCell (source document 000, section 5, figure 6), on a record of what is fitted. m is the level less 1.
-- Request K5.
use Rattle.std.specs.Prelude.{Bool, true, false, ◌&&◌, List, [], ◌∷◌, ◌++◌, ℕ, zero, suc, ◌+◌, eqb, ltb, length, get_or}
use Rattle.hall.specs.Cells.{t}
use Rattle.hall.specs.Halls.{racks}

-- what is fitted of a DCell of level m + 1: of a DCell1 all, of a higher one the list of what is fitted of its sub-cells, by their indices
abbrev pub Fitted : ℕ → Type 0
Fitted zero = Unit {0}
Fitted (suc m) = List (Fitted m)

module _ {A : Type 0} where
  -- the sum of f over a list
  unfoldable pub total : (A → ℕ) → List A → ℕ
  total f [] = 0
  total f (a ∷ r) = f a + total f r

  -- all pass the test
  unfoldable pub all_of : (A → Bool) → List A → Bool
  all_of p [] = true
  all_of p (a ∷ r) = p a && all_of p r

  -- the smallest index whose member fails the test
  unfoldable pub first_not : (A → Bool) → List A → ℕ
  first_not p [] = 0
  first_not p (a ∷ r) = elim (p a) [ true ↦ suc (first_not p r) | false ↦ 0 ]

  -- x at index i; behind the last where there is no index i
  unfoldable pub put : List A → ℕ → A → List A
  put [] i x = x ∷ []
  put (a ∷ r) zero x = x ∷ r
  put (a ∷ r) (suc i) x = a ∷ put r i x

  -- there is a member at index i, and it passes the test
  unfoldable pub passes : (A → Bool) → List A → ℕ → Bool
  passes p [] i = false
  passes p (a ∷ r) zero = p a
  passes p (a ∷ r) (suc i) = passes p r i

-- its DCell1s
unfoldable pub size : (m : ℕ) → Fitted m → ℕ
size zero s = 1
size (suc m) s = total (size m) s

unfoldable pub full : (n m : ℕ) → Fitted m → Bool
full n m s = eqb (size m s) (racks n m)

-- GetIndex: the sub-cell of level m + 1 to add to
unfoldable pub get_index : (n m : ℕ) → List (Fitted m) → ℕ
get_index n m s = elim (ltb (length s) (t n 1 + 1)) [
  | true ↦ length s
  | false ↦ elim (all_of (full n m) s) [ true ↦ length s | false ↦ first_not (full n m) s ]
]

-- AddDCell in a DCell of level m + 2: the prefix that the new DCell1 gets, and what is fitted then. A sub-cell that is not there is empty.
unfoldable pub add : (n m : ℕ) → List (Fitted m) → List ℕ × List (Fitted m)
add n zero s = (length s ∷ [], s ++ (tt ∷ []))
add n (suc m) s = let i = get_index n (suc m) s in let a = add n m (get_or s i []) in (i ∷ a.0, put s i a.1)

-- what is fitted of a DCell of level m + 2 after c additions
unfoldable pub after : (n m c : ℕ) → List (Fitted m)
after n m zero = []
after n m (suc c) = (add n m (after n m c)).1

-- the DCell1 with prefix r is fitted
unfoldable pub has : (m : ℕ) → Fitted m → List ℕ → Bool
has zero s [] = true
has zero s (q ∷ r) = false
has (suc m) s [] = false
has (suc m) s (q ∷ r) = passes (λ a. has m a r) s q
