-- What the calls about a hall's sizes answer.
-- Sections "The hall and its numbers" and "Refusal numbers".
use Rattle.std.specs.Prelude.{List, [], ◌∷◌, ℕ, leb, replicate, Result}
use Rattle.combine.specs.Tests.{pick, both}
use Rattle.combine.specs.Lists.{up_to}
use Rattle.hall.specs.declared.Hall.{Hall}
use Rattle.hall.specs.declared.refusals.Refusal.{Refusal}
use Rattle.hall.specs.Refusals.{refusal, answered, stated}
use Rattle.hall.specs.Cells.{t}
use Rattle.hall.specs.Halls.{places, capacity, n_fits, k_fits, valid, asks_hall}

-- t(0) .. t(k), zeros above k
unfoldable pub size_at : ℕ → ℕ → ℕ → ℕ
size_at n k i = pick (leb i k) (t n i) 0

-- t(i), the servers of a DCell of level i; 0 where there is no such hall or level
unfoldable pub size_of : Hall → ℕ → ℕ
size_of h i = pick (valid h) (size_at h.n h.k i) 0

-- the DCell1s that a hall of n and k can have; 0 where either is outside its range
unfoldable pub racks_of : ℕ → ℕ → ℕ
racks_of n k = pick (both (n_fits n) (k_fits n k)) (capacity n k) 0

-- the sizes of a hall, and what a refusal answers
pub record SizesAnswer : Type 0 where
  pub refusal : ℕ
  pub t : List ℕ

abbrev pub no_sizes : ℕ → SizesAnswer
no_sizes number = record { refusal = number; t = replicate places 0 }

abbrev pub sizes_of : Hall → SizesAnswer
sizes_of h =
    answered (refusal (asks_hall h ∷ []))
    (record { refusal = 0; t = up_to (size_at h.n h.k) places })
    no_sizes

-- the number and the sizes of an answer
abbrev pub sizes_stated : Result (List ℕ) Refusal → SizesAnswer
sizes_stated = stated (λ t. record { refusal = 0; t = t }) no_sizes
