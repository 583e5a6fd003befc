-- Distances and next hops over the table of a server's DCell(b) as its codes count: a DCell(b) is fitted as a whole, so they are those of the
-- table as it stands where the server is fitted, and of no code at all where it is not.
use mathlib.Core.Path.{◌≡◌, refl, sym, ◌∙◌, ap}
use mathlib.Core.Bool.{Bool, true, false}
use mathlib.Core.List.{List, [], ◌++◌}
use Prim.Native.Nat.{ℕ, zero, suc, ◌-◌, ◌<◌}
use native.Mathlib.Omega.{arith}
use lib.Dec.{eqb, leb}
use lib.ListN.{replicate}
use Rattle.combine.specs.Tests.{pick}
use Rattle.combine.proofs.Tests.{cases, both_false, pick_same}
use Rattle.hall.specs.declared.Hall.{Hall}
use Rattle.hall.specs.Cells.{cell, neighbour}
use Rattle.hall.specs.Halls.{valid, servers}
use Rattle.hall.specs.Answers.{racks_of}
use Rattle.hall.proofs.Growth.{Valid, valid_known}
use Rattle.ports.specs.Codes.{not_fitted, is_up, code_of, up}
use Rattle.ports.specs.Links.{on_switch, both_up, joined}
use Rattle.search.specs.Reach.{Agree}
use Rattle.search.proofs.Distance.{distances_agree}
use Rattle.plan.specs.Answers.{fitted, is_fitted}
use Rattle.plan.proofs.Halls.{fitted_full}
use Rattle.plan.proofs.Asks.{full_is, told_fitted}
use Rattle.counted.proofs.Links.{joined_local, joined_none}
use Rattle.local.specs.Local.{places, none, cell_size, first_of, counting, linked, distances_from, distance, record_from, nearer, hop}
use Rattle.local.proofs.Sizes.{size_fits}
use Rattle.local.proofs.Lowest.{lowest_agree}

-- no code, no port that is up, no usable link
up_empty : (h : Hall) (x i : ℕ) → up h [] x i ≡ false
unfolding up code_of
up_empty h x i = ap is_up (pick_same (leb i h.k) not_fitted)

joined_empty : (h : Hall) (l x y : ℕ) → joined h [] l x y ≡ false
unfolding joined both_up
joined_empty h zero x y = rw (up_empty h x 0) (both_false (on_switch h.n x y) false refl)
joined_empty h (suc j) x y = rw (joined_empty h j x y, up_empty h x (suc j)) (both_false (eqb (neighbour h.n j x) y) false refl)

module _ (h : Hall) (v : Valid h) (u : ℕ) (table : List ℕ) where
  -- what the code looks at
  abbrev pub Looked : List ℕ
  Looked = pick (fitted h u) table []

  pub linked_counting : Agree (linked h (counting h u table)) (linked h Looked) (cell_size h)
  unfolding linked cell_size first_of cell
  linked_counting y x hy hx = cases (fitted h u)
      (λ e. rw e (joined_local h (omega (arith, v.n_low)) h.b u v.b_high table h.b y x (omega arith) hy hx e))
      (λ e.
      rw e
      (joined_none h (omega (arith, v.n_low)) h.b u v.b_high table h.b y x (omega arith) hy hx e
      ∙ sym (joined_empty h h.b y x)))

  pub distances_counting : (o : ℕ) → o < cell_size h → distances_from h (counting h u table) o ≡ distances_from h Looked o
  unfolding distances_from
  distances_counting o l = distances_agree (linked h (counting h u table)) (linked h Looked) (cell_size h) none o (omega (arith, size_fits h v)) l linked_counting

  pub record_counting : (o : ℕ) → o < cell_size h → record_from h (counting h u table) o ≡ record_from h Looked o
  record_counting o l = ap (λ (d : List ℕ). d ++ replicate (places - cell_size h) none) (distances_counting o l)

  pub hop_counting : (x y : ℕ) → x < cell_size h → y < cell_size h → hop h (counting h u table) x y ≡ hop h Looked x y
  unfolding hop nearer distance
  hop_counting x y hx hy = lowest_agree (nearer h (counting h u table) x y) (nearer h Looked x y) (cell_size h) 0
      (λ z l. let lz : z < cell_size h = omega arith in rw (distances_counting y hy, linked_counting x z hx lz))

-- the codes that the code looks at, by its tests
module _ (h : Hall) (u : ℕ) (v : valid h ≡ true) (table : List ℕ) where
  pub full_codes : (r : ℕ) → r ≡ racks_of h.n h.k → h.count ≡ r → table ≡ pick (fitted h u) table []
  full_codes r e c = rw (fitted_full h u (full_is h r v e c))

  module _ (l : u < servers h) (b : Bool) (e : b ≡ is_fitted h u) where
    pub own_codes : b ≡ true → table ≡ pick (fitted h u) table []
    own_codes q = rw (← told_fitted h u v l, ← e, q)

    pub no_codes : b ≡ false → [] ≡ pick (fitted h u) table []
    no_codes q = rw (← told_fitted h u v l, ← e, q)

-- the codes that the code looks at give the distances and the next hop
module _ (h : Hall) (table : List ℕ) (u : ℕ) (v : valid h ≡ true) (codes : List ℕ) (c : codes ≡ pick (fitted h u) table []) where
  pub record_looked : (o : ℕ) → o < cell_size h → record_from h codes o ≡ record_from h (counting h u table) o
  record_looked o lo = ap (λ (s : List ℕ). record_from h s o) c ∙ sym (record_counting h (valid_known h v) u table o lo)

  pub hop_looked : (x y : ℕ) → x < cell_size h → y < cell_size h → hop h codes x y ≡ hop h (counting h u table) x y
  hop_looked x y lx ly = ap (λ (s : List ℕ). hop h s x y) c ∙ sym (hop_counting h (valid_known h v) u table x y lx ly)
