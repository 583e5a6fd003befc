-- What the code works out for a level: the neighbours of a cell's servers lie a sub-cell apart, and step over their own.
use mathlib.Core.Path.{◌≡◌, refl, sym, ◌∙◌, ap}
use mathlib.Core.Bool.{true}
use mathlib.Core.List.{List}
use Prim.Native.Nat.{ℕ, zero, suc, ◌+◌, ◌-◌, ◌*◌, ◌/◌, ◌%◌, ◌≤◌, ◌<◌}
use native.Mathlib.Nat.{add-zero, div-add-mod', mul-le-mul}
use native.Mathlib.Omega.{arith}
use lib.Dec.{leb}
use lib.ListN.{length}
use borrow.Author.Tests.{leb-true, leb-false, le-leb, lt-ltb, le-ltb}
use Rattle.combine.specs.Lists.{up_to}
use Rattle.combine.proofs.Tests.{cases}
use Rattle.hall.specs.declared.Hall.{Hall}
use Rattle.hall.specs.Cells.{t, cell, same, sub, neighbour}
use Rattle.hall.specs.Halls.{top, valid, servers, largest}
use Rattle.hall.proofs.Cells.{same_eq, same_sym, same_trans, same_mono, same_sub, same_up, cell_sub, neighbour_cells, t_pos}
use Rattle.hall.proofs.Growth.{Valid, valid_known, uid_fits}
use Rattle.hall.proofs.Links.{neighbour_in}
use Rattle.ports.specs.Codes.{code_of, cell_length}
use Rattle.local.specs.Local.{places, cell_table, cell_size, first_of}
use Rattle.local.proofs.Asks.{bytes_fit}
use Rattle.local.proofs.Sizes.{size_fits, size_pos}
use Rattle.local.proofs.Uids.{uid_in, uid_within}
use Rattle.words.specs.Rooms.{put}
use Rattle.ends.specs.Tables.{levels, far_count, far_code, far_at}
use Rattle.ends.specs.Filling.{far_behind, layered}
use Rattle.ends.proofs.Spread.{layered_all}

-- two servers of one DCell of level j, so many places apart
module _ (n j u p : ℕ) (s : same n j u (u + p) ≡ true) where
  inside_more : (u + p) % t n j ≡ u % t n j + p
  inside_more =
      let e : u / t n j ≡ (u + p) / t n j = unfold cell in (same_eq n j u (u + p) s) in
      let a : u / t n j * t n j + u % t n j ≡ u = div-add-mod' u (t n j) in
      let b : u / t n j * t n j + (u + p) % t n j ≡ u + p = ap (λ (c : ℕ). c * t n j + (u + p) % t n j) e ∙ div-add-mod' (u + p) (t n j) in
      omega arith

  neighbour_more : neighbour n j (u + p) ≡ far_behind (neighbour n j u) (t n j) (u % t n j) (sub n j u) p
  unfolding far_behind
  neighbour_more =
      let c = sym (same_eq n (suc j) u (u + p) (same_up n j u (u + p) s)) in
      let d = sym (same_sub n j u (u + p) s) in
      rw (neighbour_cells n j (u + p), neighbour_cells n j u, c, d, inside_more) (cases (leb (sub n j u) (u % t n j))
      (λ q. let l = leb-true (sub n j u) (u % t n j) q in
      rw (q, le-leb (sub n j u) (u % t n j + p) (omega arith), le-ltb (u % t n j) (sub n j u) l) (omega arith))
      (λ q. let l = leb-false (sub n j u) (u % t n j) q in
      rw (q, lt-ltb (u % t n j) (sub n j u) l) (cases (leb (sub n j u) (u % t n j + p))
      (λ k. rw k (omega arith))
      (λ k. rw k (omega arith)))))

-- where there is a far code, there is a level above b
some_factor : (a b q : ℕ) → q < a * b → 0 < b
some_factor a zero q l = absurd (omega arith)
some_factor a (suc b) q l = omega arith

pub some_level : (h : Hall) (q : ℕ) → q < far_count h → 0 < levels h
unfolding far_count
some_level h q below = some_factor (cell_size h) (levels h) q below

-- a level above b in a hall, for a server of it
module _ (h : Hall) (is_valid : valid h ≡ true) (me level : ℕ) (here : me < servers h) (low : h.b < level) (high : level ≤ h.k) where
  v : Valid h
  v = valid_known h is_valid

  n_some : 0 < h.n
  n_some = omega (arith, v.n_low)

  pub first_in_lem : first_of h me < servers h
  first_in_lem = rw (add-zero (first_of h me)) at (uid_within h me 0 v here (size_pos h v))

  shares : (p : ℕ) → p < cell_size h → same h.n (level - 1) (first_of h me) (first_of h me + p) ≡ true
  shares p l =
      let a : same h.n h.b me (first_of h me) ≡ true = rw (add-zero (first_of h me)) at (uid_in h me 0 (size_pos h v)) in
      same_mono h.n {i = h.b} {j = level - 1} (first_of h me) (first_of h me + p) (omega arith)
      (same_trans h.n h.b (first_of h me) me (first_of h me + p) (same_sym h.n h.b me (first_of h me) a) (uid_in h me p l))

  -- as the code has them: the cell's size, a sub-cell's, the first server and its neighbour
  module _ (count size first far : ℕ) (e : count ≡ cell_size h) (f : size ≡ t h.n (level - 1)) (g : first ≡ first_of h me) (k : far ≡ neighbour h.n (level - 1) first) where
    pub size_some : 0 < size
    size_some = rw f (t_pos h.n n_some (level - 1))

    sub_is : first / size % (size + 1) ≡ sub h.n (level - 1) first
    unfolding cell
    sub_is = rw f (cell_sub h.n (level - 1) first)

    pub far_is : (p : ℕ) → p < count → far_behind far size (first % size) (first / size % (size + 1)) p ≡ neighbour h.n (level - 1) (first_of h me + p)
    far_is p l =
        rw (sub_is, k, f, g) (sym (neighbour_more h.n (level - 1) (first_of h me) p (shares p (omega arith))))

    pub far_fits : (p : ℕ) → p < count → far_behind far size (first % size) (first / size % (size + 1)) p < largest
    far_fits p l =
        let m = uid_within h me p v here (omega arith) in
        rw (far_is p l) (uid_fits h v (neighbour h.n (level - 1) (first_of h me + p)) (unfold servers in (neighbour_in h.n n_some (level - 1) h.k (first_of h me + p) (omega arith) m)))

-- the byte of a far code
pub far_read : (h : Hall) (table : List ℕ) (u i far r : ℕ) → r ≡ code_of h table far i → far ≡ neighbour h.n (i - 1) u → r ≡ far_code h table u i
unfolding far_code
far_read h table u i far r e f = e ∙ ap (λ (x : ℕ). code_of h table x i) f

-- the far codes and the bytes of a DCell(b) are few
module _ (h : Hall) (is_valid : valid h ≡ true) where
  known : Valid h
  known = valid_known h is_valid

  pub cell_few : cell_size h ≤ places
  cell_few = size_fits h known

  pub levels_few : levels h ≤ top
  levels_few = omega (arith, known.k_high)

  pub far_few : far_count h ≤ places * top
  unfolding far_count
  far_few = omega (arith, mul-le-mul cell_few levels_few)

  pub cell_bytes : cell_length h h.b ≤ cell_table
  unfolding cell_length cell_size
  cell_bytes = bytes_fit h (cell_size h) is_valid refl

  pub all_far : (count : ℕ) → count ≡ cell_size h → count * (h.k - h.b) ≡ far_count h
  unfolding far_count
  all_far count e = ap (λ (m : ℕ). m * (h.k - h.b)) e

-- the first server of a cell, by the cell's size as the code has worked it out
pub first_by : (h : Hall) (me count : ℕ) → count ≡ cell_size h → me / count * count ≡ first_of h me
unfolding first_of
first_by h me count e = ap (λ (m : ℕ). me / m * m) e

-- the far code of the server at a place, at the level so many above b + 1
abbrev pub code : Hall → List ℕ → ℕ → ℕ → ℕ → ℕ
code h table me d p = far_code h table (first_of h me + p) (suc h.b + d)

-- the levels one by one are the far codes one behind the other
pub far_put : (h : Hall) (table : List ℕ) (me : ℕ) (room : List ℕ) (at : ℕ) → at + far_count h ≤ length room
    → layered room at (levels h) (code h table me) (cell_size h) (levels h) ≡ put room at (up_to (far_at h table me) (far_count h))
unfolding far_at far_count
far_put h table me room at w = layered_all room at (levels h) (code h table me) (far_at h table me) (cell_size h) w (λ q l. refl)
