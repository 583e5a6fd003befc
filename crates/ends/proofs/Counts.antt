-- The codes of a step's table as they count: a far port has the two servers of the near one, so both are counted by one test, and byte by byte
-- the runs that the code has counted are the part and the far codes of the counted hall table.
use mathlib.Core.Path.{◌≡◌, refl, sym, ◌∙◌, ap}
use mathlib.Core.Bool.{Bool, true}
use mathlib.Core.List.{List, ◌++◌}
use Prim.Native.Nat.{ℕ, suc, ◌+◌, ◌-◌, ◌*◌, ◌/◌, ◌%◌, ◌≤◌, ◌<◌}
use native.Mathlib.Nat.{div-add-mod'}
use native.Mathlib.Numerals.{add-one}
use native.Mathlib.Omega.{arith}
use lib.ListN.{length, get_or, drop, length-append, length-drop, get_or-append}
use lib.Seq.{get_or-append-add, drop_at}
use Rattle.combine.specs.Tests.{pick, both}
use Rattle.combine.specs.Lists.{up_to}
use Rattle.combine.proofs.Tests.{both_swap}
use Rattle.combine.proofs.Lists.{get_or-up_to, up_to_cong}
use Rattle.hall.specs.declared.Hall.{Hall}
use Rattle.hall.specs.Cells.{cell, neighbour}
use Rattle.hall.specs.Halls.{valid, servers}
use Rattle.hall.proofs.Cells.{neighbour_neighbour}
use Rattle.hall.proofs.Growth.{valid_known}
use Rattle.hall.proofs.Links.{neighbour_in}
use Rattle.words.specs.Rooms.{put}
use Rattle.words.proofs.Rooms.{put_put}
use Rattle.ports.specs.Codes.{not_fitted, cell_length, part}
use Rattle.ports.proofs.Parts.{Sound}
use Rattle.plan.specs.Answers.{fitted, is_fitted}
use Rattle.plan.proofs.Asks.{told_fitted}
use Rattle.counted.specs.Counted.{port_fitted, counted_at, counted}
use Rattle.counted.proofs.Counted.{cell_fitted, port_link, counted_code, counted_sound, counted_part}
use Rattle.local.specs.Local.{cell_size, first_of}
use Rattle.ends.specs.Tables.{levels, far_count, step_length, far_code, far_at, step_table}
use Rattle.ends.specs.Filling.{spread, layered, port_code, run_code, run_counted, table_counted}
use Rattle.ends.proofs.Spread.{spread_ahead, spread_cong, layered_later, put_behind, layered_all}
use Rattle.ends.proofs.Answers.{part_length, length-step}

module _ (h : Hall) (pos : 0 < h.n) where
  -- a port of a level above 1 counts where its far server is fitted, as the call tells
  module _ (is_valid : valid h ≡ true) (u port far : ℕ) (here : u < servers h) (low : 2 ≤ port) (high : port ≤ h.k) (k : far ≡ neighbour h.n (port - 1) u) where
    far_here : neighbour h.n (port - 1) u < servers h
    unfolding servers
    far_here = neighbour_in h.n pos (port - 1) h.k u (omega arith) here

    pub port_told : (r : Bool) → r ≡ is_fitted h far → fitted h u ≡ true → port_fitted h u port ≡ r
    port_told r q e =
        let z : suc (port - 1) ≡ port = omega arith in
        let f : r ≡ fitted h (neighbour h.n (port - 1) u) = q ∙ ap (is_fitted h) k ∙ told_fitted h (neighbour h.n (port - 1) u) is_valid far_here in
        ap (port_fitted h u) (sym z) ∙ port_link h u (port - 1) ∙ rw (e, f)

  -- the far port of a link counts where the near one does
  pub far_port : (u j : ℕ) → port_fitted h (neighbour h.n j u) (suc j) ≡ port_fitted h u (suc j)
  far_port u j =
      port_link h (neighbour h.n j u) j
      ∙ ap (λ (v : ℕ). both (fitted h (neighbour h.n j u)) (fitted h v)) (neighbour_neighbour h.n pos j u)
      ∙ both_swap (fitted h (neighbour h.n j u)) (fitted h u)
      ∙ sym (port_link h u j)

  -- a far code as it counts
  pub far_counted : (table : List ℕ) (u i : ℕ) → 0 < i → far_code h (counted h 0 table) u i ≡ pick (port_fitted h u i) (far_code h table u i) not_fitted
  unfolding far_code
  far_counted table u i l =
      let e : suc (i - 1) ≡ i = omega arith in
      let f : port_fitted h (neighbour h.n (i - 1) u) i ≡ port_fitted h u i = rw e at (far_port u (i - 1)) in
      let z : 0 + neighbour h.n (i - 1) u ≡ neighbour h.n (i - 1) u = omega arith in
      counted_code h 0 table (neighbour h.n (i - 1) u) i ∙ rw (z, f)

-- the servers of a DCell(b) are fitted together
pub fitted_place : (h : Hall) → valid h ≡ true → (me p : ℕ) → p < cell_size h → fitted h (first_of h me + p) ≡ fitted h me
unfolding first_of cell cell_size
fitted_place h is_valid me p l =
    let v = valid_known h is_valid in
    cell_fitted h (omega (arith, v.n_low)) h.b me v.b_high p l

-- the codes of a port of which the first p are counted, and then one more
pub port_more : (h : Hall) (first port : ℕ) (room : List ℕ) (at step p server code : ℕ) → 0 < step → server ≡ first + p
    → code ≡ pick (port_fitted h server port) (get_or (spread room at step (port_code h first port room at step) p) (at + p * step) 0) not_fitted
    → code ≡ port_code h first port room at step p
unfolding port_code
port_more h first port room at step p server code some e c =
    c ∙ rw (e, spread_ahead step room at (port_code h first port room at step) p p some (omega arith))

-- the code at a place of the cell for the port so many above `lowest`, in a run of so many ports
abbrev pub code_above : Hall → ℕ → ℕ → ℕ → List ℕ → ℕ → ℕ → ℕ → ℕ
code_above h first lowest ports room at d = port_code h first (lowest + d) room (at + d) ports

-- such a run, counted port by port
module _ (h : Hall) (first lowest ports : ℕ) (room : List ℕ) (at count : ℕ) where
  abbrev codes : ℕ → ℕ → ℕ
  codes = code_above h first lowest ports room at

  -- the codes of the first d ports are counted, and then those of one more, which are as lent till then
  pub run_more : (d : ℕ) → d < ports → (r : List ℕ) → r ≡ layered room at ports codes count d
      → spread r (at + d) ports (port_code h first (lowest + d) r (at + d) ports) count ≡ layered room at ports codes count (d + 1)
  unfolding layered port_code
  run_more d l r e = rw (e, add-one d)
      (spread_cong ports (layered room at ports codes count d) (at + d) (code_above h first lowest ports (layered room at ports codes count d) at d) (codes d) count
      (λ p _. let z : at + d + p * ports ≡ at + (p * ports + d) = omega arith in rw (z, layered_later ports room at codes count d p d (omega arith) l)))

  -- all ports together are the run
  pub run_put : at + count * ports ≤ length room
      → layered room at ports codes count ports ≡ put room at (up_to (run_code h first lowest ports room at) (count * ports))
  unfolding port_code run_code
  run_put w = layered_all room at ports codes (run_code h first lowest ports room at) count w
      (λ q _. let e : at + q % ports + q / ports * ports ≡ at + q = omega (arith, div-add-mod' q ports) in rw e)

-- a room for a step's table has place for the part, and behind it for the far codes
pub near_room : (h : Hall) → cell_size h * (h.k + 1) ≤ step_length h
unfolding step_length cell_length cell_size
near_room h = omega arith

pub far_room : (h : Hall) → cell_length h h.b + cell_size h * levels h ≡ step_length h
unfolding step_length far_count
far_room h = refl

-- bytes over others of their number, at the start of a room
put_over : (room a b : List ℕ) → length a ≡ length b → put (a ++ drop (length a) room) 0 b ≡ b ++ drop (length b) room
unfolding put
put_over room a b e =
    let z : 0 + length b ≡ length b = omega arith in
    rw (z, drop_at a (drop (length a) room) (length b) e, e)

-- a room with a step's table at its start, as the code has written it before it counts
module _ (h : Hall) (table : List ℕ) (me : ℕ) (s : Sound h table me) (room : List ℕ) (fits : step_length h ≤ length room) where
  pos : 0 < h.n
  pos = omega (arith, (valid_known h s.is_valid).n_low)

  abbrev plain : List ℕ
  plain = step_table h table me ++ drop (length (step_table h table me)) room

  abbrev near : List ℕ
  near = part h (counted h 0 table) me

  abbrev far : List ℕ
  far = up_to (far_at h (counted h 0 table) me) (far_count h)

  near_at : (q : ℕ) → q < cell_length h h.b → get_or plain (0 + q) 0 ≡ get_or (part h table me) q 0
  unfolding step_table step_length
  near_at q l =
      let z : 0 + q ≡ q = omega arith in
      rw z
      (get_or-append {A = ℕ} (step_table h table me) (drop (length (step_table h table me)) room) 0 q (omega (arith, length-step h table me s))
      ∙ get_or-append {A = ℕ} (part h table me) (up_to (far_at h table me) (far_count h)) 0 q (omega (arith, part_length h table me s)))

  far_at_lem : (q : ℕ) → q < far_count h → get_or plain (cell_length h h.b + q) 0 ≡ far_at h table me q
  unfolding step_table step_length
  far_at_lem q l =
      get_or-append {A = ℕ} (step_table h table me) (drop (length (step_table h table me)) room) 0 (cell_length h h.b + q) (omega (arith, length-step h table me s))
      ∙ ap (λ (i : ℕ). get_or (step_table h table me) (i + q) 0) (sym (part_length h table me s))
      ∙ get_or-append-add {A = ℕ} (part h table me) (up_to (far_at h table me) (far_count h)) q 0
      ∙ get_or-up_to (far_at h table me) (far_count h) q 0 l

  -- the part, counted
  part_counted : run_counted h me 0 (h.k + 1) plain 0 ≡ put plain 0 near
  unfolding run_counted run_code counted counted_at first_of cell cell_length cell_size
  part_counted = ap (put plain 0)
      (up_to_cong (run_code h (first_of h me) 0 (h.k + 1) plain 0) (counted_at h (first_of h me) (part h table me)) (cell_size h * (h.k + 1))
      (λ q l. let z : 0 + q % (h.k + 1) ≡ q % (h.k + 1) = omega arith in rw (z, near_at q l))
      ∙ ap (up_to (counted_at h (first_of h me) (part h table me))) (sym (part_length h table me s))
      ∙ sym (counted_part h table me h.b s (valid_known h s.is_valid).b_low))

  near_long : length near ≡ cell_length h h.b
  near_long = part_length h (counted h 0 table) me (counted_sound h table me s)

  near_fits : cell_length h h.b ≤ length room
  unfolding step_length
  near_fits = omega arith

  plain_long : length plain ≡ length room
  plain_long =
      omega (arith, length-step h table me s, length-append (step_table h table me) (drop (length (step_table h table me)) room), length-drop (length (step_table h table me)) room)

  -- and then the far codes, counted
  far_codes_counted : run_counted h me (h.b + 1) (levels h) (put plain 0 near) (cell_length h h.b) ≡ put (put plain 0 near) (cell_length h h.b) far
  unfolding run_counted run_code far_at far_count
  far_codes_counted = ap (put (put plain 0 near) (cell_length h h.b))
      (up_to_cong (run_code h (first_of h me) (h.b + 1) (levels h) (put plain 0 near) (cell_length h h.b)) (far_at h (counted h 0 table) me) (far_count h)
      (λ q l.
      let i : ℕ = suc h.b + q % levels h in
      let z : h.b + 1 + q % levels h ≡ i = omega arith in
      rw (z, put_behind plain 0 near (omega (arith, near_long, plain_long, near_fits)) (cell_length h h.b + q) (omega (arith, near_long)), far_at_lem q l)
      (sym (far_counted h pos table (first_of h me + q / levels h) i (omega arith)))))

  -- both runs together make the step's table of the counted hall table
  pub counted_table : (a : List ℕ) → a ≡ plain → table_counted h me a ≡ step_table h (counted h 0 table) me ++ drop (length (step_table h (counted h 0 table) me)) room
  unfolding table_counted step_table
  counted_table a e =
      let n : cell_length h h.b ≡ 0 + length near = omega (arith, near_long) in
      let l : 0 + length near ≤ length plain = omega (arith, plain_long, near_long, near_fits) in
      ap (table_counted h me) e
      ∙ ap (λ (x : List ℕ). run_counted h me (h.b + 1) (levels h) x (cell_length h h.b)) part_counted
      ∙ far_codes_counted
      ∙ ap (λ (i : ℕ). put (put plain 0 near) i far) n
      ∙ put_put plain 0 near far l
      ∙ put_over room (step_table h table me) (near ++ far) (length-step h table me s ∙ sym (length-step h (counted h 0 table) me (counted_sound h table me s)))
