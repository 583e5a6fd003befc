-- What a step sees of a table is what the laws of hops and reroutes ask: the local next hop is over a usable link of the cell, and distances
-- are the same both ways. And which links above b are usable: by the table that a server is lent, those whose two ends are up in the hall
-- table, and so all where every port is up.
use mathlib.Core.Path.{◌≡◌, sym, ◌∙◌, ap}
use mathlib.Core.Bool.{true}
use mathlib.Core.List.{List}
use Prim.Native.Nat.{ℕ, ◌+◌, ◌-◌, ◌*◌, ◌≤◌, ◌<◌}
use native.Mathlib.Omega.{arith}
use lib.Arith.{digits_lt}
use lib.ListN.{length, get_or-append}
use borrow.Author.Tests.{le-leb}
use Rattle.combine.specs.Lists.{up_to}
use Rattle.hall.specs.declared.Hall.{Hall}
use Rattle.hall.specs.Cells.{cell, neighbour}
use Rattle.hall.specs.Halls.{servers}
use Rattle.hall.proofs.Growth.{Valid, valid_known}
use Rattle.hall.proofs.Links.{neighbour_in}
use Rattle.ports.specs.Codes.{is_up, code_of, up, table_length, cell_length, part, EveryUp}
use Rattle.ports.specs.Links.{both_up}
use Rattle.ports.proofs.Parts.{Sound}
use Rattle.ports.proofs.Runs.{run_up, every_up}
use Rattle.local.specs.Local.{cell_size, place_of, first_of, linked}
use Rattle.local.proofs.Sizes.{place_fits}
use Rattle.local.proofs.Uids.{uid_made, uid_within}
use Rattle.local.proofs.Distance.{local_symmetric}
use Rattle.local.proofs.Hops.{hop_is, hop_there}
use Rattle.ends.specs.Tables.{far_count, far_code, far_at, step_table, cell_part, far_in}
use Rattle.ends.proofs.Answers.{part_length}
use Rattle.ends.proofs.Tables.{far_in_lem}
use Rattle.forward.specs.Seen.{usable, seen}
use Rattle.forward.proofs.Links.{n_pos}
use Rattle.forward.proofs.Hops.{Linking}
use Rattle.forward.proofs.Reroutes.{Turning}

module _ (h : Hall) (lent : List ℕ) (v : Valid h) where
  pub seen_links : Linking h (seen h lent) (λ x z. linked h (cell_part h lent) x z ≡ true)
  seen_links x y i j ne far =
      let l = hop_there h (cell_part h lent) v x y i j ne far in
      (l, (hop_is h (cell_part h lent) v x y i j l).usable)

  pub seen_turns : Turning h (seen h lent)
  seen_turns x y i j e = sym (local_symmetric h (cell_part h lent) v x y i j) ∙ e

module _ (h : Hall) (table : List ℕ) (me : ℕ) (s : Sound h table me) where
  v : Valid h
  v = valid_known h s.is_valid

  -- the near code that is read is the hall table's
  module _ (i place : ℕ) (l : place < cell_size h) (high : i ≤ h.k) where
    within : place * (h.k + 1) + i < length (part h table me)
    unfolding cell_length cell_size
    within = let q : i < h.k + 1 = omega arith in rw (part_length h table me s) (digits_lt l q)

    in_part : up h (step_table h table me) place i ≡ up h (part h table me) place i
    unfolding up code_of step_table
    in_part = rw (le-leb i h.k high) (ap (λ (code : ℕ). is_up code) (get_or-append {A = ℕ} (part h table me) (up_to (far_at h table me) (far_count h)) 0 (place * (h.k + 1) + i) within))

    pub near_up : up h (step_table h table me) place i ≡ up h table (first_of h me + place) i
    unfolding first_of cell_size cell
    near_up = in_part ∙ run_up h table h.b me place i l high

  module _ (i place : ℕ) (l : place < cell_size h) (low : h.b < i) (high : i ≤ h.k) where
    pub far_up : is_up (far_in h (step_table h table me) place i) ≡ up h table (neighbour h.n (i - 1) (first_of h me + place)) i
    unfolding up far_code
    far_up = ap (λ (code : ℕ). is_up code) (far_in_lem h table me s place i l low high)

    -- a link above b is usable exactly where both its ends are up in the hall table
    pub usable_hall : usable h (step_table h table me) i place ≡ both_up h table i (first_of h me + place) (neighbour h.n (i - 1) (first_of h me + place))
    unfolding usable both_up
    usable_hall = rw (near_up i place l high, far_up)

    -- with every port up every one is
    pub usable_every : EveryUp table → usable h (step_table h table me) i place ≡ true
    unfolding both_up servers table_length
    usable_every all =
        let x : ℕ = first_of h me + place in
        let x-in : x < servers h = uid_within h me place v s.below l in
        rw (
          usable_hall,
          every_up h table (servers h) all s.long x i x-in high,
          every_up h table (servers h) all s.long (neighbour h.n (i - 1) x) i (neighbour_in h.n (n_pos h v) (i - 1) h.k x (omega arith) x-in) high,
        )

  -- by the uid of the server itself
  pub usable_own : (i : ℕ) → h.b < i → i ≤ h.k → usable h (step_table h table me) i (place_of h me) ≡ both_up h table i me (neighbour h.n (i - 1) me)
  usable_own i low high =
      usable_hall i (place_of h me) (place_fits h v me) low high
      ∙ ap (λ (u : ℕ). both_up h table i u (neighbour h.n (i - 1) u)) (uid_made h me)
