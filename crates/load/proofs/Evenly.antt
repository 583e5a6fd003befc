-- The load falls evenly, for every n and every top level above 0: the laws of ports and of links, in the words of the request.
use mathlib.Core.Path.{◌≡◌, sym, ◌∙◌, ap}
use mathlib.Core.Bool.{true}
use Prim.Native.Nat.{ℕ, zero, suc, ◌+◌, ◌-◌, ◌*◌, ◌/◌, ◌<◌, ◌≤◌}
use native.Mathlib.Nat.{div-one}
use native.Mathlib.Numerals.{add-one}
use native.Mathlib.Omega.{arith}
use Rattle.sums.specs.Sums.{sum, product}
use Rattle.sums.proofs.Sums.{sum_ext}
use Rattle.hall.specs.Cells.{t, g, cell, same}
use Rattle.hall.proofs.Cells.{same_eq}
use Rattle.hall.proofs.Links.{linked_neighbour}
use Rattle.route.specs.Walks.{LinkOf}
use Rattle.load.specs.Counts.{begins, all_links}
use Rattle.load.specs.Figures.{share, load, loads, upper}
use Rattle.load.specs.Evenly.{Evenly, EveryLevel}
use Rattle.load.proofs.Figures.{share_top, load_top, all_shares, rest_share, load_under, switch_under, cable_under}
use Rattle.load.proofs.Ports.{port_begins}
use Rattle.load.proofs.Lengths.{all_lengths}
use Rattle.load.proofs.Loads.{each_way, cable_carries}

-- with 0 servers to a switch there is no server
no_server : (k : ℕ) → t 0 k ≡ 0
unfolding t
no_server zero = omega arith
no_server (suc j) = rw (no_server j) (omega arith)

some_server : (n k u : ℕ) → u < t n k → 0 < n
some_server zero k u h = absurd (omega (arith, no_server k))
some_server (suc m) k u h = omega arith

module _ (n : ℕ) where
  -- a figure of a level above 0, as the request writes it
  share_at : (k i : ℕ) → 0 < i → share n k i ≡ t n (i - 1) * product (g n) i (k - i)
  share_at k zero h = absurd (omega arith)
  share_at k (suc a) h = unfold share in (let e : suc a - 1 ≡ a = omega arith in rw e)

  evenly_over : (j : ℕ) → Evenly n (suc j)
  evenly_over j =
      let e : suc j - 1 ≡ j = omega arith in
      record {
        top_link = λ u v h l.
            let pos = some_server n (suc j) u h in
            let w = each_way n pos (suc j) (suc j) u v (omega arith) h (linked_neighbour n pos j u v (rw e at l)) in
            rw e (w.0 ∙ load_top n j, w.1 ∙ load_top n j);
        top_port = λ x h. rw e (port_begins n (some_server n (suc j) x h) (suc j) (suc j) x (omega arith) h ∙ share_top n j);
        other_port = λ x i h low high. port_begins n (some_server n (suc j) x h) (suc j) i x (omega arith) h ∙ share_at (suc j) i low;
        switch_port = λ x h. unfold share in (port_begins n (some_server n (suc j) x h) (suc j) 0 x (omega arith) h);
        one_fewer = λ x h. let pos = some_server n (suc j) x h in
            ap (λ (m : ℕ). m + 1) (port_begins n pos (suc j) 0 x (omega arith) h) ∙ rest_share n (suc j) pos;
        all_ports = λ x h. let pos = some_server n (suc j) x h in
            let s = sum_ext (begins n (suc j) x) (share n (suc j)) (suc j + 1) (λ i l. port_begins n pos (suc j) i x (omega arith) h) in
            s ∙ rw (add-one (suc j)) (omega (arith, all_shares n (suc j) pos));
      }

pub evenly : (n k : ℕ) → 0 < k → Evenly n k
evenly n zero h = absurd (omega arith)
evenly n (suc j) h = evenly_over n j

-- a link between two servers of a switch needs two of them
two_servers : (n k u v : ℕ) → u < t n k → same n 0 u v ≡ true → (u ≡ v → ⊥) → 1 < n
two_servers zero k u v h s d = absurd (omega (arith, no_server k))
two_servers (suc zero) k u v h s d =
    let e : u / 1 ≡ v / 1 = unfold cell t in (same_eq 1 0 u v s) in
    absurd (d (sym (div-one u) ∙ e ∙ div-one v))
two_servers (suc (suc m)) k u v h s d = omega arith

load_below : (n k i u v : ℕ) → i ≤ k → u < t n k → LinkOf n i u v → load n k i < upper n k i
load_below n k zero u v l h (s, d) = switch_under n k (two_servers n k u v h s d)
load_below n k (suc a) u v l h e = load_under n k a (some_server n k u h) l

-- with no server there is no route
loads_add : (n k : ℕ) → all_links n k ≡ t n k * loads n k
unfolding all_links sum
loads_add zero k = rw (no_server k) (omega arith)
loads_add (suc m) k = all_lengths (suc m) (omega arith) k

pub every_level : (n k : ℕ) → EveryLevel n k
every_level n k = record {
  each_link = λ i u v l h e. each_way n (some_server n k u h) k i u v l h e;
  each_cable = λ u h. cable_carries n (some_server n k u h) k u h;
  link_under = load_below n k;
  cable_under = λ u h. cable_under n k (some_server n k u h);
  all_links_lem = loads_add n k;
}
