-- What the calls answer, by cases of what they ask: the hall, then x, then y.
use mathlib.Core.Path.{◌≡◌, refl, sym, ◌∙◌, ap}
use mathlib.Core.Bool.{true}
use mathlib.Core.List.{List, [], ◌∷◌}
use Prim.Native.Nat.{ℕ, suc, ◌+◌, ◌-◌, ◌^◌, ◌<◌, ◌≤◌}
use native.Mathlib.Nat.{zero-add, zero-mul}
use native.Mathlib.Omega.{arith}
use lib.Dec.{ltb}
use lib.Pow.{pow_mono}
use lib.ListN.{length, get_or, replicate}
use lib.Seq.{sets, sets-eq}
use borrow.Author.Tests.{lt-ltb, le-ltb}
use Rattle.std.proofs.lemmas.List.{drop-replicate}
use Rattle.combine.proofs.Tests.{cases}
use Rattle.hall.specs.declared.Hall.{Hall}
use Rattle.hall.specs.declared.refusals.Refusal.{Refusal}
use Rattle.hall.specs.Refusals.{refusal, number_of}
use Rattle.hall.specs.Cells.{t, same}
use Rattle.hall.specs.Halls.{top, places, valid, servers, asks_hall, asks_uid}
use Rattle.hall.specs.Answers.{no_sizes, sizes_of}
use Rattle.hall.proofs.Growth.{Valid, valid_known, valid_size, sizes_refused, sizes_given, sizes_at}
use Rattle.hall.proofs.Links.{hall_same}
use Rattle.hall.proofs.Stated.{number_not_zero, answered_good}
use Rattle.route.specs.Routes.{route}
use Rattle.route.specs.Answers.{longest, padded, in_hall, no_route, route_between, first_above, first_link_of, first_link}
use Rattle.route.specs.Filling.{per_switch, Inside}
use Rattle.route.proofs.Routes.{route_walk, route_length}
use Rattle.route.proofs.Lists.{walk_starts}
use Rattle.route.proofs.Filling.{inside_shared}

-- what the sizes refuse is the hall, and what they tell where they are given
pub sizes_refuse : (h : Hall) (x y : ℕ) (r : Refusal) → no_sizes (number_of r) ≡ sizes_of h
    → number_of r ≡ refusal (asks_hall h ∷ asks_uid h x ∷ asks_uid h y ∷ [])
unfolding refusal
sizes_refuse h x y r e = let k = sizes_refused h (no_sizes (number_of r)) e (number_not_zero r) in rw (k.1, k.0)

module _ (h : Hall) (sizes : List ℕ) (e : record { refusal = 0; t = sizes } ≡ sizes_of h) where
  sound : valid h ≡ true
  sound = sizes_given h (record { refusal = 0; t = sizes }) e refl

  pub known : Valid h
  known = valid_known h sound

  size_is : (i : ℕ) → i ≤ h.k → get_or sizes i 0 ≡ t h.n i
  size_is = sizes_at h (record { refusal = 0; t = sizes }) e sound

  pub per_switch_is : per_switch sizes ≡ h.n
  unfolding t
  per_switch_is = size_is 0 (omega arith)

  servers_are : get_or sizes h.k 0 ≡ servers h
  unfolding servers
  servers_are = size_is h.k (omega arith)

  module _ (x y : ℕ) where
    pub x_refused : get_or sizes h.k 0 ≤ x → 2 ≡ refusal (asks_hall h ∷ asks_uid h x ∷ asks_uid h y ∷ [])
    unfolding refusal
    x_refused l = rw (sound, le-ltb x (servers h) (rw (← servers_are) l))

    pub y_refused : get_or sizes h.k 0 ≤ y → 2 ≡ refusal (asks_hall h ∷ asks_uid h x ∷ asks_uid h y ∷ [])
    unfolding refusal
    y_refused l = cases (ltb x (servers h))
        (λ q. rw (sound, q, le-ltb y (servers h) (rw (← servers_are) l)))
        (λ q. rw (sound, q))

    module _ (hx : x < get_or sizes h.k 0) (hy : y < get_or sizes h.k 0) where
      pub none_refused : 0 ≡ refusal (asks_hall h ∷ asks_uid h x ∷ asks_uid h y ∷ [])
      unfolding refusal
      none_refused = rw (sound, lt-ltb x (servers h) (rw (← servers_are) hx), lt-ltb y (servers h) (rw (← servers_are) hy))

      -- the hall is one DCell, that of level k, and x and y are places inside it
      pub whole_hall : Inside sizes h.k 0 x y
      unfolding servers
      whole_hall = record {
        top = h.k;
        hall = record {
          sized = λ i l. rw per_switch_is (size_is i l);
          positive = rw per_switch_is (omega (arith, known.n_low));
          levels = omega (arith, known.k_high);
        };
        low = omega arith;
        number = 0;
        starts = sym (zero-mul (t (per_switch sizes) h.k));
        fits = rw per_switch_is (omega (arith, valid_size h known h.k (omega arith)));
        from_in = rw (per_switch_is, ← servers_are) hx;
        to_in = rw (per_switch_is, ← servers_are) hy;
      }

-- room for the longest route of a hall
power_fits : (k : ℕ) → k ≤ top → 2 ^ suc k ≤ longest
power_fits k h = pow_mono {i = suc k} {j = places} (omega arith)

-- the route of a hall has a server, and at most the longest's
route_fits : (h : Hall) (x y : ℕ) → h.k ≤ top → same h.n h.k x y ≡ true → (1 ≤ length (in_hall h x y)) × (length (in_hall h x y) ≤ longest)
unfolding in_hall
route_fits h x y k s =
    let w = walk_starts h.n (route_walk h.n h.k x y s) in (
      omega (arith, ap length w.1),
      omega (arith, route_length h.n h.k x y s, power_fits h.k k),
    )

pub in_hall_length : (h : Hall) (x y : ℕ) → Valid h → x < servers h → y < servers h → (1 ≤ length (in_hall h x y)) × (length (in_hall h x y) ≤ longest)
unfolding servers
in_hall_length h x y v hx hy = route_fits h x y v.k_high (hall_same h.n (omega (arith, v.n_low)) h.k x y hx hy)

-- zeros behind what is stored
pub filled_in : (r : List ℕ) → length r ≤ longest → sets (replicate longest 0) 0 r ≡ padded r
unfolding padded
filled_in r h = sets-eq r (replicate longest 0) 0 (omega arith) ∙ rw (zero-add (length r), drop-replicate {X = ℕ} (length r) longest 0)

-- the answer of a route, as the code has it: the places filled in from the first on, and the place behind the last
module _ (h : Hall) {sizes : List ℕ} {x y next : ℕ} (I : Inside sizes h.k 0 x y) (n : per_switch sizes ≡ h.n)
    (e : next ≡ 0 + length (route (per_switch sizes) h.k (0 + x) (0 + y))) where
  is_in_hall : route (per_switch sizes) h.k (0 + x) (0 + y) ≡ in_hall h x y
  unfolding in_hall
  is_in_hall = rw (n, zero-add x, zero-add y)

  next_is : next ≡ length (in_hall h x y)
  next_is = e ∙ zero-add (length (route (per_switch sizes) h.k (0 + x) (0 + y))) ∙ ap length is_in_hall

  pub next_fits : (1 ≤ next) × (next ≤ longest)
  next_fits =
      let s : same h.n h.k x y ≡ true = rw (n, zero-add x, zero-add y) at (inside_shared I) in
      rw next_is (route_fits h x y (omega (arith, I.low, I.hall.levels)) s)

  pub route_filled : {uids : List ℕ} → uids ≡ sets (replicate longest 0) 0 (route (per_switch sizes) h.k (0 + x) (0 + y))
      → 0 ≡ refusal (asks_hall h ∷ asks_uid h x ∷ asks_uid h y ∷ [])
      → record { refusal = 0; links = next - 1; uids = uids } ≡ route_between h x y
  route_filled {uids} g r =
      let u : uids ≡ padded (in_hall h x y) = g ∙ rw is_in_hall (filled_in (in_hall h x y) (rw next_is at next_fits.1)) in
      rw (next_is, u) (answered_good (record { refusal = 0; links = length (in_hall h x y) - 1; uids = padded (in_hall h x y) }) no_route
      (refusal (asks_hall h ∷ asks_uid h x ∷ asks_uid h y ∷ [])) (sym r))

-- the link that is told is the first link; none where it is refused
module _ (h : Hall) (x y : ℕ) where
  pub first_told : (first_link_of h x y).link ≡ first_link h x y
  unfolding first_link refusal
  first_told =
      cases (valid h)
      (λ v. cases (ltb x (servers h)) (λ p. cases (ltb y (servers h)) (λ q. rw (v, p, q)) (λ q. rw (v, p, q))) (λ p. rw (v, p)))
      (λ v. rw v)

  pub first_good : valid h ≡ true → x < servers h → y < servers h → first_above h.n h.b h.k x y ≡ first_link h x y
  unfolding first_link
  first_good e k l = rw (e, lt-ltb x (servers h) k, lt-ltb y (servers h) l)
