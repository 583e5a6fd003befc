-- An answer can be read off the number and the values stated for it: so where a contract says them, it says the answer.
use mathlib.Core.Path.{◌≡◌, refl, sym, ◌∙◌, ap}
use mathlib.Core.List.{[], ◌∷◌}
use Prim.Native.Nat.{ℕ, ◌-◌}
use lib.Dec.{eqb}
use lib.ListN.{get_or}
use Rattle.std.specs.Prelude.{Ok, Err, Option, Some, None, is_some, unwrap_or}
use Rattle.combine.specs.Tests.{pick}
use Rattle.hall.specs.declared.refusals.Refusal.{Refusal}
use Rattle.hall.specs.declared.refusals.Fault.{Fault}
use Rattle.hall.specs.Refusals.{number_of, stated_at}
use Rattle.promises.specs.OneOutcome.{TellsApart}
use Rattle.hall.specs.Answers.{no_sizes, sizes_stated}
use Rattle.hall.proofs.Stated.{number_not_zero, number_one, stated_one}
use Rattle.cells.specs.Answers as cells
use Rattle.ports.specs.Answers.{check_stated}
use Rattle.plan.specs.Answers.{no_prefix, prefix_stated}
use Rattle.route.specs.Answers as route
use Rattle.local.specs.Answers.{no_distances, distances_stated, NextHopAnswer, refused_hop, hop_told, next_hop_stated}
use Rattle.broadcast.specs.Broadcasts.{no_broadcast, broadcast_stated}
use Rattle.forward.specs.declared.Step.{Step}
use Rattle.forward.specs.declared.Journey.{Journey}
use Rattle.forward.specs.declared.endings.Ending.{Ending}
use Rattle.forward.specs.declared.endings.Ending.TheVariants.{DropTtl, DropRoute, DropRetry, DropProxy, Delivered}
use Rattle.forward.specs.declared.endings.Onward.{Onward}
use Rattle.forward.specs.declared.endings.Onward.TheVariants.{To, Ends}
use Rattle.forward.specs.Packets.{ending_number, ending_in, next_in}
use Rattle.forward.specs.Answers.{refused_step, step_stated, refused_journey, journey_stated}
use Rattle.frame.specs.declared.Header.{Header}
use Rattle.frame.specs.Reading.{HeaderAnswer, refused_at, header_read, header_stated}
use Rattle.report.specs.Rooms.{no_line, written_stated}
use Rattle.lines.specs.Traces.{no_piece, piece_stated}

-- the number, the place and the values stated for an answer are those of one answer, where all can be read off them
module _ {A T : Type 0} (good : A → T) (refused : ℕ → ℕ → T) (number place : T → ℕ) (value : T → A) (accepted : (a : A) → number (good a) ≡ 0) (valued : (a : A) → value (good a) ≡ a) (numbered : (n p : ℕ) → number (refused n p) ≡ n) (placed : (n p : ℕ) → place (refused n p) ≡ p) where
  number_back : (f : Fault) → number (refused (number_of f.refusal) f.place) ≡ number_of f.refusal
  number_back f = numbered (number_of f.refusal) f.place

  place_back : (f : Fault) → place (refused (number_of f.refusal) f.place) ≡ f.place
  place_back f = placed (number_of f.refusal) f.place

  apart : (a : A) (f : Fault) → good a ≡ refused (number_of f.refusal) f.place → ⊥
  apart a f e = number_not_zero f.refusal (sym (number_back f) ∙ sym (ap number e) ∙ accepted a)

  fault_one : (f g : Fault) → refused (number_of f.refusal) f.place ≡ refused (number_of g.refusal) g.place → f ≡ g
  fault_one f g e =
      let r : f.refusal ≡ g.refusal = number_one f.refusal g.refusal (sym (number_back f) ∙ ap number e ∙ number_back g) in
      let p : f.place ≡ g.place = sym (place_back f) ∙ ap place e ∙ place_back g in
      ap (λ (x : Refusal). record { refusal = x; place = f.place }) r ∙ ap (λ (x : ℕ). record { refusal = g.refusal; place = x }) p

  pub stated_at_one : TellsApart (stated_at good refused)
  stated_at_one (Ok a) (Ok b) e = ap Ok (sym (valued a) ∙ ap value e ∙ valued b)
  stated_at_one (Ok a) (Err f) e = absurd (apart a f e)
  stated_at_one (Err f) (Ok b) e = absurd (apart b f (sym e))
  stated_at_one (Err f) (Err g) e = ap Err (fault_one f g e)

-- crate `hall`
pub sizes_one : TellsApart sizes_stated
sizes_one = stated_one _ no_sizes (λ a. a.refusal) (λ a. a.t) (λ a. refl) (λ a. refl) (λ n. refl)

-- crate `cells`
pub uid_one : TellsApart cells.uid_stated
uid_one = stated_one _ cells.no_uid (λ a. a.refusal) (λ a. a.uid) (λ a. refl) (λ a. refl) (λ n. refl)

pub tuple_one : TellsApart cells.tuple_stated
tuple_one = stated_one _ cells.no_tuple (λ a. a.refusal) (λ a. a.entries) (λ a. refl) (λ a. refl) (λ n. refl)

pub cell_one : TellsApart cells.cell_stated
cell_one = stated_one _ cells.no_cell (λ a. a.refusal) (λ a. record { first = a.first; count = a.count }) (λ a. refl) (λ a. refl) (λ n. refl)

pub neighbour_one : TellsApart cells.neighbour_stated
neighbour_one = stated_one _ cells.no_neighbour (λ a. a.refusal) (λ a. a.uid) (λ a. refl) (λ a. refl) (λ n. refl)

pub link_one : TellsApart cells.link_stated
link_one = stated_one _ cells.no_link (λ a. a.refusal) (λ a. record { from = a.from; to = a.to }) (λ a. refl) (λ a. refl) (λ n. refl)

-- crate `ports`
pub check_one : TellsApart check_stated
check_one = stated_at_one _ _ (λ a. a.refusal) (λ a. a.place) (λ a. tt) (λ a. refl) (λ a. refl) (λ n p. refl) (λ n p. refl)

-- crate `plan`
pub prefix_one : TellsApart prefix_stated
prefix_one = stated_one _ no_prefix (λ a. a.refusal) (λ a. a.entries) (λ a. refl) (λ a. refl) (λ n. refl)

-- crate `route`
pub route_one : TellsApart route.route_stated
route_one = stated_one _ route.no_route (λ a. a.refusal) (λ a. record { links = a.links; uids = a.uids }) (λ a. refl) (λ a. refl) (λ n. refl)

pub first_link_one : TellsApart route.first_link_stated
first_link_one = stated_one _ route.no_link (λ a. a.refusal) (λ a. a.link) (λ a. refl) (λ a. refl) (λ n. refl)

-- crate `local`
pub distances_one : TellsApart distances_stated
distances_one =
    stated_one _ no_distances
    (λ a. a.refusal) (λ a. record { origin = a.origin; count = a.count; distance = a.distance }) (λ a. refl) (λ a. refl) (λ n. refl)

-- the next hop that was told
hop_in : NextHopAnswer → Option ℕ
hop_in a = pick (eqb a.found 1) (Some a.uid) None

hop_back : (x : Option ℕ) → hop_in (hop_told x) ≡ x
unfolding hop_in
hop_back (Some uid) = refl
hop_back None = refl

hop_accepted : (x : Option ℕ) → (hop_told x).refusal ≡ 0
hop_accepted (Some uid) = refl
hop_accepted None = refl

pub next_hop_one : TellsApart next_hop_stated
next_hop_one = stated_one _ refused_hop (λ a. a.refusal) hop_in hop_accepted hop_back (λ n. refl)

-- crate `broadcast`
pub broadcast_one : TellsApart broadcast_stated
broadcast_one = stated_one _ no_broadcast (λ a. a.refusal) (λ a. record { reached = a.reached; last = a.last }) (λ a. refl) (λ a. refl) (λ n. refl)

-- crate `forward`: the ending of a number
ending_of : ℕ → Ending
ending_of number = get_or (DropTtl ∷ DropRoute ∷ DropRetry ∷ DropProxy ∷ Delivered ∷ []) (number - 1) Delivered

ending_back : (e : Ending) → ending_of (ending_number e) ≡ e
unfolding ending_of
ending_back DropTtl = refl
ending_back DropRoute = refl
ending_back DropRetry = refl
ending_back DropProxy = refl
ending_back Delivered = refl

-- what becomes of a packet, by its ending's number and the next uid
onward_of : ℕ → ℕ → Onward
onward_of ending next = pick (eqb ending 0) (To next) (Ends (ending_of ending))

onward_back : (o : Onward) → onward_of (ending_in o) (next_in o) ≡ o
unfolding onward_of ending_of
onward_back (To next) = refl
onward_back (Ends DropTtl) = refl
onward_back (Ends DropRoute) = refl
onward_back (Ends DropRetry) = refl
onward_back (Ends DropProxy) = refl
onward_back (Ends Delivered) = refl

pub step_one : TellsApart step_stated
step_one =
    stated_one _ refused_step (λ a. a.refusal) (λ a. record { onward = onward_of a.ending a.next; packet = a.packet; reroutes = a.reroutes })
    (λ a. refl) (λ (a : Step). ap (λ (o : Onward). record { onward = o; packet = a.packet; reroutes = a.reroutes }) (onward_back a.onward)) (λ n. refl)

pub journey_one : TellsApart journey_stated
journey_one =
    stated_one _ refused_journey (λ a. a.refusal) (λ a. record { ending = ending_of a.ending; links = a.links; reroutes = a.reroutes; uids = a.uids })
    (λ a. refl) (λ (a : Journey). ap (λ (e : Ending). record { ending = e; links = a.links; reroutes = a.reroutes; uids = a.uids }) (ending_back a.ending)) (λ n. refl)

-- crate `frame`: the header that was read
header_with : Option ℕ → HeaderAnswer → Header
header_with proxy a =
    record {
      protocol = a.protocol;
      payload_length = a.payload_length;
      identification = a.identification;
      retry = a.retry;
      ttl = a.ttl;
      source = a.source;
      destination = a.destination;
      proxy = proxy;
      header_length = a.header_length;
    }

header_in : HeaderAnswer → Header
header_in a = header_with (pick a.has_proxy (Some a.proxy) None) a

proxy_back : (p : Option ℕ) → pick (is_some p) (Some (unwrap_or p 0)) None ≡ p
proxy_back (Some uid) = refl
proxy_back None = refl

header_back : (h : Header) → header_in (header_read h) ≡ h
unfolding header_in header_with
header_back h = ap (λ (p : Option ℕ). header_with p (header_read h)) (proxy_back h.proxy)

pub header_one : TellsApart header_stated
header_one = stated_at_one _ refused_at (λ a. a.refusal) (λ a. a.place) header_in (λ a. refl) header_back (λ n p. refl) (λ n p. refl)

-- crate `report`
pub written_one : TellsApart written_stated
written_one = stated_one _ no_line (λ a. a.refusal) (λ a. a.end) (λ a. refl) (λ a. refl) (λ n. refl)

-- crate `lines`
pub piece_one : TellsApart piece_stated
piece_one = stated_one _ no_piece (λ a. a.refusal) (λ a. record { next = a.next; end = a.end }) (λ a. refl) (λ a. refl) (λ n. refl)
