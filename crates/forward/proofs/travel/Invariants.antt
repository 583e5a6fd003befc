-- `forward::travel` meets its contract: what is passed so far before what is left is the whole journey, and the TTL falls with each step.
use Rattle.counted.specs.Counted.{counted}
use Rattle.forward.proofs.CodeTrips.{Underway}
use Rattle.forward.proofs.travel.Given as goal

abbrev pub invariant-loop-ending : goal.invariant-loop-ending
invariant-loop-ending l = Underway l.h (counted l.h 0 l.table) l.source l.initial.p l.uids l.me l.p l.reroutes l.at

abbrev pub decreases-loop-ending : goal.decreases-loop-ending
decreases-loop-ending l = l.p.ttl
