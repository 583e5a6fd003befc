-- `lines::journey_at` meets its contract: the journey of the packet's fields over the sheet's codes.
use Rattle.lines.specs.Traces.{journey_at}
use Rattle.lines.proofs.journey_at.Goals as goal

pub returns : goal.returns
unfolding journey_at
returns c = rw (← c.packet_fields-p.ensures, ← c.codes_part.ensures) c.journey_of.ensures
