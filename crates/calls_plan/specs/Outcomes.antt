-- The planner's answer as a refusal's number and its other values in order.
-- Request K5.
use Rattle.plan.specs.Answers.{PrefixAnswer}
use Rattle.hall.specs.Rooms.{Outcome}

-- place i of a tuple at word i
abbrev pub of_prefix : PrefixAnswer → Outcome
of_prefix a = (a.refusal, a.entries)
