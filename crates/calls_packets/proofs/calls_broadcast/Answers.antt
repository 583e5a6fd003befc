-- `calls_packets::calls_broadcast` meets its contract: the rounds stand in the one room, and the counts are told in the other; where that is
-- short, the broadcast was asked without room and wrote nothing.
use mathlib.Core.Path.{◌∙◌, ap}
use mathlib.Core.List.{List, ◌++◌}
use Prim.Native.Nat.{ℕ}
use Rattle.hall.specs.Halls.{hall_of}
use Rattle.hall.proofs.Stated.{refusal_told, refusal_unwritten}
use Rattle.broadcast.specs.Broadcasts.{BroadcastAnswer}
use Rattle.calls_packets.proofs.TwoRooms.{always_refused, nothing_written, short_told, short_rounds, short_counts, long_rounds}
use Rattle.calls_packets.proofs.calls_broadcast.Goals as goal

pub unreachable-requires : goal.unreachable-requires
unreachable-requires c = always_refused _ _ _ _ (ap (λ (answer : BroadcastAnswer). answer.refusal) c.in_default.ensures.answer)

pub returns-then-room-lt2-clause-number : goal.returns-then-room-lt2-clause-number
returns-then-room-lt2-clause-number c =
    let a = c.args in
    c.number.ensures ∙ ap (λ (answer : BroadcastAnswer). answer.refusal) c.in-Err.ensures.answer
    ∙ short_told (hall_of a.n a.k a.b a.count) a.table.now a.source a.scope a.rounds.now a.room.now c.if-room-lt2.true

pub returns-then-room-lt2-clause-rounds : goal.returns-then-room-lt2-clause-rounds
returns-then-room-lt2-clause-rounds c =
    let a = c.args in
    ap (λ (part : List ℕ). part ++ a.rounds.now) (c.broadcast_rounds.ensures.room ∙ nothing_written _ _ _ _)
    ∙ short_rounds (hall_of a.n a.k a.b a.count) a.table.now a.source a.scope a.rounds.now a.room.now c.if-room-lt2.true

pub returns-then-room-lt2-clause-room : goal.returns-then-room-lt2-clause-room
returns-then-room-lt2-clause-room c =
    let a = c.args in
    short_counts (hall_of a.n a.k a.b a.count) a.table.now a.source a.scope a.rounds.now a.room.now c.if-room-lt2.true

pub returns-in-Ok-clause-rounds : goal.returns-in-Ok-clause-rounds
returns-in-Ok-clause-rounds c =
    let a = c.args in
    c.broadcast_rounds-2.ensures.room
    ∙ long_rounds (hall_of a.n a.k a.b a.count) a.table.now a.source a.scope a.rounds.now a.room.now c.if-room-lt2.false

pub returns-in-Ok-clause-room : goal.returns-in-Ok-clause-room
returns-in-Ok-clause-room c = rw (← c.in-Ok.ensures.answer) c.tell.ensures.room

pub returns-in-Err-broadcast_rounds-clause-number : goal.returns-in-Err-broadcast_rounds-clause-number
returns-in-Err-broadcast_rounds-clause-number c =
    rw (← c.in-Err-broadcast_rounds.ensures.answer) (c.number-in-Err-broadcast_rounds.ensures ∙ refusal_told _ _ _)

pub returns-in-Err-broadcast_rounds-clause-room : goal.returns-in-Err-broadcast_rounds-clause-room
returns-in-Err-broadcast_rounds-clause-room c = rw (← c.in-Err-broadcast_rounds.ensures.answer) (refusal_unwritten _ _ _)
