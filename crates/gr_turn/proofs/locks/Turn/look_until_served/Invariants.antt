use Rattle.std.proofs.Common.{◌≡◌}
use Rattle.gr_turn.proofs.locks.Turn.look_until_served.Given as goal

-- no look has changed anything
abbrev pub invariant-loop : goal.invariant-loop
invariant-loop g l =
    (l.place.table_id ≡ l.initial.place.table_id) × (l.place.me ≡ l.initial.place.me)
