use Rattle.std.proofs.Common.{rules, arith}
use Rattle.gr_seat.proofs.shared_benches.SharedBench.reducer_seat.Goals as goal

pub invariant_of-solver : goal.invariant_of-solver
invariant_of-solver c = (
  record { away = search rules; fixed = search rules; legal = search rules; own = search rules },
  search rules,
  search rules,
  search (rules, arith),
  search (rules, arith),
)
