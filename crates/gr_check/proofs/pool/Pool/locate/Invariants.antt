-- the ids that are located so far, and the clauses whose first literals are fetched so far
use Rattle.std.proofs.Common.{◌≡◌, ℕ, ◌+◌, ◌<◌, ◌≤◌, length, get_or, Some, None}
use Rattle.std.specs.Prelude.{option_map, slice_get}
use Rattle.std.specs.FinMap as finite
use Rattle.gr_check.specs.Runs.{lits_of, lits_in}
use Rattle.gr_check.specs.declared.runs.Run.{Run}
use Rattle.gr_check.proofs.pool.Pool.locate.Given as goal

abbrev pub invariant-loop-i : goal.invariant-loop-i
invariant-loop-i l = record {
  room : length l.ids ≤ length l.places.items;
  within : (j : ℕ) → j < l.i → (run : Run) → get_or l.places.items j None ≡ Some run
      → run.from + run.len ≤ length l.self-inside.lits.items;
  found : (j : ℕ) → j < l.i
      → finite.get l.fn.self (get_or l.ids j 0)
      ≡ option_map (lits_of l.self-inside.lits.items) (get_or l.places.items j None);
}

abbrev pub invariant-loop-k : goal.invariant-loop-k
invariant-loop-k l = record {
  room : length l.ids ≤ length l.firsts.items;
  first : (j : ℕ) → j < l.k
      → get_or l.firsts.items j None
      ≡ slice_get (lits_in l.self-inside.lits.items (get_or l.places.items j None)) 0;
}
