-- none that is in stands between the slots that are left and the bound
use Rattle.std.proofs.Common.{◌≡◌, ℕ, ◌<◌, ◌≤◌, true, false, length}
use Rattle.std.specs.Prelude.{slice_index, slice_index_or}
use Rattle.gr_heur.proofs.queues.Queue.last_in.Given as goal

abbrev pub invariant-loop-at : goal.invariant-loop-at
invariant-loop-at l = record {
  within : l.at ≤ l.bound;
  passed : (w : ℕ) → w < length l.self.places.items → slice_index_or l.present w false ≡ true
      → slice_index l.self.places.items w < l.bound → slice_index l.self.places.items w < l.at;
}

abbrev pub decreases-loop-at : goal.decreases-loop-at
decreases-loop-at l = l.at
