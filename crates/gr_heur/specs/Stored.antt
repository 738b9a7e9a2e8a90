-- what an order keeps of its columns
use Rattle.std.specs.Prelude.{◌≡◌, ℕ, ◌<◌, ◌≤◌, Bool, true, false, List, length, slice_index, slice_index_or}
use Rattle.gr_heur.specs.declared.queues.Queue.{Queue}
use Rattle.gr_heur.specs.Queues.{IsReady, IsRanked}

-- the queue has the variables in the order of their activities, and each that is in stands below the bound
pub record IsStored (bumps : ℕ) (activities : List ℕ) (present : List Bool) (queue : Queue)
    (bound : ℕ) : Type 0 where
  pub few : length activities ≤ 1000000
  pub each_known : length present ≡ length activities
  pub each_placed : length queue.places.items ≡ length activities
  pub counted : bumps ≤ 18446744073709551615
  pub at_most : (v : ℕ) → slice_index activities v ≤ bumps
  pub ready : IsReady queue
  pub ranked : IsRanked activities queue.places.items
  pub bounded : bound ≤ queue.len
  pub below_bound : (v : ℕ) → v < length activities → slice_index_or present v false ≡ true
      → slice_index queue.places.items v < bound
