-- what the window of the latest LBDs keeps
use Rattle.std.specs.Prelude.{◌≡◌, ℕ, ◌*◌, ◌≤◌, length, sum, All}
use Rattle.circular_buffer.specs.Buffer.{Buffer}

-- at most 50 LBDs and their sum, and the number and the sum of all
pub record IsWindow (window : Buffer ℕ) (window_sum pushes total : ℕ) : Type 0 where
  pub capacity : window.capacity ≡ 50
  pub sum_is : window_sum ≡ sum window.items
  pub short : length window.items ≤ 50
  pub small : All (λ lbd. lbd ≤ 1000000) window.items
  pub few : pushes ≤ 4000000
  pub bounded : total ≤ 1000000 * pushes
