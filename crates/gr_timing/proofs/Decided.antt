-- variables that were picked from an order
use Rattle.std.proofs.Common.{◌≡◌, ℕ, ◌≤◌, List, All}

-- the order has so many variables, and these are some of them
pub record AreKnown (vars : ℕ) (decided : List ℕ) : Type 0 where
  pub many : vars ≡ 100_000
  pub some : All (λ var. 1 ≤ var) decided
  pub within : All (λ var. var ≤ 100_000) decided
