-- literals as indices of arrays
use Rattle.std.specs.Prelude.{◌≡◌, ℕ, ◌+◌, ◌*◌, ◌/◌, ◌%◌, nat_eq, if◌then◌else◌}
use Rattle.std.proofs.Common.{arith}
use Rattle.gr_logic.specs.Literals.{Literal}

-- twice the variable's index, and one more for the negation (as in MiniSat, Eén and Sörensson 2003)
abbrev pub code_of : Literal → ℕ
code_of l = if l.positive then 2 * l.index else 2 * l.index + 1

-- the literal of a code
abbrev pub literal_of : ℕ → Literal
literal_of n = record { index = n / 2; positive = nat_eq (n % 2) 0 }

-- a literal's code is its own
pub code_of-literal_of : (n : ℕ) → code_of (literal_of n) ≡ n
code_of-literal_of n = grind arith

-- a code's literal is its own
pub literal_of-code_of : (l : Literal) → literal_of (code_of l) ≡ l
literal_of-code_of l = grind arith
