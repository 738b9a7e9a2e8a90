-- literals of propositional logic
use Rattle.std.specs.Prelude.{◌≢◌, ◌+◌, ℕ, ℤ, pos, negsuc, neg_ℤ, ◌≤ℤ◌, Bool, not, ◌&&◌, if◌then◌else◌, nat_eq}

-- a variable, by its index from 0, and whether the literal stands for it or for its negation
pub record Literal : Type 0 where
  pub index : ℕ
  pub positive : Bool

-- variables are counted from 1
abbrev pub var_of : Literal → ℕ
var_of l = l.index + 1

-- the literal of the same variable and the other sign
abbrev pub negation : Literal → Literal
negation l = record { index = l.index; positive = not l.positive }

-- the number that DIMACS CNF writes for a literal: the variable, negative for the negation
abbrev pub number_of : Literal → ℤ
number_of l = if l.positive then pos (l.index + 1) else negsuc l.index

-- the numbers of the literals that the program knows
abbrev pub IsLiteralNumber : ℤ → Type 0
IsLiteralNumber n = (n ≢ pos 0) × (neg_ℤ (pos 1_000_000) ≤ℤ n) × (n ≤ℤ pos 1_000_000)

-- two signs agree
abbrev pub same_sign : Bool → Bool → Bool
same_sign a b = if a then b else not b

-- two literals are one
abbrev pub same_literal : Literal → Literal → Bool
same_literal a b = nat_eq a.index b.index && same_sign a.positive b.positive
