-- unit propagation as a least fixpoint (Davis, Logemann and Loveland, CACM 1962: the rule of one-literal clauses)
use Rattle.std.specs.Prelude.{◌≡◌, ◌⊎◌, ℕ, true, false, List, Option, Some, slice_get}
use Rattle.std.specs.Option.{option_map}
use Rattle.gr_logic.specs.Literals.{Literal, negation, same_literal}
use Rattle.gr_logic.specs.Rup.{LiteralSet, Live, members}

-- clauses by a key, each as the set of its literals: those of a list by their places, of a store by its places, of
-- a map by its ids
abbrev pub ClauseFamily : Type 0
ClauseFamily = ℕ → Option LiteralSet

-- the clauses that a look-up gives
abbrev pub family_of : Live → ClauseFamily
family_of look_up i = option_map members (look_up i)

-- the clauses of a list
abbrev pub listed : List (List Literal) → ClauseFamily
listed cs i = option_map members (slice_get cs i)

-- the set that has no literal: as a clause, the empty clause
abbrev pub no_literals : LiteralSet
no_literals l = false

-- each member of the one set is a member of the other
abbrev pub IsWithin : LiteralSet → LiteralSet → Type 0
IsWithin one other = (l : Literal) → one l ≡ true → other l ≡ true

-- each clause of the one family is a clause of the other
abbrev pub IsPartOf : ClauseFamily → ClauseFamily → Type 0
IsPartOf one other = (i : ℕ) (c : LiteralSet) → one i ≡ Some c → (j : ℕ) × (other j ≡ Some c)

-- a clause forces a literal of its own where the set has the negations of all its other literals
pub record Forces (set clause : LiteralSet) (l : Literal) : Type 0 where
  pub has : clause l ≡ true
  pub others : (q : Literal) → clause q ≡ true → same_literal q l ≡ false → set (negation q) ≡ true

-- the set has each literal that a clause forces
abbrev pub IsClosedUnder : ClauseFamily → LiteralSet → Type 0
IsClosedUnder k set = (i : ℕ) (c : LiteralSet) (l : Literal) → k i ≡ Some c → Forces set c l → set l ≡ true

-- the literal is in the closure: in the least closed set that has the given literals
abbrev pub InClosure : ClauseFamily → LiteralSet → Literal → Type 0
InClosure k given l = (set : LiteralSet) → IsWithin given set → IsClosedUnder k set → set l ≡ true

-- the closure has a literal and its negation, or the empty clause is there
abbrev pub DerivesConflict : ClauseFamily → LiteralSet → Type 0
DerivesConflict k given =
    ((l : Literal) × (InClosure k given l × InClosure k given (negation l)))
    ⊎ ((i : ℕ) × (k i ≡ Some no_literals))
