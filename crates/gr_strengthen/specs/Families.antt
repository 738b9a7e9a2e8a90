-- the clauses that a strengthener derives from, by their ids
use Rattle.std.specs.Prelude.{◌≡◌, ◌≢◌, ℕ, zero, suc, true, nat_le, nat_lt, if◌then◌else◌, List, [], ◌∷◌, length, Option, Some, None, slice_get}
use Rattle.std.specs.List.{filter_map}
use Rattle.std.specs.Option.{option_map}
use Rattle.std.specs.Ordering.{nat_cmp}
use Rattle.std.specs.FinMap as finite
use Rattle.std.specs.FinSet as set
use Rattle.gr_logic.specs.Literals.{Literal}
use Rattle.gr_logic.specs.LiteralSets.{FiniteSet}
use Rattle.gr_logic.specs.Formulas.{Cnf}
use Rattle.gr_logic.specs.Rup.{Live}
use Rattle.gr_logic.specs.Closure.{ClauseFamily, family_of}
use Rattle.gr_prop.specs.Bases.{BaseClause, Clauses}

-- kept clauses by their ids, each as the set of its literals
abbrev pub KeptClauses : Type 0
KeptClauses = finite.FinMap nat_cmp FiniteSet

-- the formula's clause of an id: they are counted from 1
abbrev pub given_clause : Cnf → Live
given_clause f zero = None
given_clause f (suc i) = slice_get f.clauses i

-- the kept clauses, as a family
abbrev pub kept_family : KeptClauses → ClauseFamily
kept_family kept id = option_map set.contains (finite.get kept id)

-- the clauses to derive from: the formula's, and those that are kept
abbrev pub cited_family : Cnf → KeptClauses → ClauseFamily
cited_family f kept id = if nat_le id (length f.clauses) then family_of (given_clause f) id else kept_family kept id

-- a clause under its id, where this is above a last one
abbrev pub named_above : ℕ → Option BaseClause → Option (ℕ × FiniteSet)
named_above last None = None
named_above last (Some c) = if nat_lt last c.id then Some (c.id, c.literals) else None

-- the clauses of a base whose ids are above this one, by their ids
abbrev pub clauses_above : ℕ → Clauses → KeptClauses
clauses_above last clauses =
    finite.from_entries (filter_map (λ place. named_above last (finite.get clauses place)) (finite.keys clauses))

-- the kept clauses without those of these ids
abbrev pub without_ids : KeptClauses → List ℕ → KeptClauses
without_ids kept [] = kept
without_ids kept (id ∷ ids) = without_ids (finite.remove kept id) ids

-- the set has two different literals
abbrev pub HasTwoLiterals : FiniteSet → Type 0
HasTwoLiterals c = (l : Literal) × (q : Literal) × (set.contains c l ≡ true) × (set.contains c q ≡ true) × (l ≢ q)

-- the id is that of a kept clause of at least two literals
abbrev pub IsLongClause : KeptClauses → ℕ → Type 0
IsLongClause kept id = (c : FiniteSet) × (finite.get kept id ≡ Some c) × HasTwoLiterals c
