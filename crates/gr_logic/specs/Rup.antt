-- unit steps along hints: the reverse unit propagation of LRAT (Cruz-Filipe et al., CADE 2017)
use Rattle.std.specs.Prelude.{ℕ, Bool, not, ◌||◌, if◌then◌else◌, List, [], ◌∷◌, map, Option, Some, None}
use Rattle.std.specs.List.{list_any, list_all, filter}
use Rattle.gr_logic.specs.Literals.{Literal, negation, same_literal}

-- a set of literals, by its members: the literals that are taken as true
abbrev pub LiteralSet : Type 0
LiteralSet = Literal → Bool

-- the clauses that may be cited, by their ids
abbrev pub Live : Type 0
Live = ℕ → Option (List Literal)

-- the set with one more member
abbrev pub with_literal : LiteralSet → Literal → LiteralSet
with_literal set l q = same_literal q l || set q

-- a literal is false where the set has its negation
abbrev pub false_in : LiteralSet → Literal → Bool
false_in set l = set (negation l)

-- how a clause stands: all its literals are false, or just one (as a set) is not, or more are not
pub data Reading : Type 0 where
  Falsified : Reading
  Forces : Literal → Reading
  Undecided : Reading

-- how a clause stands whose literals that are not false are these
abbrev pub reading_of_open : List Literal → Reading
reading_of_open [] = Falsified
reading_of_open (l ∷ ls) = if list_all (same_literal l) ls then Forces l else Undecided

-- how a clause stands under a set
abbrev pub reading : LiteralSet → List Literal → Reading
reading set c = reading_of_open (filter (λ l. not (false_in set l)) c)

-- what the unit steps say of a lemma: it is accepted; or a hint names no clause, or one that is not
-- unit; or the hints end and no clause was falsified
pub data Answer : Type 0 where
  Accepted : Answer
  NotLive : ℕ → Answer
  HintNotUnit : ℕ → Answer
  NoConflict : Answer

-- a falsified clause ends the steps, and a forced literal becomes true
abbrev pub after_reading : ℕ → LiteralSet → (LiteralSet → Answer) → Reading → Answer
after_reading id set go Falsified = Accepted
after_reading id set go (Forces l) = go (with_literal set l)
after_reading id set go Undecided = HintNotUnit id

-- one step: a hint must name a clause, which is read
abbrev pub after_hint : ℕ → LiteralSet → (LiteralSet → Answer) → Option (List Literal) → Answer
after_hint id set go None = NotLive id
after_hint id set go (Some c) = after_reading id set go (reading set c)

-- the steps along the hints, from a set of true literals
abbrev pub steps : Live → LiteralSet → List ℕ → Answer
steps live set [] = NoConflict
steps live set (id ∷ ids) = after_hint id set (λ next. steps live next ids) (live id)

-- the set of a list's literals
abbrev pub members : List Literal → LiteralSet
members ls q = list_any (same_literal q) ls

-- the negations of a clause's literals
abbrev pub negated : List Literal → LiteralSet
negated c = members (map negation c)

-- what the unit steps say of a lemma, whose literals they take as false
abbrev pub rup : Live → List Literal → List ℕ → Answer
rup live c hints = steps live (negated c) hints
