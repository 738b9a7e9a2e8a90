-- an arena: clauses by their places
use Rattle.std.specs.Prelude.{◌≡◌, ℕ, ◌+◌, List, [], length, Some, IsSome, is_some, unwrap_or}
use Rattle.std.specs.List.{sum_by}
use Rattle.std.specs.Ordering.{nat_cmp}
use Rattle.std.specs.FinMap as map
use Rattle.gr_logic.specs.Literals.{Literal}
use Rattle.gr_logic.specs.declared.places.Place.{Place}

-- a clause's id, its LBD (the literal block distance of Audemard and Simon, IJCAI 2009) and its literals
pub record Stored : Type 0 where
  pub id : ℕ
  pub lbd : ℕ
  pub lits : List Literal

-- the clauses by their places, and how many words they take with those that were removed
pub record ArenaState : Type 0 where
  pub clauses : map.FinMap nat_cmp Stored
  pub words : ℕ

-- there is a clause at the place
abbrev pub Has : ArenaState → Place → Type 0
Has a place = IsSome (map.get a.clauses place.0)

-- read where there is no clause alone
abbrev pub no_clause : Stored
no_clause = record { id = 0; lbd = 0; lits = [] }

-- the clause at a place
abbrev pub at : ArenaState → Place → Stored
at a place = unwrap_or (map.get a.clauses place.0) no_clause

-- the place has this clause, and each other place what it had
abbrev pub with_clause : ArenaState → Place → Stored → ArenaState
with_clause a place clause = record a { clauses = map.insert a.clauses place.0 clause }

-- the place has no clause, and each other place what it had
abbrev pub without_clause : ArenaState → Place → ArenaState
without_clause a place = record a { clauses = map.remove a.clauses place.0 }

-- how many words a clause takes
abbrev pub size : Stored → ℕ
size clause = 4 + length clause.lits

-- the same clauses at new places: each old place has a move to one of its own, where its clause is;
-- and there are no others, and no words but theirs
pub record IsCompaction (old new : ArenaState) (moves : map.FinMap nat_cmp ℕ) : Type 0 where
  pub moved : (p : ℕ) → is_some (map.get moves p) ≡ is_some (map.get old.clauses p)
  pub kept : (p q : ℕ) → map.get moves p ≡ Some q → map.get new.clauses q ≡ map.get old.clauses p
  pub apart : (p r q : ℕ) → map.get moves p ≡ Some q → map.get moves r ≡ Some q → p ≡ r
  pub onto : (q : ℕ) → IsSome (map.get new.clauses q) → (p : ℕ) × (map.get moves p ≡ Some q)
  pub words : new.words ≡ sum_by size (map.values new.clauses)
